use Rattle.std.proofs.Common.{ℕ, ◌+◌, ◌≤◌, List, ◌++◌, length, map}
use Rattle.std.specs.List.{AllByRecursion}
use Rattle.pv_value.specs.Plain.{Plain}
use Rattle.rl_packet.specs.Packets.{aimed_value}
use Rattle.rl_packet.specs.Wired.{IsTurnEvent}
use Rattle.rl_packet.specs.Spelled.{BeginsAll}
use Rattle.rl_packet.proofs.Missing.{Leave}
use Rattle.rl_packet.proofs.spelled.events_in.Given as goal

-- the events so far may stand in a turn, and what is left stands behind them; of events that begin the
-- bytes some begin what is left, which is shorter by a byte a turn of the loop
abbrev pub invariant-loop : goal.invariant-loop
invariant-loop l = record {
  good : AllByRecursion IsTurnEvent l.events.items;
  behind : (xs : List Plain) (r : List ℕ) → BeginsAll 63 l.rest xs r
      → BeginsAll 63 l.bytes (map (aimed_value l.dialect) l.events.items ++ xs) r;
  leave : Leave l.dialect l.bytes l.rest;
  short : length l.rest + l.counter ≤ length l.bytes;
}
