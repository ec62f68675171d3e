use Rattle.std.proofs.Common.{◌≡◌, ◌+◌, ℕ}
use Rattle.std.specs.List.{AllByRecursion}
use Rattle.rl_packet.specs.Wired.{IsTurnEvent}
use Rattle.sc_load.specs.Loads.{after, events_of, loads}
use Rattle.sc_load.proofs.items.loads.Given as goal

-- so many items are drawn for
abbrev pub invariant-loop-further : goal.invariant-loop-further
invariant-loop-further l = record {
  may : AllByRecursion IsTurnEvent l.events.items;
  events : (start : ℕ) → l.initial.draws.number ≡ after start l.first
      → l.events.items ≡ events_of (loads start) l.first l.further;
  draws : (start : ℕ) → l.initial.draws.number ≡ after start l.first
      → l.draws.number ≡ after start (l.first + l.further);
}
