use Rattle.std.proofs.Common.{◌-◌, List, ◌++◌, drop, length}
use Rattle.rl_packet.specs.Packets.{TurnEvent}
use Rattle.rl_packet.specs.Kept.{IsKept}
use Rattle.rl_packet.proofs.holding.Kept.turn_before.Given as goal

-- the last events of the turn are seen to
abbrev pub invariant-loop-done : goal.invariant-loop-done
invariant-loop-done l =
    (later : List TurnEvent) → IsKept later l.fn.self
    → IsKept (drop (length l.events - l.done) l.events ++ later) l.self
