use Rattle.std.proofs.Common.{drop}
use Rattle.std.specs.List.{AllByRecursion}
use Rattle.rl_packet.specs.Wired.{IsTurnEvent}
use Rattle.rl_packet.proofs.reading.are_turn_events.Given as goal

-- where those that are left may stand in a packet, all may
abbrev pub invariant-loop-event : goal.invariant-loop-event
invariant-loop-event l =
    AllByRecursion IsTurnEvent (drop l.event-index l.events) → AllByRecursion IsTurnEvent l.events
