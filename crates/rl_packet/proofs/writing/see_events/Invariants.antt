use Rattle.std.proofs.Common.{drop, map}
use Rattle.pv_value.specs.Plain.{plains}
use Rattle.pv_value.specs.WellFormed.{AreWellFormed}
use Rattle.rl_packet.specs.Packets.{Dialect, aimed_value}
use Rattle.rl_packet.proofs.writing.see_events.Given as goal

-- where the events that are left are sound, all are
abbrev pub invariant-loop-event : goal.invariant-loop-event
invariant-loop-event l =
    (d : Dialect) → AreWellFormed (plains (map (aimed_value d) (drop l.event-index l.events)))
    → AreWellFormed (plains (map (aimed_value d) l.events))
