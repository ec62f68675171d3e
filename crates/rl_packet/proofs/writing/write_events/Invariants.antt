use Rattle.std.proofs.Common.{◌≡◌, ◌++◌, drop, map}
use Rattle.std.specs.Io.{StartsWith}
use Rattle.pv_value.specs.Plain.{plains}
use Rattle.pv_binary.specs.Written.{written_all}
use Rattle.rl_packet.specs.Packets.{aimed_value}
use Rattle.rl_packet.proofs.writing.write_events.Given as goal

abbrev pub invariant-loop-event : goal.invariant-loop-event
invariant-loop-event l =
    (l.out.items ++ written_all (plains (map (aimed_value l.dialect) (drop l.event-index l.events)))
    ≡ l.initial.out.items ++ written_all (plains (map (aimed_value l.dialect) l.events)))
    × StartsWith l.out.items l.initial.out.items
