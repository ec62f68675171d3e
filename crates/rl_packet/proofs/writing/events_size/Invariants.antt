use Rattle.std.proofs.Common.{◌≡◌, ◌+◌, ◌≤◌, drop, min, map}
use Rattle.pv_value.specs.Plain.{plains}
use Rattle.pv_value.specs.Weight.{sizes_with}
use Rattle.rl_packet.specs.Packets.{aimed_value}
use Rattle.rl_packet.proofs.writing.events_size.Given as goal

abbrev pub invariant-loop-event : goal.invariant-loop-event
invariant-loop-event l = record {
  small : l.total ≤ 18446744073709551615;
  total : min (l.total + sizes_with 0 (plains (map (aimed_value l.dialect) (drop l.event-index l.events))))
      18446744073709551615
      ≡ min (sizes_with 0 (plains (map (aimed_value l.dialect) l.events))) 18446744073709551615;
}
