use Rattle.std.proofs.Common.{◌≡◌, map, take}
use Rattle.rl_packet.specs.Packets.{aimed_value}
use Rattle.rl_packet.proofs.packets.turn_value.Given as goal

abbrev pub invariant-loop-event : goal.invariant-loop-event
invariant-loop-event l = l.items.items ≡ map (aimed_value l.dialect) (take l.event-index l.event-items)
