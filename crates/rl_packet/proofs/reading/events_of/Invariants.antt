use Rattle.std.proofs.Common.{◌≡◌, map, take}
use Rattle.std.specs.List.{AllByRecursion}
use Rattle.rl_packet.specs.Packets.{aimed_value}
use Rattle.rl_packet.specs.Grammar.{IsTurnEvent}
use Rattle.rl_packet.proofs.reading.events_of.Given as goal

abbrev pub invariant-loop-item : goal.invariant-loop-item
invariant-loop-item l = record {
  good : AllByRecursion IsTurnEvent l.events.items;
  same : map (aimed_value l.dialect) l.events.items ≡ take l.item-index l.items;
}
