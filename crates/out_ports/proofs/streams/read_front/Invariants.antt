use Rattle.std.proofs.Common.{◌≤◌, ◌-◌, length}
use Rattle.out_ports.proofs.Parts.{IsPartRead}
use Rattle.out_ports.proofs.streams.read_front.Given as goal

-- what was read and what is left make up what there was
abbrev pub invariant-loop-buf : goal.invariant-loop-buf
invariant-loop-buf g l = record {
  content : IsPartRead (g.I.Source.left l.initial.source) l.front.items (g.I.Source.left l.source);
  lasting : g.I.Source.faults l.initial.source ≤ g.I.Source.faults l.source;
}

abbrev pub decreases-loop-buf : goal.decreases-loop-buf
decreases-loop-buf g l = l.most - length l.front.items
