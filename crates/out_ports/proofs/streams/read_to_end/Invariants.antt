use Rattle.std.proofs.Common.{◌≤◌}
use Rattle.out_ports.proofs.Parts.{IsPartRead}
use Rattle.out_ports.proofs.streams.read_to_end.Given as goal

-- what was read and what is left make up what there was
abbrev pub invariant-loop : goal.invariant-loop
invariant-loop g l = record {
  content : IsPartRead (g.I.Source.left l.initial.source) l.all.items (g.I.Source.left l.source);
  lasting : g.I.Source.faults l.initial.source ≤ g.I.Source.faults l.source;
}
