use Rattle.std.proofs.Common.{◌≤◌}
use Rattle.out_ports.proofs.Parts.{IsPartKept}
use Rattle.out_ports.proofs.streams.read_kept.Given as goal

-- what was read and what is left make up what there was, and the first bytes of what was read are kept
abbrev pub invariant-loop : goal.invariant-loop
invariant-loop g l = record {
  content : IsPartKept l.most (g.I.Source.left l.initial.source) l.front.items (g.I.Source.left l.source);
  lasting : g.I.Source.faults l.initial.source ≤ g.I.Source.faults l.source;
}
