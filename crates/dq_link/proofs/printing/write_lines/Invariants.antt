use Rattle.std.proofs.Common.{◌≡◌, ◌≤◌, take}
use Rattle.out_ports.specs.Ports.{Appends}
use Rattle.dq_core.specs.Lines.{lines_text}
use Rattle.dq_link.proofs.printing.write_lines.Given as goal

-- the first lines are written
abbrev pub invariant-loop-line : goal.invariant-loop-line
invariant-loop-line g l = record {
  written : Appends (g.O.Sink.held l.initial.out) (g.O.Sink.held l.out) (lines_text (take l.line-index l.lines));
  lasting : g.O.Sink.faults l.initial.out ≤ g.O.Sink.faults l.out;
  unfinished : g.O.Sink.finishes l.out ≡ g.O.Sink.finishes l.initial.out;
}
