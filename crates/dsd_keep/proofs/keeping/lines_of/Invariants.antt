use Rattle.std.proofs.Common.{◌≡◌, take}
use Rattle.pv_print.specs.Lines.{lines}
use Rattle.dsd_keep.proofs.keeping.lines_of.Given as goal

abbrev pub invariant-loop-value : goal.invariant-loop-value
invariant-loop-value l = l.text.items ≡ lines (take l.value-index l.values)
