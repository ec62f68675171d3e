use Rattle.std.proofs.Common.{◌≡◌, ◌++◌, length}
use Rattle.pv_print.specs.Escaped.{escaped}
use Rattle.std.specs.Io.{StartsWith}
use Rattle.pv_print.proofs.atoms.push_escapes.Given as goal

abbrev pub invariant-loop-rest : goal.invariant-loop-rest
invariant-loop-rest l = record {
  text : l.out.items ++ escaped l.quote l.rest ≡ l.initial.out.items ++ escaped l.quote l.text;
  front : StartsWith l.out.items l.initial.out.items;
}

abbrev pub decreases-loop-rest : goal.decreases-loop-rest
decreases-loop-rest l = length l.rest
