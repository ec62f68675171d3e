use Rattle.std.proofs.Common.{arith, sym, ap, length}
use Rattle.std.proofs.lemmas.Bool.{ltb-true, ltb-false}
use Rattle.ac_groups.proofs.Pairs.{no_parts}
use Rattle.ac_groups.proofs.parts.parts.Goals as goal
use Rattle.ac_groups.proofs.parts.parts.Goals.{in_default-as_slice-via-then-as_slice-lt2}
use Rattle.ac_groups.proofs.parts.parts.Goals.{in_default-as_slice-via-else-as_slice-lt2+else-this-lt3}

pub returns-in_default-as_slice : goal.returns-in_default-as_slice
returns-in_default-as_slice c =
    let same = ap length c.as_slice.ensures.same in
    rw (← c.key.view_is, c.in-Seq.is)
    (sym (no_parts c.in-Seq.items
    (λ e. elim c.in_default-as_slice.branch [
      | in_default-as_slice-via-then-as_slice-lt2 w ↦ omega (arith, ltb-true, same)
      | in_default-as_slice-via-else-as_slice-lt2+else-this-lt3 w ↦ omega (arith, ltb-false, same)
    ])))
