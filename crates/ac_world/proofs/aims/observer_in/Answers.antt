use Rattle.std.proofs.Common.{arith, sym, ap, length, ◌∙◌}
use Rattle.std.proofs.lemmas.Bool.{ltb-true, ltb-false}
use Rattle.ac_world.proofs.Shapes.{no_observer}
use Rattle.ac_world.proofs.aims.observer_in.Goals as goal
use Rattle.ac_world.proofs.aims.observer_in.Goals.{in_default-as_slice-via-then-as_slice-lt2}
use Rattle.ac_world.proofs.aims.observer_in.Goals.{in_default-as_slice-via-else-as_slice-lt2+else-this-lt3}

pub returns-in_default-as_slice : goal.returns-in_default-as_slice
returns-in_default-as_slice c =
    let same = ap length (c.as_slice.ensures.value ∙ ap (λ r. r.fields.items) c.deref.ensures) in
    rw (← c.observation.view_is, c.in-Rec.is)
    (sym (no_observer c.in-Rec.record.value.label c.in-Rec.record.value.fields.items
    (λ e. elim c.in_default-as_slice.branch [
      | in_default-as_slice-via-then-as_slice-lt2 w ↦ omega (arith, ltb-true, same)
      | in_default-as_slice-via-else-as_slice-lt2+else-this-lt3 w ↦ omega (arith, ltb-false, same)
    ])))
