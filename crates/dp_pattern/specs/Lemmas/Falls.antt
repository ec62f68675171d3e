-- Each pattern inside a pattern is smaller, and so is each pattern of a list of fields.
use Rattle.std.specs.Prelude.{◌≡◌, ℕ, zero, suc, ◌≤◌, ◌<◌, max, List, [], ◌∷◌, length}
use Rattle.std.proofs.Common.{arith, ap, get_or}
use denote.Param.Weighed.{most}
use Rattle.dp_pattern.specs.Lemmas.Measures.{measure, measure_fields}
use Rattle.dp_pattern.specs.View.{view_form, listed_fields}
use Rattle.dp_pattern.specs.declared.Field.{Field}
use Rattle.dp_pattern.specs.declared.Form.{Form}
use Rattle.dp_pattern.specs.declared.Form.TheVariants.{Discard, Bind, Lit, Group}
use Rattle.dp_pattern.specs.declared.DPat.TheDeep.{deep-Form, deep-Field}

pub most-fields : (fs : List Field) → most deep-Field fs ≤ measure_fields (listed_fields fs)
most-fields [] = omega arith
most-fields (f ∷ fs) = omega (arith, most-fields fs)

pub falls : (n : Form) → max (deep-Form n) 0 ≤ measure (view_form n)
falls Discard = omega arith
falls (Bind p) = omega arith
falls (Lit v) = omega arith
falls (Group g fs) = omega (arith, most-fields fs.items)

pub field_measure_at : (fs : List Field) (i : ℕ) (f : Field) → i < length fs → f ≡ get_or fs i f
    → measure f.pattern < measure_fields (listed_fields fs)
field_measure_at [] i f h e = absurd (omega arith)
field_measure_at (g ∷ gs) zero f h e = omega (arith, ap (λ (z : Field). measure z.pattern) e)
field_measure_at (g ∷ gs) (suc i) f h e = omega (arith, field_measure_at gs i f (omega arith) e)
