-- Both parts of an entry are lighter than the list in which it stands.
use Rattle.std.proofs.Common.{◌≡◌, ℕ, zero, suc, ◌+◌, ◌<◌, List, [], ◌∷◌, map, length, get_or, ap, arith}
use Rattle.pv_value.specs.Plain.{pairs}
use Rattle.pv_value.specs.Lemmas.Measures.{measure, measure_pairs}
use Rattle.pv_value.specs.View.{key_and_value}
use Rattle.pv_value.specs.declared.Entry.{Entry}

pub both_measure_at : (es : List Entry) (i : ℕ) (x : Entry) → i < length es → x ≡ get_or es i x
    → measure x.key + measure x.value < measure_pairs (pairs (map key_and_value es))
both_measure_at [] i x h e = absurd (omega arith)
both_measure_at (y ∷ ys) zero x h e =
    omega (arith, ap (λ (z : Entry). measure z.key) e, ap (λ (z : Entry). measure z.value) e)
both_measure_at (y ∷ ys) (suc i) x h e = omega (arith, both_measure_at ys i x (omega arith) e)
