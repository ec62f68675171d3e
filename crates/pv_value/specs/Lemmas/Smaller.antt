-- What stands in a list measures less than the list: measures of walks go by this.
use Rattle.std.specs.Prelude.{◌≡◌, ℕ, zero, suc, ◌<◌, List, [], ◌∷◌, map, length}
use Rattle.std.proofs.Common.{ap, arith, get_or}
use Rattle.pv_value.specs.Plain.{Plain, plains, pairs}
use Rattle.pv_value.specs.View.{key_and_value}
use Rattle.pv_value.specs.Lemmas.Measures.{measure, measure_all, measure_pairs}
use Rattle.pv_value.specs.declared.Entry.{Entry}

pub measure_at : (xs : List Plain) (i : ℕ) (x : Plain) → i < length xs → x ≡ get_or xs i x
    → measure x < measure_all (plains xs)
measure_at [] i x h e = absurd (omega arith)
measure_at (y ∷ ys) zero x h e = omega (arith, ap measure e)
measure_at (y ∷ ys) (suc i) x h e = omega (arith, measure_at ys i x (omega arith) e)

pub entry_measure_at : (es : List Entry) (i : ℕ) (x : Entry) → i < length es → x ≡ get_or es i x
    → (measure x.key < measure_pairs (pairs (map key_and_value es)))
    × (measure x.value < measure_pairs (pairs (map key_and_value es)))
entry_measure_at [] i x h e = absurd (omega arith)
entry_measure_at (y ∷ ys) zero x h e =
    (omega (arith, ap (λ (z : Entry). measure z.key) e), omega (arith, ap (λ (z : Entry). measure z.value) e))
entry_measure_at (y ∷ ys) (suc i) x h e =
    let r = entry_measure_at ys i x (omega arith) e in
    (omega (arith, r.0), omega (arith, r.1))
