-- Lists of another length than the one that is looked for.
use Rattle.std.proofs.Common.{◌≡◌, ◌<◌, ℕ, List, [], ◌∷◌, length, pos, None, refl, arith}
use Rattle.pv_value.specs.Plain.{Plain, integer, sequence, symbol, record_of, plains}
use Rattle.ds_space.specs.References.{reference_of}
use Rattle.ds_space.specs.Wants.{observer_of, weight_of_key}

pub too_short : (xs : List Plain) → length xs < 2 → reference_of (sequence (plains xs)) ≡ None
too_short [] h = refl
too_short (integer (pos a) ∷ []) h = refl
too_short (x ∷ []) h = refl
too_short (x ∷ y ∷ zs) h = absurd (omega arith)

pub no_key : (xs : List Plain) → (length xs ≡ 2 → ⊥) → weight_of_key (sequence (plains xs)) ≡ 0
no_key [] h = refl
no_key (x ∷ []) h = refl
no_key (x ∷ y ∷ []) h = absurd (h (omega arith))
no_key (x ∷ y ∷ z ∷ zs) h = refl

pub no_observer : (s : List ℕ) (fs : List Plain) → (length fs ≡ 2 → ⊥) → observer_of (record_of (symbol s) (plains fs))
    ≡ None
no_observer s [] h = refl
no_observer s (x ∷ []) h = refl
no_observer s (x ∷ y ∷ []) h = absurd (h (omega arith))
no_observer s (x ∷ y ∷ z ∷ zs) h = refl
