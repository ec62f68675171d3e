-- Values that have too few parts, or too many, to be what is looked for.
use Rattle.std.proofs.Common.{◌≡◌, ℕ, ◌<◌, ◌≤◌, List, [], ◌∷◌, length, None, refl, arith}
use Rattle.pv_value.specs.Plain.{Plain, sequence, plains}
use Rattle.pv_words.specs.Words.{labelled}
use Rattle.dq_core.specs.Words.{pair_oid, accepted_oid}

pub few_items : (xs : List Plain) → length xs < 2 → None ≡ pair_oid (sequence (plains xs))
few_items [] l = refl
few_items (x ∷ []) l = refl
few_items (x ∷ y ∷ zs) l = absurd (omega arith)

pub many_items : (xs : List Plain) → 3 ≤ length xs → None ≡ pair_oid (sequence (plains xs))
many_items [] l = absurd (omega arith)
many_items (x ∷ []) l = absurd (omega arith)
many_items (x ∷ y ∷ []) l = absurd (omega arith)
many_items (x ∷ y ∷ z ∷ zs) l = refl

pub many_fields : (word : List ℕ) (fs : List Plain) → 2 ≤ length fs → None ≡ accepted_oid (labelled word fs)
many_fields word [] l = absurd (omega arith)
many_fields word (x ∷ []) l = absurd (omega arith)
many_fields word (x ∷ y ∷ fs) l = refl
