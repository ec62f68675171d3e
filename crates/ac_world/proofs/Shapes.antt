-- Observations and keys of another shape aim at nothing.
use Rattle.std.proofs.Common.{◌≡◌, ℕ, List, [], ◌∷◌, length, false, None, refl, arith}
use Rattle.pv_value.specs.Plain.{Plain, symbol, record_of, sequence, embedded, plains}
use Rattle.ps_schema.specs.declared.Definition.{Definition}
use Rattle.ac_world.specs.Aims.{observer_in, aim_of}
use Rattle.ac_world.specs.Behaviours.{asks}

pub no_observer : (l : Plain) (fs : List Plain) → (length fs ≡ 2 → ⊥) → observer_in (record_of l (plains fs)) ≡ None
no_observer l [] h = refl
no_observer l (x ∷ []) h = refl
no_observer l (x ∷ y ∷ []) h = absurd (h (omega arith))
no_observer l (x ∷ embedded r ∷ z ∷ zs) h = refl
no_observer l (x ∷ y ∷ z ∷ zs) h = refl

pub no_aim : (ds : List Definition) (xs : List Plain) → (length xs ≡ 2 → ⊥)
    → aim_of ds (sequence (plains xs)) ≡ None
no_aim ds [] h = refl
no_aim ds (x ∷ []) h = refl
no_aim ds (x ∷ y ∷ []) h = absurd (h (omega arith))
no_aim ds (x ∷ y ∷ z ∷ zs) h = refl

pub no_asker : (l : List ℕ) (fs : List Plain) → (length fs ≡ 2 → ⊥) → asks (record_of (symbol l) (plains fs)) ≡ false
no_asker l [] h = refl
no_asker l (x ∷ []) h = refl
no_asker l (x ∷ y ∷ []) h = absurd (h (omega arith))
no_asker l (x ∷ y ∷ z ∷ zs) h = refl
