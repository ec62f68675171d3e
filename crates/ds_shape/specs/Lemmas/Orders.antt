-- Sequences that are one have the same items.
use Rattle.std.proofs.Common.{◌≡◌, List, [], ◌∷◌, refl, ap}
use Rattle.pv_value.specs.Plain.{Plain, sequence, plains}

pub plains_same : (xs ys : List Plain) → sequence (plains xs) ≡ sequence (plains ys) → xs ≡ ys
plains_same [] [] e = refl
plains_same [] (y ∷ ys) e = cc
plains_same (x ∷ xs) [] e = cc
plains_same (x ∷ xs) (y ∷ ys) e =
    let first : x ≡ y = cc in
    let rest : plains xs ≡ plains ys = cc in
    λ i. first i ∷ plains_same xs ys (ap sequence rest) i
