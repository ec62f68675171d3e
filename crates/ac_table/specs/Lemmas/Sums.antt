-- Sums of members of which each ends at the greatest 64-bit number.
use Rattle.std.proofs.Common.{◌≡◌, ℕ, ◌+◌, ◌*◌, ◌-◌, ◌^◌, ◌≤◌, List, [], ◌∷◌, ◌++◌, length, refl, arith}
use Rattle.ac_table.specs.Sums.{top, sum_of}

-- the sum of the members as they are
abbrev pub whole_of : {X : Type 0} → (X → ℕ) → List X → ℕ
whole_of f [] = 0
whole_of f (x ∷ xs) = f x + whole_of f xs

-- both are told alike
pub sum_of-top : {X : Type 0} (f : X → ℕ) (xs : List X) → top (sum_of f xs) ≡ top (whole_of f xs)
sum_of-top f [] = refl
sum_of-top f (x ∷ xs) = grind (arith, sum_of-top f xs)

pub sum_of-push : {X : Type 0} (f : X → ℕ) (xs : List X) (x : X) → sum_of f (xs ++ x ∷ []) ≡ sum_of f xs + top (f x)
sum_of-push f [] x = grind arith
sum_of-push f (y ∷ ys) x = grind (arith, sum_of-push f ys x)

-- n members of 64 bits come to no more than n times the greatest
pub sum_of-fits : {X : Type 0} (f : X → ℕ) (xs : List X) → sum_of f xs ≤ length xs * (2 ^ 64 - 1)
sum_of-fits f [] = omega arith
sum_of-fits f (x ∷ xs) = omega (arith, sum_of-fits f xs)
