-- Bytes that are alike, counted place by place.
use Rattle.std.proofs.Common.{◌≡◌, ℕ, ◌+◌, ◌≤◌, List, [], ◌∷◌, length, Bool}
use Rattle.std.proofs.Common.{◌==◌, ◌↔◌, IsTrue, refl, sym, subst, arith, if◌then◌else◌}
use Rattle.std.proofs.lemmas.Slice.Eq.{bytes_eq-Decides}
use Rattle.std.proofs.lemmas.Bool.Decides.{nat_tests}
use Rattle.std.specs.Str.{bytes_eq}

-- in how many places two lists are alike
abbrev pub alike : List ℕ → List ℕ → ℕ
alike [] ys = 0
alike (x ∷ xs) [] = 0
alike (x ∷ xs) (y ∷ ys) = (if x == y then 1 else 0) + alike xs ys

pub alike_most : (xs ys : List ℕ) → alike xs ys ≤ length xs
alike_most [] ys = omega arith
alike_most (x ∷ xs) [] = omega arith
alike_most (x ∷ xs) (y ∷ ys) = grind (arith, nat_tests, alike_most xs ys)

-- in all of them, where they are the same
pub alike_all : (xs ys : List ℕ) → length xs ≡ length ys → (alike xs ys == length xs) ≡ bytes_eq xs ys
alike_all [] [] e = refl
alike_all [] (y ∷ ys) e = absurd (omega (arith, e))
alike_all (x ∷ xs) [] e = absurd (omega (arith, e))
alike_all (x ∷ xs) (y ∷ ys) e =
    grind (arith, nat_tests, alike_most xs ys, alike_all xs ys (omega (arith, e)))

-- the test of two lists, of which the second is this one
pub decided : (b : Bool) (s t due : List ℕ) → b ≡ bytes_eq s t → t ≡ due → IsTrue b ↔ (s ≡ due)
decided b s t due is same =
    subst (λ d. IsTrue b ↔ (s ≡ d)) same (subst (λ u. IsTrue u ↔ (s ≡ t)) (sym is) (bytes_eq-Decides s t))
