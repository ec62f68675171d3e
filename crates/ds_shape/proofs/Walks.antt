-- What a walk over two lists compares.
use Rattle.std.proofs.Common.{◌≡◌, ℕ, zero, suc, ◌≤◌, min, List, [], ◌∷◌, map, length, drop, refl, ◌∙◌, arith}
use Rattle.std.proofs.lemmas.Bool.Decides.{nat_tests}
use Rattle.std.specs.declared.cmp.Ordering.TheVariants.{Less, Greater}
use Rattle.std.specs.Ordering.{nat_cmp}
use Rattle.pv_value.specs.Plain.{Plain, plains}
use Rattle.pv_value.specs.Order.{orders}

nat_cmp_suc : (m n : ℕ) → nat_cmp (suc m) (suc n) ≡ nat_cmp m n
nat_cmp_suc m n = grind (arith, nat_tests)

nat_cmp_first : (n : ℕ) → nat_cmp 0 (suc n) ≡ Less
nat_cmp_first n = grind (arith, nat_tests)

nat_cmp_later : (n : ℕ) → nat_cmp (suc n) 0 ≡ Greater
nat_cmp_later n = grind (arith, nat_tests)

-- where one list ends, the lengths decide
pub orders_end : {A : Type 0} (f : A → Plain) (xs ys : List A) (i : ℕ) → i ≤ min (length xs) (length ys)
    → min (length xs) (length ys) ≤ i
    → nat_cmp (length xs) (length ys) ≡ orders (plains (map f (drop i xs))) (plains (map f (drop i ys)))
orders_end f [] [] zero h k = refl
orders_end f [] (y ∷ ys) zero h k = nat_cmp_first (length ys)
orders_end f (x ∷ xs) [] zero h k = nat_cmp_later (length xs)
orders_end f (x ∷ xs) (y ∷ ys) zero h k = absurd (omega arith)
orders_end f (x ∷ xs) (y ∷ ys) (suc i) h k =
    nat_cmp_suc (length xs) (length ys) ∙ orders_end f xs ys i (omega arith) (omega arith)
orders_end f xs ys i h k = absurd (omega arith)
