-- What exports weigh: one export more or less makes the sum more or less by its weight.
use Rattle.std.proofs.Common.{◌≡◌, ℕ, ◌+◌, List, [], ◌∷◌, ◌++◌, length, Bool, true, false, cond, Some}
use Rattle.std.proofs.Common.{ap, arith}
use Rattle.std.specs.Map.{lookup, remove_entry, values_of}
use Rattle.pv_value.specs.Plain.{Plain}
use Rattle.pv_value.specs.Weight.{weight}
use Rattle.rl_ports.specs.Ports.{weight_of, told}

pub weight_of-append : (xs : List Plain) (r : Plain) → weight_of (xs ++ r ∷ []) ≡ weight_of xs + weight r
weight_of-append [] r = omega arith
weight_of-append (x ∷ xs) r = omega (arith, weight_of-append xs r)

-- a sum is told by what its parts are told as
pub told_sum : (m n : ℕ) → told (told m + told n) ≡ told (m + n)
told_sum m n = omega arith

pub weight_without : (r : Plain) (test : ℕ → Bool) (xs : List (ℕ × Plain)) → lookup test xs ≡ Some r
    → weight_of (values_of (remove_entry test xs)) + weight r ≡ weight_of (values_of xs)
weight_without r test [] is = absurd cc
weight_without r test (x ∷ xs) is = by (test x.0) is (weight_without r test xs)
  where
    by : (b : Bool) → cond b (Some x.1) (lookup test xs) ≡ Some r
        → (lookup test xs ≡ Some r → weight_of (values_of (remove_entry test xs)) + weight r ≡ weight_of (values_of xs))
        → weight_of (values_of (cond b xs (x ∷ remove_entry test xs))) + weight r ≡ weight x.1 + weight_of (values_of xs)
    by true found later =
        let same : x.1 ≡ r = cc in
        let at : weight x.1 ≡ weight r = ap weight same in omega (arith, at)
    by false found later = omega (arith, later found)

pub length_without : {X : Type 0} (x : X) (test : ℕ → Bool) (es : List (ℕ × X)) → lookup test es ≡ Some x
    → length (remove_entry test es) + 1 ≡ length es
length_without x test [] is = absurd cc
length_without {X = X} x test (e ∷ es) is = by (test e.0) is (length_without x test es)
  where
    by : (b : Bool) → cond b (Some e.1) (lookup test es) ≡ Some x
        → (lookup test es ≡ Some x → length (remove_entry test es) + 1 ≡ length es)
        → length (cond b es (e ∷ remove_entry test es)) + 1 ≡ length (e ∷ es)
    by true found later = omega arith
    by false found later = omega (arith, later found)
