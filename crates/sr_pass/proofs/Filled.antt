-- Lists and dictionaries of what templates give.
use Rattle.std.proofs.Common.{◌≡◌, List, [], ◌∷◌, length, Option, Some, None, cond, ◌==◌, Bool, true, false, refl, ap}
use Rattle.std.proofs.Common.{◌∙◌, sym, arith}
use Rattle.std.proofs.lemmas.Bool.Decides.{nat_tests}
use Rattle.pv_value.specs.Plain.{Plain, plains, dictionary, listed}
use Rattle.sr_caveat.specs.Spelled.{paired_with}
use Rattle.sr_caveat.specs.View.{keys_of}
use Rattle.sr_caveat.specs.Lemmas.Folding.{folded}
use Rattle.sr_pass.specs.Filling.{dictionary_under, with_first}

abbrev pub put_first : Plain → Option (List Plain) → Option (List Plain)
put_first v r = with_first (Some v) r

pub folded_values : (vs : List Plain) → folded put_first vs (Some []) ≡ Some vs
folded_values [] = refl
folded_values (v ∷ vs) = ap (put_first v) (folded_values vs)

-- ---- as many values as keys

keys_length : (ks : List (Plain × Plain)) → length (listed (keys_of ks)) ≡ length ks
keys_length [] = refl
keys_length (k ∷ ks) = omega (arith, keys_length ks)

pub dictionary_there : (ks : List (Plain × Plain)) (xs : List Plain) → length ks ≡ length xs
    → Some (dictionary (paired_with (keys_of ks) (plains xs))) ≡ dictionary_under (keys_of ks) xs
dictionary_there ks xs h = by (length (listed (keys_of ks)) == length xs) refl
  where
    by : (b : Bool) → (length (listed (keys_of ks)) == length xs) ≡ b
        → Some (dictionary (paired_with (keys_of ks) (plains xs)))
        ≡ cond {A = Option Plain} b (Some (dictionary (paired_with (keys_of ks) (plains xs)))) None
    by true e = refl
    by false e = let n : length (listed (keys_of ks)) ≡ length xs = keys_length ks
        ∙ h in absurd (grind (arith, nat_tests))

pub dictionary_not : (ks : List (Plain × Plain)) (xs : List Plain) → (length ks ≡ length xs → ⊥)
    → None ≡ dictionary_under (keys_of ks) xs
dictionary_not ks xs h = by (length (listed (keys_of ks)) == length xs) refl
  where
    by : (b : Bool) → (length (listed (keys_of ks)) == length xs) ≡ b
        → None ≡ cond {A = Option Plain} b (Some (dictionary (paired_with (keys_of ks) (plains xs)))) None
    by false e = refl
    by true e =
        let n : length (listed (keys_of ks)) ≡ length xs = grind (arith, nat_tests) in
        absurd (h (sym (keys_length ks) ∙ n))
