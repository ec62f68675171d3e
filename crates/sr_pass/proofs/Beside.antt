-- Patterns and values, one beside the other.
use Rattle.std.proofs.Common.{◌≡◌, ℕ, ◌<◌, ◌≤◌, min, ltb, List, [], ◌∷◌, length, drop, map, Bool}
use Rattle.std.proofs.Common.{true, false, Option, Some, None, is_some, option_and_then, refl, ap, ◌∙◌, arith}
use Rattle.std.proofs.lemmas.Bool.Decides.{nat_tests}
use Rattle.pv_value.specs.Plain.{Plain, Plains, plains, no_more, PlainPairs}
use Rattle.pv_value.specs.declared.Entry.{Entry}
use Rattle.pv_value.specs.View.{key_and_value}
use Rattle.pv_words.specs.Parts.{both, value_under}
use Rattle.sr_caveat.specs.Patterns.{Pattern, Patterns, no_patterns, then_pattern}
use Rattle.sr_caveat.specs.View.{listed_patterns, keys_of}
use Rattle.sr_caveat.specs.Lemmas.Dropping.{drop_end}
use Rattle.sr_pass.specs.Binding.{bound, each_bound, under_keys, with_value}
use Rattle.sr_pass.specs.Gathered.{each_gathered, gathered_under}

-- ---- not as many values as patterns

both_false : (a b : Option (List Plain)) → false ≡ is_some b → false ≡ is_some (both a b)
both_false None b h = refl
both_false (Some cs) None h = refl
both_false (Some cs) (Some ds) h = absurd cc

pub lengths_differ : (ps : List Pattern) (xs : List Plain) → (length ps ≡ length xs → ⊥)
    → false ≡ is_some (each_bound (listed_patterns ps) (plains xs))
lengths_differ [] [] h = absurd (h refl)
lengths_differ [] (x ∷ xs) h = refl
lengths_differ (p ∷ ps) [] h = refl
lengths_differ (p ∷ ps) (x ∷ xs) h =
    both_false (bound p x) (each_bound (listed_patterns ps) (plains xs)) (lengths_differ ps xs (λ e. h (omega arith)))

none_for_more : (o : Option Plain) (r : Option Plains)
    → false ≡ is_some (option_and_then (each_bound no_patterns) (with_value o r))
none_for_more None r = refl
none_for_more (Some x) None = refl
none_for_more (Some x) (Some xs) = refl

false_later : (p : Pattern) (ps : Patterns) (o : Option Plain) (r : Option Plains)
    → false ≡ is_some (option_and_then (each_bound ps) r)
    → false ≡ is_some (option_and_then (each_bound (then_pattern p ps)) (with_value o r))
false_later p ps None r h = refl
false_later p ps (Some x) None h = refl
false_later p ps (Some x) (Some xs) h = both_false (bound p x) (each_bound ps xs) h

pub keys_differ : (ps : List Pattern) (ks : List Entry) (qs : PlainPairs) → (length ps ≡ length ks → ⊥)
    → false ≡ is_some (option_and_then (each_bound (listed_patterns ps))
    (under_keys (keys_of (map key_and_value ks)) qs))
keys_differ [] [] qs h = absurd (h refl)
keys_differ [] (k ∷ ks) qs h = none_for_more (value_under qs k.key) (under_keys (keys_of (map key_and_value ks)) qs)
keys_differ (p ∷ ps) [] qs h = refl
keys_differ (p ∷ ps) (k ∷ ks) qs h =
    false_later p (listed_patterns ps) (value_under qs k.key) (under_keys (keys_of (map key_and_value ks)) qs)
    (keys_differ ps ks qs (λ e. h (omega arith)))

-- ---- nothing is gathered past the end

no_values : (ps : Patterns) → each_gathered ps no_more ≡ []
no_values no_patterns = refl
no_values (then_pattern p ps) = refl

no_keys : (ps : Patterns) (qs : PlainPairs) → gathered_under ps no_more qs ≡ []
no_keys no_patterns qs = refl
no_keys (then_pattern p ps) qs = refl

pub each_end : (ps : List Pattern) (xs : List Plain) (i : ℕ) → min (length ps) (length xs) ≤ i
    → each_gathered (listed_patterns (drop i ps)) (plains (drop i xs)) ≡ []
each_end ps xs i h = by (ltb i (length ps)) refl
  where
    by : (b : Bool) → ltb i (length ps) ≡ b → each_gathered (listed_patterns (drop i ps)) (plains (drop i xs)) ≡ []
    by false is =
        let e : length ps ≤ i = grind (arith, nat_tests) in
        ap (λ qs. each_gathered (listed_patterns qs) (plains (drop i xs))) (drop_end ps i e)
    by true is =
        let l : i < length ps = grind (arith, nat_tests) in
        ap (λ ys. each_gathered (listed_patterns (drop i ps)) (plains ys)) (drop_end xs i (omega arith))
        ∙ no_values (listed_patterns (drop i ps))

pub under_end : (ps : List Pattern) (ks : List Entry) (qs : PlainPairs) (i : ℕ) → min (length ps) (length ks) ≤ i
    → gathered_under (listed_patterns (drop i ps)) (keys_of (map key_and_value (drop i ks))) qs ≡ []
under_end ps ks qs i h = by (ltb i (length ps)) refl
  where
    by : (b : Bool) → ltb i (length ps) ≡ b
        → gathered_under (listed_patterns (drop i ps)) (keys_of (map key_and_value (drop i ks))) qs ≡ []
    by false is =
        let e : length ps ≤ i = grind (arith, nat_tests) in
        ap (λ rs. gathered_under (listed_patterns rs) (keys_of (map key_and_value (drop i ks))) qs) (drop_end ps i e)
    by true is =
        let l : i < length ps = grind (arith, nat_tests) in
        ap (λ ls. gathered_under (listed_patterns (drop i ps)) (keys_of (map key_and_value ls)) qs)
        (drop_end ks i (omega arith))
        ∙ no_keys (listed_patterns (drop i ps)) qs
