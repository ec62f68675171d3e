-- Keys and what stands under them, as far as both go.
use Rattle.std.proofs.Common.{◌≡◌, ℕ, zero, suc, ◌+◌, ◌≤◌, min, max, List, [], ◌∷◌, length, map, take, refl, arith}
use Rattle.pv_value.specs.Depth.{deepest, deepest_pair}
use Rattle.pv_value.specs.View.{key_and_value}
use Rattle.pv_value.specs.Weight.{sizes_with, pair_sizes_with}
use Rattle.pv_value.specs.declared.Entry.{Entry}
use Rattle.sr_caveat.specs.Lemmas.Measures.{measure_all, measure_templates}
use Rattle.sr_caveat.specs.Patterns.{Pattern, Template}
use Rattle.sr_caveat.specs.Spelled.{paired_with, pattern_values, template_values}
use Rattle.sr_caveat.specs.View.{keys_of, listed_patterns, listed_templates}

-- ---- the first ones measure no more

pub patterns_front : (n : ℕ) (ps : List Pattern)
    → measure_all (listed_patterns (take n ps)) ≤ measure_all (listed_patterns ps)
patterns_front zero ps = omega arith
patterns_front (suc n) [] = omega arith
patterns_front (suc n) (p ∷ ps) = omega (arith, patterns_front n ps)

pub templates_front : (n : ℕ) (ts : List Template)
    → measure_templates (listed_templates (take n ts)) ≤ measure_templates (listed_templates ts)
templates_front zero ts = omega arith
templates_front (suc n) [] = omega arith
templates_front (suc n) (t ∷ ts) = omega (arith, templates_front n ts)

-- ---- keys and values apart

pub patterns_weight : (es : List Entry) (ps : List Pattern) (n : ℕ) → n ≡ min (length es) (length ps)
    → pair_sizes_with 48 (paired_with (keys_of (map key_and_value es)) (pattern_values (listed_patterns ps)))
    ≡ sizes_with 48 (keys_of (map key_and_value (take n es)))
    + sizes_with 48 (pattern_values (listed_patterns (take n ps)))
patterns_weight [] ps zero h = refl
patterns_weight [] ps (suc n) h = absurd (omega arith)
patterns_weight (e ∷ es) [] zero h = refl
patterns_weight (e ∷ es) [] (suc n) h = absurd (omega arith)
patterns_weight (e ∷ es) (p ∷ ps) zero h = absurd (omega arith)
patterns_weight (e ∷ es) (p ∷ ps) (suc n) h = omega (arith, patterns_weight es ps n (omega arith))

pub templates_weight : (es : List Entry) (ts : List Template) (n : ℕ) → n ≡ min (length es) (length ts)
    → pair_sizes_with 48 (paired_with (keys_of (map key_and_value es)) (template_values (listed_templates ts)))
    ≡ sizes_with 48 (keys_of (map key_and_value (take n es)))
    + sizes_with 48 (template_values (listed_templates (take n ts)))
templates_weight [] ts zero h = refl
templates_weight [] ts (suc n) h = absurd (omega arith)
templates_weight (e ∷ es) [] zero h = refl
templates_weight (e ∷ es) [] (suc n) h = absurd (omega arith)
templates_weight (e ∷ es) (t ∷ ts) zero h = absurd (omega arith)
templates_weight (e ∷ es) (t ∷ ts) (suc n) h = omega (arith, templates_weight es ts n (omega arith))

pub patterns_depth : (es : List Entry) (ps : List Pattern) (n : ℕ) → n ≡ min (length es) (length ps)
    → deepest_pair (paired_with (keys_of (map key_and_value es)) (pattern_values (listed_patterns ps)))
    ≡ max (deepest (keys_of (map key_and_value (take n es))))
    (deepest (pattern_values (listed_patterns (take n ps))))
patterns_depth [] ps zero h = refl
patterns_depth [] ps (suc n) h = absurd (omega arith)
patterns_depth (e ∷ es) [] zero h = refl
patterns_depth (e ∷ es) [] (suc n) h = absurd (omega arith)
patterns_depth (e ∷ es) (p ∷ ps) zero h = absurd (omega arith)
patterns_depth (e ∷ es) (p ∷ ps) (suc n) h = omega (arith, patterns_depth es ps n (omega arith))

pub templates_depth : (es : List Entry) (ts : List Template) (n : ℕ) → n ≡ min (length es) (length ts)
    → deepest_pair (paired_with (keys_of (map key_and_value es)) (template_values (listed_templates ts)))
    ≡ max (deepest (keys_of (map key_and_value (take n es))))
    (deepest (template_values (listed_templates (take n ts))))
templates_depth [] ts zero h = refl
templates_depth [] ts (suc n) h = absurd (omega arith)
templates_depth (e ∷ es) [] zero h = refl
templates_depth (e ∷ es) [] (suc n) h = absurd (omega arith)
templates_depth (e ∷ es) (t ∷ ts) zero h = absurd (omega arith)
templates_depth (e ∷ es) (t ∷ ts) (suc n) h = omega (arith, templates_depth es ts n (omega arith))
