-- The least of what constants tell.
use Rattle.std.proofs.Common.{◌≡◌, ℕ, zero, suc, ◌+◌, ◌-◌, ◌^◌, ◌<◌, ◌≤◌, min, List, [], ◌∷◌, length, get_or, drop}
use Rattle.std.proofs.Common.{refl, ap, sym, ◌∙◌, arith}
use Rattle.std.proofs.lemmas.List.{at_drop_more}
use Rattle.pv_value.specs.Plain.{Plain, sequence, plains}
use Rattle.pv_value.specs.Lemmas.Listed.{listed-plains}
use Rattle.ds_shape.specs.declared.paths.Step.{Step}
use Rattle.ds_shape.specs.Outlines.{Outline}
use Rattle.ds_facts.specs.Keeping.{Facts}
use Rattle.ds_facts.specs.Nearness.{constant_entry, told, fewest, fewest_at}

pub fewest_small : (it : Facts) (ps : List (List Step)) (ks : List Plain) → fewest it ps ks ≤ 2 ^ 64 - 1
fewest_small it [] ks = omega arith
fewest_small it (p ∷ ps) [] = omega arith
fewest_small it (p ∷ ps) (k ∷ ks) = omega (arith, fewest_small it ps ks)

pub fewest_step : (it : Facts) (ps : List (List Step)) (ks : List Plain) (i : ℕ) (p : List Step) (k : Plain)
    → i < length ps → i < length ks → p ≡ get_or ps i p → k ≡ get_or ks i k
    → fewest it (drop i ps) (drop i ks)
    ≡ min (told it (constant_entry p k)) (fewest it (drop (i + 1) ps) (drop (i + 1) ks))
fewest_step it ps ks i p k l m e f =
    at_drop_more (λ (qs : List (List Step)). fewest it qs (drop i ks)) ps i p l
    ∙ at_drop_more (λ (xs : List Plain). fewest it (get_or ps i p ∷ drop (i + 1) ps) xs) ks i k m
    ∙ (λ j. min (told it (constant_entry (sym e j) (sym f j))) (fewest it (drop (i + 1) ps) (drop (i + 1) ks)))

pub fewest_end : (it : Facts) (ps : List (List Step)) (ks : List Plain) (i : ℕ) → min (length ps) (length ks) ≤ i
    → fewest it (drop i ps) (drop i ks) ≡ 2 ^ 64 - 1
fewest_end it [] ks zero h = refl
fewest_end it [] ks (suc i) h = refl
fewest_end it (p ∷ ps) [] zero h = refl
fewest_end it (p ∷ ps) [] (suc i) h = no_constants it (drop i ps)
  where
    no_constants : (it : Facts) (qs : List (List Step)) → fewest it qs [] ≡ 2 ^ 64 - 1
    no_constants it [] = refl
    no_constants it (q ∷ qs) = refl
fewest_end it (p ∷ ps) (k ∷ ks) zero h = absurd (omega arith)
fewest_end it (p ∷ ps) (k ∷ ks) (suc i) h = fewest_end it ps ks i (omega arith)

pub most_first : (f : ℕ) → f ≤ 2 ^ 64 - 1 → min (2 ^ 64 - 1) f ≡ f
most_first f h = omega arith

pub least_step : (a b n t r d f : ℕ) → n ≡ min a b → b ≡ t → d ≡ min t r → min a d ≡ f → min n r ≡ f
least_step a b n t r d f e g h i = omega arith

pub small_step : (a b n : ℕ) → n ≡ min a b → a ≤ 2 ^ 64 - 1 → n ≤ 2 ^ 64 - 1
small_step a b n e h = omega arith

pub least_end : (a d f : ℕ) → d ≡ 2 ^ 64 - 1 → a ≤ 2 ^ 64 - 1 → min a d ≡ f → a ≡ f
least_end a d f e h g = omega arith

-- the constants as one value
pub fewest_sequence : (it : Facts) (o : Outline) (paths : List (List Step)) (ks : List Plain) (k : Plain)
    → paths ≡ o.constants → k ≡ sequence (plains ks) → fewest it paths ks ≡ fewest_at it o k
fewest_sequence it o paths ks k p e =
    ap (λ (ps : List (List Step)). fewest it ps ks) p
    ∙ ap (fewest it o.constants) (sym (listed-plains ks))
    ∙ ap (fewest_at it o) (sym e)
