-- What stands at paths.
use Rattle.std.proofs.Common.{◌≡◌, List, [], ◌∷◌, ◌++◌, map, Option, Some, None, option_map, option_and_then}
use Rattle.std.proofs.Common.{refl, ap, ◌∙◌}
use Rattle.pv_value.specs.Plain.{Plain}
use Rattle.pv_words.specs.Parts.{both}
use Rattle.ds_shape.specs.Paths.{Step, part_by, part_at, with_first, parts_at}

pub first_both : (o : Option Plain) (a b : Option (List Plain)) → with_first o (both a b) ≡ both (with_first o a) b
first_both None a b = refl
first_both (Some x) None b = refl
first_both (Some x) (Some xs) None = refl
first_both (Some x) (Some xs) (Some ys) = refl

pub first_map : (x : Plain) (o : Option (List Plain)) → option_map (λ cs. x ∷ cs) o ≡ with_first (Some x) o
first_map x None = refl
first_map x (Some xs) = refl

none_first : (a : Option (List Plain)) → a ≡ both (Some []) a
none_first None = refl
none_first (Some xs) = refl

pub parts_append : (ps qs : List (List Step)) (v : Plain) → parts_at (ps ++ qs) v ≡ both (parts_at ps v) (parts_at qs v)
parts_append [] qs v = none_first (parts_at qs v)
parts_append (p ∷ ps) qs v =
    ap (with_first (part_at p v)) (parts_append ps qs v) ∙ first_both (part_at p v) (parts_at ps v) (parts_at qs v)

-- what is under a step is what is of the part there
pub parts_under : (s : Step) (v w : Plain) (ps : List (List Step)) → part_by s v ≡ Some w
    → parts_at (map (λ path. s ∷ path) ps) v ≡ parts_at ps w
parts_under s v w [] e = refl
parts_under s v w (p ∷ ps) e =
    ap (λ o. with_first (option_and_then (part_at p) o) (parts_at (map (λ path. s ∷ path) ps) v)) e
    ∙ ap (with_first (part_at p w)) (parts_under s v w ps e)

-- ---- each of them, in order

found_by : (o : Option Plain) (a : Option (List Plain)) (x : Plain) (xs : List Plain) → o ≡ Some x → a ≡ Some xs
    → with_first o a ≡ Some (x ∷ xs)
found_by o a x xs e f = ap (λ p. with_first p a) e ∙ ap (with_first (Some x)) f

first_is : (o : Option Plain) (a : Option (List Plain)) (x : Plain) (xs : List Plain) → with_first o a ≡ Some (x ∷ xs)
    → (o ≡ Some x) × (a ≡ Some xs)
first_is None a x xs e = absurd cc
first_is (Some y) None x xs e = absurd cc
first_is (Some y) (Some ys) x xs e =
    let first : y ≡ x = cc in
    let rest : ys ≡ xs = cc in
    (ap Some first, ap Some rest)

first_is_some : (o : Option Plain) (a : Option (List Plain)) → with_first o a ≡ Some [] → ⊥
first_is_some None a e = cc
first_is_some (Some y) None e = cc
first_is_some (Some y) (Some ys) e = cc

pub parts_each : (paths : List (List Step)) (v : Plain) (xs : List Plain) → parts_at paths v ≡ Some xs
    → map (λ path. part_at path v) paths ≡ map Some xs
parts_each [] v [] e = refl
parts_each [] v (x ∷ xs) e = cc
parts_each (p ∷ ps) v [] e = absurd (first_is_some (part_at p v) (parts_at ps v) e)
parts_each (p ∷ ps) v (x ∷ xs) e =
    let h = first_is (part_at p v) (parts_at ps v) x xs e in
    λ i. h.0 i ∷ parts_each ps v xs h.1 i

pub each_parts : (paths : List (List Step)) (v : Plain) (xs : List Plain)
    → map (λ path. part_at path v) paths ≡ map Some xs → parts_at paths v ≡ Some xs
each_parts [] v [] e = refl
each_parts [] v (x ∷ xs) e = cc
each_parts (p ∷ ps) v [] e = cc
each_parts (p ∷ ps) v (x ∷ xs) e =
    let first : part_at p v ≡ Some x = cc in
    let rest : map (λ path. part_at path v) ps ≡ map Some xs = cc in
    found_by (part_at p v) (parts_at ps v) x xs first (each_parts ps v xs rest)
