-- Tests on lists, and what they let through.
use Rattle.std.proofs.Common.{◌≡◌, List, [], ◌∷◌, ◌++◌, ◌&&◌, Bool, true, false, cond, filter}
use Rattle.std.proofs.Common.{refl, ap, sym, ◌∙◌, arith}
use Rattle.std.proofs.lemmas.List.{append_assoc}
use Rattle.std.specs.List.{AllByRecursion, list_any, flat_map}

pub any_same : {X : Type 0} (f g : X → Bool) → ((x : X) → f x ≡ g x) → (xs : List X) → list_any f xs ≡ list_any g xs
any_same f g same [] = refl
any_same f g same (x ∷ xs) = grind (arith, same x, any_same f g same xs)

pub filter_same : {X : Type 0} (f g : X → Bool) (xs : List X) → AllByRecursion (λ x. f x ≡ g x) xs
    → filter f xs ≡ filter g xs
filter_same f g [] same = refl
filter_same f g (x ∷ xs) same = λ i. cond (same.0 i) (x ∷ filter_same f g xs same.1 i) (filter_same f g xs same.1 i)

-- two tests one after the other
pub filter_filter : {X : Type 0} (f g : X → Bool) (xs : List X)
    → filter f (filter g xs) ≡ filter (λ x. g x && f x) xs
filter_filter f g [] = refl
filter_filter {X = X} f g (x ∷ xs) = by (g x) (filter_filter f g xs)
  where
    by : (b : Bool) → filter f (filter g xs) ≡ filter (λ x. g x && f x) xs
        → filter f (cond b (x ∷ filter g xs) (filter g xs))
        ≡ cond (b && f x) (x ∷ filter (λ x. g x && f x) xs) (filter (λ x. g x && f x) xs)
    by true later = ap (λ ys. cond (f x) (x ∷ ys) ys) later
    by false later = later

-- what is true of each element
pub all_from : {X : Type 0} (P : X → Type 0) → ((x : X) → P x) → (xs : List X) → AllByRecursion P xs
all_from P each [] = tt
all_from P each (x ∷ xs) = (each x, all_from P each xs)

-- where all pass, all stay
pub filter_all : {X : Type 0} (f : X → Bool) (xs : List X) → AllByRecursion (λ x. f x ≡ true) xs → filter f xs ≡ xs
filter_all f [] all = refl
filter_all f (x ∷ xs) all =
    (λ i. cond (all.0 i) (x ∷ filter f xs) (filter f xs)) ∙ ap (λ ys. x ∷ ys) (filter_all f xs all.1)

-- ---- what a list leads to

pub flat_map_append : {X A : Type 0} (f : X → List A) (xs ys : List X) → flat_map f (xs ++ ys)
    ≡ flat_map f xs ++ flat_map f ys
flat_map_append f [] ys = refl
flat_map_append f (x ∷ xs) ys =
    ap (λ zs. f x ++ zs) (flat_map_append f xs ys) ∙ sym (append_assoc (f x) (flat_map f xs) (flat_map f ys))
