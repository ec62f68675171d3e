-- Values are compared alike either way round, and tests of lists.
use Rattle.std.proofs.Common.{◌≡◌, List, [], ◌∷◌, ◌++◌, map, Bool, true, false, cond, ◌||◌, refl, ap, sym, ◌∙◌}
use Rattle.std.specs.List.{list_any, flat_map}
use Rattle.std.specs.Map.Iter.{deref}
use Rattle.std.specs.Borrow.{Bor}
use Rattle.std.specs.Cmp.{eq_by_cmp_equiv}
use Rattle.pv_value.specs.Plain.{Plain}
use Rattle.pv_value.specs.Lemmas.OrderLaws.{order_total}
use Rattle.pv_words.specs.Parts.{same}

pub same_turns : (x y : Plain) → same x y ≡ same y x
same_turns x y = (eq_by_cmp_equiv order_total).symm x y

pub or_cond : (a y : Bool) → cond a true y ≡ (y || a)
or_cond true true = refl
or_cond true false = refl
or_cond false true = refl
or_cond false false = refl

pub or_false : (b : Bool) → (b || false) ≡ b
or_false true = refl
or_false false = refl

pub or_assoc : (a b c : Bool) → ((a || b) || c) ≡ (a || (b || c))
or_assoc true b c = refl
or_assoc false b c = refl

pub any_same : {X : Type 0} (p q : X → Bool) (xs : List X) → ((x : X) → p x ≡ q x) → list_any p xs ≡ list_any q xs
any_same p q [] h = refl
any_same p q (x ∷ xs) h = λ i. h x i || any_same p q xs h i

pub any_append : {X : Type 0} (p : X → Bool) (xs ys : List X) → list_any p (xs ++ ys) ≡ (list_any p xs || list_any p ys)
any_append p [] ys = refl
any_append p (x ∷ xs) ys =
    ap (λ b. p x || b) (any_append p xs ys) ∙ sym (or_assoc (p x) (list_any p xs) (list_any p ys))

pub any_flat : {X Y : Type 0} (p : Y → Bool) (f : X → List Y) (xs : List X)
    → list_any p (flat_map f xs) ≡ list_any (λ x. list_any p (f x)) xs
any_flat p f [] = refl
any_flat p f (x ∷ xs) = any_append p (f x) (flat_map f xs) ∙ ap (λ b. list_any p (f x) || b) (any_flat p f xs)

pub any_none : {X : Type 0} (p : X → Bool) (xs : List X) → ((x : X) → p x ≡ false) → list_any p xs ≡ false
any_none p [] h = refl
any_none p (x ∷ xs) h = rw (h x) (any_none p xs h)

pub any-seen_push : (p : Plain → Bool) (xs : List (Bor Plain)) (y : Bor Plain)
    → list_any p (map deref (xs ++ y ∷ [])) ≡ (list_any p (map deref xs) || p y.now)
any-seen_push p [] y = or_false (p y.now)
any-seen_push p (x ∷ xs) y =
    ap (λ b. p x.now || b) (any-seen_push p xs y) ∙ sym (or_assoc (p x.now) (list_any p (map deref xs)) (p y.now))
