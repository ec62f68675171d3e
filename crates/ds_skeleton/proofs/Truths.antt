-- Tests, and members of lists that pass them.
use Rattle.std.proofs.Common.{◌≡◌, List, [], ◌∷◌, Bool, true, false, ◌||◌, not, refl, ap, sym, subst}
use Rattle.std.specs.List.{list_any}
use Rattle.pv_value.specs.Plain.{Plain}
use Rattle.pv_words.specs.Lemmas.Same.{same_is, same_self}
use Rattle.pv_words.specs.Parts.{same}
use Rattle.ds_space.specs.Changes.{among}

clash : {A : Type 0} → true ≡ false → A
clash e = cc

pub same_truth : (a b : Bool) → (a ≡ true → b ≡ true) → (b ≡ true → a ≡ true) → a ≡ b
same_truth true b f g = sym (f refl)
same_truth false true f g = g refl
same_truth false false f g = refl

pub not_true : (b : Bool) → not b ≡ true → b ≡ false
not_true true e = sym e
not_true false e = refl

pub not_false : (b : Bool) → not b ≡ false → b ≡ true
not_false true e = refl
not_false false e = sym e

pub or_true : (a b : Bool) → b ≡ true → (a || b) ≡ true
or_true true b e = refl
or_true false b e = e

pub any_at : (p : Plain → Bool) (x : Plain) (ws : List Plain) → p x ≡ true → among x ws ≡ true → list_any p ws ≡ true
any_at p x [] t e = cc
any_at p x (w ∷ ws) t e = by (same x w) refl e (any_at p x ws t)
  where
    first : (a b : Bool) → a ≡ true → (a || b) ≡ true
    first true b i = refl
    first false b i = cc

    by : (b : Bool) → same x w ≡ b → (b || among x ws) ≡ true → (among x ws ≡ true → list_any p ws ≡ true)
        → (p w || list_any p ws) ≡ true
    by true is f i = first (p w) (list_any p ws) (subst (λ (z : Plain). p z ≡ true) (same_is x w is) t)
    by false is f i = or_true (p w) (list_any p ws) (i f)

-- one that passes
pub witness : (p : Plain → Bool) (xs : List Plain) → list_any p xs ≡ true
    → (x : Plain) × (p x ≡ true) × (among x xs ≡ true)
witness p [] e = clash (sym e)
witness p (x ∷ xs) e = by (p x) refl e (witness p xs)
  where
    by : (b : Bool) → p x ≡ b → (b || list_any p xs) ≡ true
        → (list_any p xs ≡ true → (y : Plain) × (p y ≡ true) × (among y xs ≡ true))
        → (y : Plain) × (p y ≡ true) × (among y (x ∷ xs) ≡ true)
    by true is f i = (x, is, ap (λ b. b || among x xs) (same_self x))
    by false is f i =
        let found = i f in
        (found.0, found.1, or_true (same found.0 x) (among found.0 xs) found.2)
