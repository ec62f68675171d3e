-- What the observations of a load capture of its items.
use Rattle.std.proofs.Common.{◌≡◌, ℕ, ◌+◌, ◌<◌, ◌⊎◌, inl, inr, List, [], ◌∷◌, Bool, true, false, cond}
use Rattle.std.proofs.Common.{Some, None, refl, sym, ap, ◌∙◌, subst, codes}
use Rattle.pv_value.specs.Plain.{Plain, symbol, embedded}
use Rattle.pv_words.specs.Words.{labelled, number}
use Rattle.pv_words.specs.Parts.{same, both}
use Rattle.pv_words.specs.Lemmas.Same.{same_is}
use Rattle.dp_pattern.specs.declared.Extent.TheVariants.{Open}
use Rattle.dp_pattern.specs.declared.Group.TheVariants.{InRecord}
use Rattle.dp_pattern.specs.Patterns.{Pattern, discard, bind, literal, group, no_fields, then_field}
use Rattle.dp_pattern.specs.Matching.{matched}
use Rattle.ds_space.specs.References.{reference_value, names_observer}
use Rattle.ds_space.specs.Wants.{observer_of, key_of}
use Rattle.sc_load.specs.Loads.{pattern_of, loading, connection_of, drawn}

-- ---- items, as the server keeps them

-- `<Observe pattern #:[16+j i+1]>`, j the connection of item i
abbrev pub observed : ℕ → Plain
observed i =
    labelled (codes "Observe")
    (pattern_of i
    ∷ embedded (reference_value (record { actor = 16 + connection_of i; entity = i + 1 })) ∷ [])

-- what is captured of what item i asserts
abbrev pub captures : ℕ → ℕ → List Plain
captures start i = number (drawn start i) ∷ []

-- the key under which it is wanted
abbrev pub key_for : ℕ → ℕ → Plain
key_for start i = key_of (observed i) (captures start i)

-- it is one of the two that item i asserts
abbrev pub IsOf : ℕ → ℕ → Plain → Type 0
IsOf start i v = (v ≡ observed i) ⊎ (v ≡ loading start i)

-- it is one of the first n items'
abbrev pub IsItem : ℕ → ℕ → Plain → Type 0
IsItem start n v = (i : ℕ) × (i < n) × IsOf start i v

-- ---- what is captured

-- the pattern of item i
abbrev the_pattern : ℕ → Pattern
the_pattern i =
    group (InRecord (symbol (codes "Load")) Open)
    (then_field (number 0) (literal (number i)) (then_field (number 1) (bind discard) no_fields))

-- it captures of what the same item asserts
capture_same : (start i j : ℕ) (cs : List Plain) → matched (the_pattern i) (loading start j) ≡ Some cs
    → (i ≡ j) × (cs ≡ captures start j)
capture_same start i j cs is = by (same (number i) (number j)) refl is
  where
    by : (b : Bool) → same (number i) (number j) ≡ b
        → both (cond b (Some []) None) (Some (number (drawn start j) ∷ [])) ≡ Some cs
        → (i ≡ j) × (cs ≡ captures start j)
    by true alike found = let one = same_is (number i) (number j) alike in (cc, cc)
    by false other found = absurd cc

-- an observation is read as this
observer_is : (i : ℕ) (p : Pattern) → observer_of (observed i) ≡ Some p → p ≡ the_pattern i
observer_is i p is =
    by (names_observer (reference_value (record { actor = 16 + connection_of i; entity = i + 1 }))) is
  where
    by : (b : Bool) → cond b (Some (the_pattern i)) None ≡ Some p → p ≡ the_pattern i
    by true found = cc
    by false found = absurd cc

-- what observes among items captures of what is observed, of the same item alone
pub capture_of : (start i j : ℕ) (o v : Plain) (p : Pattern) (cs : List Plain) → IsOf start i o → IsOf start j v
    → observer_of o ≡ Some p → matched p v ≡ Some cs
    → (o ≡ observed i) × (v ≡ loading start i) × (i ≡ j) × (cs ≡ captures start i)
capture_of start i j o v p cs (inr other) w is found =
    absurd (let none : observer_of (loading start i) ≡ Some p = subst (λ x. observer_of x ≡ Some p) other is in cc)
capture_of start i j o v p cs (inl here) (inl other) is found =
    let one = observer_is i p (subst (λ x. observer_of x ≡ Some p) here is) in
    let at : matched (the_pattern i) (observed j) ≡ Some cs =
    (λ k. matched (sym one k) (sym other k)) ∙ found in
    absurd cc
capture_of start i j o v p cs (inl here) (inr there) is found =
    let one = observer_is i p (subst (λ x. observer_of x ≡ Some p) here is) in
    let at : matched (the_pattern i) (loading start j) ≡ Some cs =
    (λ k. matched (sym one k) (sym there k)) ∙ found in
    let both = capture_same start i j cs at in
    (here, there ∙ ap (loading start) (sym both.0), both.0, both.1 ∙ ap (captures start) (sym both.0))
