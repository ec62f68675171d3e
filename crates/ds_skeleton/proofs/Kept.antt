-- Which outlines and which leaves are kept.
use Rattle.std.proofs.Common.{◌≡◌, ℕ, zero, suc, ◌-◌, List, [], ◌∷◌, Bool, true, false, cond, ◌&&◌, ◌||◌, ltb}
use Rattle.std.proofs.Common.{not, Option, Some, None, option_map, refl, ap, sym, ◌∙◌, arith}
use Rattle.std.specs.List.{list_any}
use Rattle.std.specs.Option.{is_some}
use Rattle.std.specs.Map.{keys_of, lookup}
use Rattle.std.specs.BTreeSet as sorted
use Rattle.std.proofs.lemmas.Bool.{lt-ltb}
use Rattle.pv_value.specs.Plain.{Plain}
use Rattle.pv_words.specs.Lemmas.Same.{same_is}
use Rattle.pv_words.specs.Parts.{same}
use Rattle.ds_shape.specs.Outlines.{Outline}
use Rattle.ds_space.specs.Changes.{among}
use Rattle.ds_space.specs.Lemmas.Keys.{same_turns}
use Rattle.ds_skeleton.specs.Places.{Place, place_of, is_placed, is_outlined, has_outline, observes, is_observed}
use Rattle.ds_skeleton.specs.Places.{same_outline, count}
use Rattle.ds_skeleton.specs.Leaves.{Leaf, kept, observed_at, others_observe}
use Rattle.ds_skeleton.specs.Shapes.{Shape, shape_at, observations_at, is_kept, has_leaf}
use Rattle.ds_skeleton.specs.Indexes.{IsIndexOf}
use Rattle.ds_skeleton.proofs.Counts.{any-count}
use Rattle.ds_skeleton.proofs.Same.{outline_self, place_self}
use Rattle.ds_skeleton.proofs.Truths.{any_at, witness, same_truth, not_true}

pub any_keys : {K X : Type 0} (test : K → Bool) (es : List (K × X)) → list_any test (keys_of es)
    ≡ is_some (lookup test es)
any_keys test [] = refl
any_keys {K} {X} test (p ∷ ps) = by (test p.0) (any_keys test ps)
  where
    by : (b : Bool) → list_any test (keys_of ps) ≡ is_some (lookup test ps)
        → (b || list_any test (keys_of ps)) ≡ is_some (cond {A = Option X} b (Some p.1) (lookup test ps))
    by true i = refl
    by false i = i

pub is_some-kept : (n : ℕ) → is_some (kept n) ≡ ltb 0 n
is_some-kept zero = refl
is_some-kept (suc n) = sym (lt-ltb 0 (suc n) (omega arith))

is_some-map : {A B : Type 0} (f : A → B) (o : Option A) → is_some (option_map f o) ≡ is_some o
is_some-map f None = refl
is_some-map f (Some x) = refl

pub kept_is_some : (shapes : List Shape) (s : Outline) → is_kept shapes s ≡ is_some (observations_at shapes s)
kept_is_some shapes s = sym (is_some-map (λ x. x.observations) (shape_at shapes s))

-- an outline is kept where one of the observations has it
pub kept_is : (shapes : List Shape) (seen : List Plain)
    → ((s : Outline) → observations_at shapes s ≡ kept (count (has_outline s) seen))
    → (s : Outline) → is_kept shapes s ≡ list_any (has_outline s) seen
kept_is shapes seen h s =
    kept_is_some shapes s ∙ ap is_some (h s) ∙ is_some-kept (count (has_outline s) seen)
    ∙ sym (any-count (has_outline s) seen)

pub covered : (vs seen : List Plain) (shapes : List Shape) → IsIndexOf vs seen shapes
    → (o : Plain) (p : Place) → among o seen ≡ true → place_of o ≡ Some p → is_kept shapes p.outline ≡ true
covered vs seen shapes index o p e f =
    kept_is shapes seen index.outlines_are p.outline
    ∙ any_at (has_outline p.outline) o seen (ap (is_outlined p.outline) f ∙ outline_self p.outline) e

-- a leaf stands where an observation has its place
pub watched : (vs seen : List Plain) (shapes : List Shape) → IsIndexOf vs seen shapes
    → (o : Plain) (p : Place) → among o seen ≡ true → place_of o ≡ Some p → has_leaf shapes p ≡ true
watched vs seen shapes index o p e f =
    index.leaves_are p
    ∙ any_at (λ x. observes x p) o seen (ap (λ q. is_placed q p) f ∙ place_self p) e

-- what has its place there has the outline
has_place : (p : Place) (q : Option Place) → is_placed q p ≡ true → is_outlined p.outline q ≡ true
has_place p None e = e
has_place p (Some q) e = first (same_outline q.outline p.outline) (same q.constants p.constants) e
  where
    first : (a b : Bool) → (a && b) ≡ true → a ≡ true
    first true b e = refl
    first false b e = e

-- where no observation has the outline, none has a place there
pub none_observes : (seen : List Plain) (o : Plain) (p : Place) → list_any (has_outline p.outline) seen ≡ false
    → (among o seen && observes o p) ≡ false
none_observes seen o p none = by (among o seen) (observes o p) refl refl
  where
    clash : false ≡ true → ⊥
    clash e = cc

    by : (a b : Bool) → among o seen ≡ a → observes o p ≡ b → (a && b) ≡ false
    by true true e f =
        absurd (clash (sym none ∙ any_at (has_outline p.outline) o seen (has_place p (place_of o) f) e))
    by true false e f = refl
    by false b e f = refl

pub none_observed : (seen : List Plain) (p : Place) → list_any (has_outline p.outline) seen ≡ false
    → is_observed seen p ≡ false
none_observed seen p none = by (is_observed seen p) refl
  where
    clash : {A : Type 0} → false ≡ true → A
    clash e = cc

    by : (b : Bool) → is_observed seen p ≡ b → b ≡ false
    by true e =
        let found = witness (λ o. observes o p) seen e in
        clash (sym none ∙ any_at (has_outline p.outline) found.0 seen (has_place p (place_of found.0) found.1) found.2)
    by false e = refl

-- those who observe at a place beside v are the others that have their place there
pub others_are : (v : Plain) (seen : List Plain) (p : Place) (at : Option Leaf) → among v seen ≡ false
    → ((o : Plain) → observed_at at o ≡ ((same o v || among o seen) && observes o p))
    → others_observe v at ≡ is_observed seen p
others_are v seen p at gone are =
    same_truth (others_observe v at) (is_observed seen p) (there at are) (λ e.
    let found = witness (λ o. observes o p) seen e in
    other at found.0
    (are found.0
    ∙ both (same found.0 v) (among found.0 seen) (observes found.0 p) found.2 found.1)
    (differs found.0 (same v found.0) refl found.2))
  where
    clash : {A : Type 0} → true ≡ false → A
    clash e = cc

    both : (a b d : Bool) → b ≡ true → d ≡ true → ((a || b) && d) ≡ true
    both true b d e f = f
    both false b d e f = ap (λ t. t && d) e ∙ f

    parts : (a b d : Bool) → a ≡ false → ((a || b) && d) ≡ true → (b ≡ true) × (d ≡ true)
    parts true b d n e = clash n
    parts false true d n e = (refl, e)
    parts false false d n e = clash (sym e)

    differs : (o : Plain) (b : Bool) → same v o ≡ b → among o seen ≡ true → same v o ≡ false
    differs o true e f = clash (sym f ∙ ap (λ x. among x seen) (sym (same_is v o e)) ∙ gone)
    differs o false e f = e

    there : (at : Option Leaf) → ((o : Plain) → observed_at at o ≡ ((same o v || among o seen) && observes o p))
        → others_observe v at ≡ true → is_observed seen p ≡ true
    there None h e = clash (sym e)
    there (Some leaf) h e =
        let found = witness (λ other. not (same v other)) (sorted.keys leaf.observers) e in
        let o = found.0 in
        let known =
        parts (same o v) (among o seen) (observes o p) (same_turns o v ∙ not_true (same v o) found.1)
        (sym (h o) ∙ found.2) in
        any_at (λ x. observes x p) o seen known.1 known.0

    other : (at : Option Leaf) (o : Plain) → observed_at at o ≡ true → same v o ≡ false → others_observe v at ≡ true
    other None o e f = clash (sym e)
    other (Some leaf) o e f = any_at (λ x. not (same v x)) o (sorted.keys leaf.observers) (ap not f) e
