-- The index after an observation has come to a shape, or has gone from one.
use Rattle.std.proofs.Common.{◌≡◌, ◌+◌, ◌-◌, ◌<◌, ◌≤◌, List, [], ◌∷◌, Bool, true, false, cond, ◌&&◌, ◌||◌, not}
use Rattle.std.proofs.Common.{Option, Some, None, option_map, option_and_then, is_some, refl, ap, sym, ◌∙◌}
use Rattle.std.specs.List.{list_any}
use Rattle.pv_value.specs.Plain.{Plain}
use Rattle.pv_words.specs.Parts.{same}
use Rattle.ds_shape.specs.Outlines.{Outline}
use Rattle.ds_space.specs.Changes.{among}
use Rattle.ds_skeleton.specs.Places.{Place, same_outline, same_place, place_of, is_placed, observes, is_observed}
use Rattle.ds_skeleton.specs.Places.{has_outline, stands, count}
use Rattle.ds_skeleton.specs.Leaves.{number, kept, leaf_at, has_leaf_at, captured_at, observed_at, others_observe}
use Rattle.ds_skeleton.specs.Shapes.{Shape, IsBlank, IsWatched, IsUnwatched, shape_at, observations_at, leaf_of, has_leaf}
use Rattle.ds_skeleton.specs.Indexes.{IsIndexOf}
use Rattle.ds_skeleton.proofs.Counts.{any-count}
use Rattle.ds_skeleton.proofs.Entries.{some_is}
use Rattle.ds_skeleton.proofs.Kept.{is_some-kept, none_observes, none_observed, others_are}
use Rattle.ds_skeleton.proofs.Leaves.{kept_counts}
use Rattle.ds_skeleton.proofs.Moves.{observer_came, observer_went, observers_less, outlines_less}
use Rattle.ds_skeleton.proofs.Places.{Updates}
use Rattle.ds_skeleton.proofs.Same.{outline_is}
use Rattle.ds_skeleton.proofs.Tallies.{kept_less, none_kept}
use Rattle.ds_skeleton.proofs.Walks.{captured_by, seen_by, has_by}

-- s is what S has at the outline, also where S has nothing there
pub record Shows (o : Outline) (S : List Shape) (s : Shape) : Type 0 where
  pub outline : s.outline ≡ o
  pub observations : s.observations ≡ number (observations_at S o)
  pub leaves : (k : Plain) → leaf_at s.leaves k ≡ leaf_of S (record { outline = o; constants = k })

shape_outline : (S : List Shape) (o : Outline) (s : Shape) → shape_at S o ≡ Some s → s.outline ≡ o
shape_outline [] o s e = cc
shape_outline (x ∷ xs) o s e = by (same_outline o x.outline) refl e (shape_outline xs o s)
  where
    by : (b : Bool) → same_outline o x.outline ≡ b → cond {A = Option Shape} b (Some x) (shape_at xs o) ≡ Some s
        → (shape_at xs o ≡ Some s → s.outline ≡ o) → s.outline ≡ o
    by true is f i = ap (λ (y : Shape). y.outline) (sym (some_is x s f)) ∙ sym (outline_is o x.outline is)
    by false is f i = i f

pub shows_known : (o : Outline) (S : List Shape) (s : Shape) → shape_at S o ≡ Some s → Shows o S s
shows_known o S s known = record {
  outline = shape_outline S o s known;
  observations = sym (ap (λ x. number (option_map (λ y. y.observations) x)) known);
  leaves = λ k. sym (ap (λ x. option_and_then (λ y. leaf_at y.leaves k) x) known);
}

pub shows_new : (o : Outline) (S : List Shape) (s : Shape) → IsBlank o s → shape_at S o ≡ None → Shows o S s
shows_new o S s blank new = record {
  outline = blank.outline;
  observations = blank.observations ∙ sym (ap (λ x. number (option_map (λ y. y.observations) x)) new);
  leaves = λ k. blank.leaves k ∙ sym (ap (λ x. option_and_then (λ y. leaf_at y.leaves k) x) new);
}

-- the same at the outline of a place that is found to be one with o
leaf_here : (o : Outline) (S : List Shape) (s : Shape) → Shows o S s → (p : Place) → same_outline o p.outline ≡ true
    → leaf_at s.leaves p.constants ≡ leaf_of S p
leaf_here o S s shows p e =
    shows.leaves p.constants
    ∙ ap (λ q. leaf_of S (record { outline = q; constants = p.constants })) (outline_is o p.outline e)

pub came : (vs others : List Plain) (S T : List Shape) (v : Plain) (place : Place) (s t : Shape)
    → place_of v ≡ Some place → IsIndexOf vs others S → Shows place.outline S s
    → IsWatched vs place.constants v s t → Updates place.outline (Some t) S T → IsIndexOf vs (v ∷ others) T
came vs others S T v place s t is index shows watched updates =
    observer_came vs others S T v place is index updates.in_order
    (λ p. leaves p (same_outline place.outline p.outline) refl (updates.at p.outline))
    (λ p c. counts p c (same_outline place.outline p.outline) refl (updates.at p.outline))
    (λ p o. seen p o (same_outline place.outline p.outline) refl (updates.at p.outline))
    (λ r. put r (same_outline place.outline r) (updates.at r))
  where
    leaves : (p : Place) (b : Bool) → same_outline place.outline p.outline ≡ b
        → shape_at T p.outline ≡ cond b (Some t) (shape_at S p.outline)
        → has_leaf T p ≡ ((b && same place.constants p.constants) || has_leaf S p)
    leaves p true e at =
        ap (has_by p.constants) at ∙ watched.leaves p.constants
        ∙ ap (λ l. same place.constants p.constants || is_some l) (leaf_here place.outline S s shows p e)
    leaves p false e at = ap (has_by p.constants) at

    counts : (p : Place) (c : Plain) (b : Bool) → same_outline place.outline p.outline ≡ b
        → shape_at T p.outline ≡ cond b (Some t) (shape_at S p.outline)
        → captured_at (leaf_of T p) c
        ≡ cond ((b && same place.constants p.constants) && not (has_leaf S p))
        (count (stands p.outline p.constants c) vs) (captured_at (leaf_of S p) c)
    counts p c true e at =
        ap (captured_by p.constants c) at ∙ watched.counts p.constants c
        ∙ ap (λ o. cond (same place.constants p.constants && not (has_leaf_at s.leaves p.constants))
        (count (stands o p.constants c) vs) (captured_at (leaf_at s.leaves p.constants) c))
        (shows.outline ∙ outline_is place.outline p.outline e)
        ∙ ap (λ l. cond (same place.constants p.constants && not (is_some l))
        (count (stands p.outline p.constants c) vs) (captured_at l c)) (leaf_here place.outline S s shows p e)
    counts p c false e at = ap (captured_by p.constants c) at

    seen : (p : Place) (o : Plain) (b : Bool) → same_outline place.outline p.outline ≡ b
        → shape_at T p.outline ≡ cond b (Some t) (shape_at S p.outline)
        → observed_at (leaf_of T p) o
        ≡ cond ((b && same place.constants p.constants) && same v o) true (observed_at (leaf_of S p) o)
    seen p o true e at =
        ap (seen_by p.constants o) at ∙ watched.observers p.constants o
        ∙ ap (λ l. cond (same place.constants p.constants && same v o) true (observed_at l o))
        (leaf_here place.outline S s shows p e)
    seen p o false e at = ap (seen_by p.constants o) at

    put : (r : Outline) (b : Bool) → shape_at T r ≡ cond b (Some t) (shape_at S r)
        → observations_at T r ≡ cond b (Some (number (observations_at S place.outline) + 1)) (observations_at S r)
    put r true at =
        ap (option_map (λ x. x.observations)) at ∙ ap Some watched.observations
        ∙ ap (λ n. Some (n + 1)) shows.observations
    put r false at = ap (option_map (λ x. x.observations)) at

-- nothing changes at a place of another outline
elsewhere : (vs seen : List Plain) (S : List Shape) (v : Plain) (place : Place) → place_of v ≡ Some place
    → IsIndexOf vs (v ∷ seen) S → (p : Place) → same_place place p ≡ false → has_leaf S p ≡ is_observed seen p
elsewhere vs seen S v place is index p e =
    index.leaves_are p ∙ ap (λ b. b || is_observed seen p) (ap (λ x. is_placed x p) is ∙ e)

and_false : (a b : Bool) → a ≡ false → (a && b) ≡ false
and_false true b e = absurd (by e)
  where
    by : true ≡ false → ⊥
    by f = cc
and_false false b e = refl

-- from an outline that others observe too
pub went_known : (vs seen : List Plain) (S T : List Shape) (v : Plain) (place : Place) (s t : Shape)
    → place_of v ≡ Some place → among v seen ≡ false → IsIndexOf vs (v ∷ seen) S
    → shape_at S place.outline ≡ Some s → 1 < s.observations → IsUnwatched place.constants v s t
    → Updates place.outline (Some t) S T → IsIndexOf vs seen T
went_known vs seen S T v place s t is gone index known many unwatched updates =
    observer_went vs seen S T v place is index updates.in_order
    (λ p. leaves p (same_outline place.outline p.outline) (same place.constants p.constants) refl refl
    (updates.at p.outline))
    (λ p c. counts p c (same_outline place.outline p.outline) refl (updates.at p.outline))
    (λ p o. observers_less vs seen S T v place is gone index p o
    (unseen p o (same_outline place.outline p.outline) refl (updates.at p.outline)))
    (λ r. put r (same_outline place.outline r) (updates.at r))
  where
    shows : Shows place.outline S s
    shows = shows_known place.outline S s known

    leaves : (p : Place) (b d : Bool) → same_outline place.outline p.outline ≡ b
        → same place.constants p.constants ≡ d
        → shape_at T p.outline ≡ cond b (Some t) (shape_at S p.outline)
        → has_leaf T p ≡ is_observed seen p
    leaves p true true e f at =
        ap (has_by p.constants) at ∙ unwatched.leaves p.constants
        ∙ ap (λ d. cond d (others_observe v (leaf_at s.leaves p.constants)) (has_leaf_at s.leaves p.constants)) f
        ∙ ap (others_observe v) (leaf_here place.outline S s shows p e)
        ∙ others_are v seen p (leaf_of S p) gone (λ o. index.observers p o)
    leaves p true false e f at =
        ap (has_by p.constants) at ∙ unwatched.leaves p.constants
        ∙ ap (λ d. cond d (others_observe v (leaf_at s.leaves p.constants)) (has_leaf_at s.leaves p.constants)) f
        ∙ ap is_some (leaf_here place.outline S s shows p e)
        ∙ elsewhere vs seen S v place is index p
        (ap (λ d. same_outline place.outline p.outline && d) f ∙ ap (λ b. b && false) e)
    leaves p false d e f at =
        ap (has_by p.constants) at
        ∙ elsewhere vs seen S v place is index p
        (and_false (same_outline place.outline p.outline) (same place.constants p.constants) e)

    counts : (p : Place) (c : Plain) (b : Bool) → same_outline place.outline p.outline ≡ b
        → shape_at T p.outline ≡ cond b (Some t) (shape_at S p.outline)
        → captured_at (leaf_of T p) c ≡ cond (has_leaf T p) (captured_at (leaf_of S p) c) 0
    counts p c true e at =
        ap (captured_by p.constants c) at ∙ unwatched.counts p.constants c
        ∙ ap (λ x. cond (has_by p.constants x) (captured_at (leaf_at s.leaves p.constants) c) 0) (sym at)
        ∙ ap (λ l. cond (has_leaf T p) (captured_at l c) 0) (leaf_here place.outline S s shows p e)
    counts p c false e at =
        ap (captured_by p.constants c) at ∙ kept_counts (leaf_of S p) c
        ∙ ap (λ x. cond (has_by p.constants x) (captured_at (leaf_of S p) c) 0) (sym at)

    unseen : (p : Place) (o : Plain) (b : Bool) → same_outline place.outline p.outline ≡ b
        → shape_at T p.outline ≡ cond b (Some t) (shape_at S p.outline)
        → observed_at (leaf_of T p) o
        ≡ cond ((b && same place.constants p.constants) && same v o) false (observed_at (leaf_of S p) o)
    unseen p o true e at =
        ap (seen_by p.constants o) at ∙ unwatched.observers p.constants o
        ∙ ap (λ l. cond (same place.constants p.constants && same v o) false (observed_at l o))
        (leaf_here place.outline S s shows p e)
    unseen p o false e at = ap (seen_by p.constants o) at

    put : (r : Outline) (b : Bool) → shape_at T r ≡ cond b (Some t) (shape_at S r)
        → observations_at T r ≡ cond b (kept (number (observations_at S place.outline) - 1)) (observations_at S r)
    put r true at =
        ap (option_map (λ x. x.observations)) at ∙ ap Some unwatched.observations ∙ kept_less s.observations many
        ∙ ap (λ n. kept (n - 1)) shows.observations
    put r false at = ap (option_map (λ x. x.observations)) at

-- from an outline that nobody else observes
pub went_last : (vs seen : List Plain) (S T : List Shape) (v : Plain) (place : Place) (s : Shape)
    → place_of v ≡ Some place → among v seen ≡ false → IsIndexOf vs (v ∷ seen) S
    → shape_at S place.outline ≡ Some s → s.observations ≤ 1 → Updates place.outline None S T → IsIndexOf vs seen T
went_last vs seen S T v place s is gone index known few updates =
    observer_went vs seen S T v place is index updates.in_order
    (λ p. leaves p (same_outline place.outline p.outline) refl (updates.at p.outline))
    (λ p c. counts p c (same_outline place.outline p.outline) (updates.at p.outline))
    (λ p o. observers p o (same_outline place.outline p.outline) refl (updates.at p.outline))
    put_at
  where
    put : (r : Outline) (b : Bool) → shape_at T r ≡ cond b None (shape_at S r)
        → observations_at T r ≡ cond b (kept (number (observations_at S place.outline) - 1)) (observations_at S r)
    put r true at =
        ap (option_map (λ x. x.observations)) at ∙ none_kept s.observations few
        ∙ ap (λ x. kept (number (option_map (λ y. y.observations) x) - 1)) (sym known)
    put r false at = ap (option_map (λ x. x.observations)) at

    put_at : (r : Outline) → observations_at T r ≡ cond (same_outline place.outline r)
        (kept (number (observations_at S place.outline) - 1)) (observations_at S r)
    put_at r = put r (same_outline place.outline r) (updates.at r)

    none_has : (r : Outline) → shape_at T r ≡ None → list_any (has_outline r) seen ≡ false
    none_has r at =
        any-count (has_outline r) seen ∙ sym (is_some-kept (count (has_outline r) seen))
        ∙ ap is_some (sym (outlines_less vs seen S T v place is index put_at r))
        ∙ ap (λ x. is_some (option_map (λ y. y.observations) x)) at

    leaves : (p : Place) (b : Bool) → same_outline place.outline p.outline ≡ b
        → shape_at T p.outline ≡ cond b None (shape_at S p.outline) → has_leaf T p ≡ is_observed seen p
    leaves p true e at = ap (has_by p.constants) at ∙ sym (none_observed seen p (none_has p.outline at))
    leaves p false e at =
        ap (has_by p.constants) at
        ∙ elsewhere vs seen S v place is index p
        (and_false (same_outline place.outline p.outline) (same place.constants p.constants) e)

    counts : (p : Place) (c : Plain) (b : Bool) → shape_at T p.outline ≡ cond b None (shape_at S p.outline)
        → captured_at (leaf_of T p) c ≡ cond (has_leaf T p) (captured_at (leaf_of S p) c) 0
    counts p c true at =
        ap (captured_by p.constants c) at
        ∙ ap (λ x. cond (has_by p.constants x) (captured_at (leaf_of S p) c) 0) (sym at)
    counts p c false at =
        ap (captured_by p.constants c) at ∙ kept_counts (leaf_of S p) c
        ∙ ap (λ x. cond (has_by p.constants x) (captured_at (leaf_of S p) c) 0) (sym at)

    observers : (p : Place) (o : Plain) (b : Bool) → same_outline place.outline p.outline ≡ b
        → shape_at T p.outline ≡ cond b None (shape_at S p.outline)
        → observed_at (leaf_of T p) o ≡ (among o seen && observes o p)
    observers p o true e at =
        ap (seen_by p.constants o) at ∙ sym (none_observes seen o p (none_has p.outline at))
    observers p o false e at =
        observers_less vs seen S T v place is gone index p o
        (ap (seen_by p.constants o) at
        ∙ ap (λ b. cond ((b && same place.constants p.constants) && same v o) false (observed_at (leaf_of S p) o))
        (sym e))
