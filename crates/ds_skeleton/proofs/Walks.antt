-- What a walk over all shapes does to what each place has.
use Rattle.std.proofs.Common.{◌≡◌, ℕ, zero, suc, ◌+◌, ◌-◌, List, [], ◌∷◌, length, map, Bool, true, false, cond, ◌&&◌}
use Rattle.std.proofs.Common.{◌++◌, ◌<◌, ◌≤◌, take, drop, Option, Some, None, is_some, option_map, option_and_then}
use Rattle.std.proofs.Common.{slice_index_or, slice_set, refl, ap, sym, ◌∙◌, subst, arith}
use Rattle.std.specs.List.{AllZip}
use Rattle.std.specs.List.Sorted.{IsStrictlySortedBy}
use Rattle.std.proofs.lemmas.List.{drop_all}
use Rattle.std.proofs.Math.Seq.{take-append_seam}
use Rattle.pv_value.specs.Plain.{Plain}
use Rattle.ds_shape.specs.Outlines.{Outline}
use Rattle.ds_skeleton.specs.Places.{Place, outline_order, same_outline, stands}
use Rattle.ds_skeleton.specs.Leaves.{leaf_at, has_leaf_at, captured_at, observed_at}
use Rattle.ds_skeleton.specs.Shapes.{Shape, IsBumped, IsDropped, shape_at, observations_at, leaf_of, has_leaf, AreInOrder}
use Rattle.ds_skeleton.proofs.Same.{outline_is}

pub zip_each : {R Q : Shape → Shape → Type 0} → ((s t : Shape) → R s t → Q s t) → (S T : List Shape) → AllZip R S T
    → AllZip Q S T
zip_each f [] [] h = tt
zip_each f [] (t ∷ ts) h = h
zip_each f (s ∷ ss) [] h = h
zip_each f (s ∷ ss) (t ∷ ts) h = (f s t h.0, zip_each f ss ts h.1)

-- what neither a bump nor its opposite changes
pub record Keeps (s t : Shape) : Type 0 where
  pub outline : t.outline ≡ s.outline
  pub observations : t.observations ≡ s.observations
  pub leaves : (k : Plain) → has_leaf_at t.leaves k ≡ has_leaf_at s.leaves k
  pub observers : (k o : Plain) → observed_at (leaf_at t.leaves k) o ≡ observed_at (leaf_at s.leaves k) o

pub keeps_bumped : (v : Plain) (s t : Shape) → IsBumped v s t → Keeps s t
keeps_bumped v s t r = record {
  outline = r.outline;
  observations = r.observations;
  leaves = r.leaves;
  observers = r.observers;
}

pub keeps_dropped : (v : Plain) (s t : Shape) → IsDropped v s t → Keeps s t
keeps_dropped v s t r = record {
  outline = r.outline;
  observations = r.observations;
  leaves = r.leaves;
  observers = r.observers;
}

abbrev Alike : Shape → Shape → Type 0
Alike s t = t.outline ≡ s.outline

outlines_stay : (S T : List Shape) → AllZip Alike S T → map (λ s. s.outline) T ≡ map (λ s. s.outline) S
outlines_stay [] [] h = refl
outlines_stay [] (t ∷ ts) h = absurd h
outlines_stay (s ∷ ss) [] h = absurd h
outlines_stay (s ∷ ss) (t ∷ ts) h = λ i. h.0 i ∷ outlines_stay ss ts h.1 i

pub each_in_order : (S T : List Shape) → AllZip Alike S T → AreInOrder S → AreInOrder T
each_in_order S T h o = subst (IsStrictlySortedBy outline_order) (sym (outlines_stay S T h)) o

pub walked_in_order : {R : Shape → Shape → Type 0} → ((s t : Shape) → R s t → Keeps s t) → (S T : List Shape)
    → AllZip R S T → AreInOrder S → AreInOrder T
walked_in_order f S T h = each_in_order S T (zip_each (λ s t r. (f s t r).outline) S T h)

-- at the shapes of one outline
pub each_at : {X : Type 0} (f g : Option Shape → X) (Q : X → X → Type 0) (R : Shape → Shape → Type 0)
    → ((s t : Shape) → R s t → t.outline ≡ s.outline) → (o : Outline)
    → ((s t : Shape) → R s t → same_outline o s.outline ≡ true → Q (f (Some s)) (g (Some t)))
    → Q (f None) (g None) → (S T : List Shape) → AllZip R S T → Q (f (shape_at S o)) (g (shape_at T o))
each_at f g Q R same o here none [] [] h = none
each_at f g Q R same o here none [] (t ∷ ts) h = absurd h
each_at f g Q R same o here none (s ∷ ss) [] h = absurd h
each_at {X} f g Q R same o here none (s ∷ ss) (t ∷ ts) h =
    by (same_outline o s.outline) (same_outline o t.outline) refl (ap (same_outline o) (same s t h.0))
    (each_at f g Q R same o here none ss ts h.1)
  where
    by : (b d : Bool) → same_outline o s.outline ≡ b → d ≡ same_outline o s.outline
        → Q (f (shape_at ss o)) (g (shape_at ts o))
        → Q (f (cond b (Some s) (shape_at ss o))) (g (cond d (Some t) (shape_at ts o)))
    by true true is e i = here s t h.0 is
    by true false is e i = absurd (clash (e ∙ is))
      where
        clash : false ≡ true → ⊥
        clash e = cc
    by false true is e i = absurd (clash (e ∙ is))
      where
        clash : true ≡ false → ⊥
        clash e = cc
    by false false is e i = i

pub each_observed : (S T : List Shape) → AllZip Keeps S T → (o : Outline) → observations_at T o ≡ observations_at S o
each_observed S T h o =
    each_at (option_map (λ s. s.observations)) (option_map (λ s. s.observations)) (λ x y. y ≡ x) Keeps
    (λ s t r. r.outline) o (λ s t r e. ap Some r.observations) refl S T h

abbrev pub seen_by : Plain → Plain → Option Shape → Bool
seen_by k v x = observed_at (option_and_then (λ s. leaf_at s.leaves k) x) v

abbrev pub captured_by : Plain → Plain → Option Shape → ℕ
captured_by k c x = captured_at (option_and_then (λ s. leaf_at s.leaves k) x) c

abbrev pub has_by : Plain → Option Shape → Bool
has_by k x = is_some (option_and_then (λ s. leaf_at s.leaves k) x)

pub each_has : (S T : List Shape) → AllZip Keeps S T → (p : Place) → has_leaf T p ≡ has_leaf S p
each_has S T h p =
    each_at (has_by p.constants) (has_by p.constants) (λ x y. y ≡ x) Keeps
    (λ s t r. r.outline) p.outline (λ s t r e. r.leaves p.constants) refl S T h

pub each_seen : (S T : List Shape) → AllZip Keeps S T → (p : Place) (v : Plain)
    → observed_at (leaf_of T p) v ≡ observed_at (leaf_of S p) v
each_seen S T h p v =
    each_at (seen_by p.constants v) (seen_by p.constants v) (λ x y. y ≡ x) Keeps
    (λ s t r. r.outline) p.outline (λ s t r e. r.observers p.constants v) refl S T h

pub bumped : (v : Plain) (S T : List Shape) → AllZip (IsBumped v) S T → (p : Place) (c : Plain)
    → captured_at (leaf_of T p) c
    ≡ captured_at (leaf_of S p) c + cond (has_leaf S p && stands p.outline p.constants c v) 1 0
bumped v S T h p c =
    each_at (λ x. captured_by p.constants c x + cond (has_by p.constants x && stands p.outline p.constants c v) 1 0)
    (captured_by p.constants c) (λ x y. y ≡ x) (IsBumped v) (λ s t r. r.outline) p.outline
    (λ s t r e. r.counts p.constants c
    ∙ ap (λ o. captured_at (leaf_at s.leaves p.constants) c
    + cond (has_leaf_at s.leaves p.constants && stands o p.constants c v) 1 0)
    (sym (outline_is p.outline s.outline e)))
    refl S T h

pub dropped : (v : Plain) (S T : List Shape) → AllZip (IsDropped v) S T → (p : Place) (c : Plain)
    → captured_at (leaf_of T p) c
    ≡ captured_at (leaf_of S p) c - cond (has_leaf S p && stands p.outline p.constants c v) 1 0
dropped v S T h p c =
    each_at (λ x. captured_by p.constants c x - cond (has_by p.constants x && stands p.outline p.constants c v) 1 0)
    (captured_by p.constants c) (λ x y. y ≡ x) (IsDropped v) (λ s t r. r.outline) p.outline
    (λ s t r e. r.counts p.constants c
    ∙ ap (λ o. captured_at (leaf_at s.leaves p.constants) c
    - cond (has_leaf_at s.leaves p.constants && stands o p.constants c v) 1 0)
    (sym (outline_is p.outline s.outline e)))
    refl S T h

-- ---- a walk so far: the first n are changed, and the others as they were

abbrev pub WalkedTo : (Shape → Shape → Type 0) → ℕ → List Shape → List Shape → Type 0
WalkedTo R zero S T = T ≡ S
WalkedTo R (suc n) [] T = T ≡ []
WalkedTo R (suc n) (s ∷ ss) [] = ⊥
WalkedTo R (suc n) (s ∷ ss) (t ∷ ts) = R s t × WalkedTo R n ss ts

walk_first : (R : Shape → Shape → Type 0) (T : List Shape) (t : Shape) → 0 < length T
    → (d : Shape) → R (slice_index_or T 0 d) t → WalkedTo R 1 T (slice_set T 0 t)
walk_first R [] t le d r = absurd (omega arith)
walk_first R (u ∷ us) t le d r = (r, refl)

walk_next : (R : Shape → Shape → Type 0) (n : ℕ) (S T : List Shape) (t : Shape) → n < length T
    → WalkedTo R n S T → (d : Shape) → R (slice_index_or T n d) t → WalkedTo R (suc n) S (slice_set T n t)
walk_next R zero S T t le w d r = subst (λ U. WalkedTo R 1 U (slice_set T 0 t)) w (walk_first R T t le d r)
walk_next R (suc n) [] T t le w d r = ap (λ U. slice_set U (suc n) t) w
walk_next R (suc n) (s ∷ ss) [] t le w d r = w
walk_next R (suc n) (s ∷ ss) (u ∷ us) t le w d r = (w.0, walk_next R n ss us t (omega arith) w.1 d r)

pub walk_on : (R : Shape → Shape → Type 0) (n : ℕ) (S T : List Shape) (t : Shape) → n < length T
    → WalkedTo R n S T → (d : Shape) → R (slice_index_or T n d) t → WalkedTo R (n + 1) S (slice_set T n t)
walk_on R n S T t le w d r =
    let e : suc n ≡ n + 1 = omega arith in
    subst (λ m. WalkedTo R m S (slice_set T n t)) e (walk_next R n S T t le w d r)

walk_ends : (R : Shape → Shape → Type 0) (n : ℕ) (S T : List Shape) → length S ≤ n → WalkedTo R n S T → AllZip R S T
walk_ends R zero [] T le w = subst (λ U. AllZip R [] U) (sym w) tt
walk_ends R zero (s ∷ ss) T le w = absurd (omega arith)
walk_ends R (suc n) [] T le w = subst (λ U. AllZip R [] U) (sym w) tt
walk_ends R (suc n) (s ∷ ss) [] le w = w
walk_ends R (suc n) (s ∷ ss) (t ∷ ts) le w = (w.0, walk_ends R n ss ts (omega arith) w.1)

walked_whole : (n : ℕ) (S T : List Shape) → length S ≡ n → length T ≡ n → take n (T ++ drop (length T) S) ≡ T
walked_whole n S T e f =
    ap (λ U. take n (T ++ U)) (drop_all (length T) S (omega (arith, e, f)))
    ∙ ap (λ m. take m (T ++ [])) (sym f) ∙ take-append_seam T []

-- the walk over all of them, that is at its end
pub walked : (R : Shape → Shape → Type 0) (n len : ℕ) (S was T : List Shape) → length S ≡ len → length T ≡ len
    → was ≡ S → length was ≤ n → WalkedTo R n was T → AllZip R S (take len (T ++ drop (length T) S))
walked R n len S was T old new same le w =
    subst (AllZip R S) (sym (walked_whole len S T old new))
    (subst (λ U. AllZip R U T) same (walk_ends R n was T le w))
