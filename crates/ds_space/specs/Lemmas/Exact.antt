-- The changes are fixed by the two lists of what is wanted: first those of the old that aren't in the new, then the
-- others.
use Rattle.std.proofs.Common.{◌≡◌, List, [], ◌∷◌, ◌++◌, map, Bool, true, false, cond, ◌||◌, ◌&&◌, not, refl, ap, sym}
use Rattle.std.proofs.Common.{◌∙◌}
use Rattle.std.specs.declared.cmp.Ordering.TheVariants.{Less}
use Rattle.std.specs.List.{filter, AllByRecursion}
use Rattle.std.specs.List.Sorted.{IsStrictlySortedBy}
use Rattle.pv_value.specs.Plain.{Plain}
use Rattle.pv_value.specs.Order.{order}
use Rattle.pv_value.specs.WellFormed.{Ascend}
use Rattle.pv_words.specs.Lemmas.Same.{same_is}
use Rattle.pv_words.specs.Parts.{same}
use Rattle.ds_space.specs.Wants.{wants, wanted}
use Rattle.ds_space.specs.Changes.{Change, Left, Came, among, only_over, AreChanges, without, lacking}
use Rattle.ds_space.specs.Laws.{ChangesAreExact}
use Rattle.ds_space.specs.Lemmas.Lists.{unique, wants_ascend, among_wants}
use Rattle.ds_space.specs.Lemmas.Walks.{lacking_ascends, lacking_among, only}

all_filtered : (P : Plain → Type 0) (p : Plain → Bool) (ks : List Plain) → AllByRecursion P ks
    → AllByRecursion P (filter p ks)
all_filtered P p [] a = tt
all_filtered P p (k ∷ ks) a = by (p k) (all_filtered P p ks a.1)
  where
    by : (b : Bool) → AllByRecursion P (filter p ks) → AllByRecursion P (cond b (k ∷ filter p ks) (filter p ks))
    by true h = (a.0, h)
    by false h = h

filtered_ascends : (p : Plain → Bool) (ks : List Plain) → Ascend ks → Ascend (filter p ks)
unfolding IsStrictlySortedBy
filtered_ascends p [] s = tt
filtered_ascends p (k ∷ ks) s = by (p k) (filtered_ascends p ks s.1)
  where
    by : (b : Bool) → Ascend (filter p ks) → Ascend (cond b (k ∷ filter p ks) (filter p ks))
    by true h = (all_filtered (λ z. order k z ≡ Less) p ks s.0, h)
    by false h = h

among_filtered : (p : Plain → Bool) (q : Plain) (ks : List Plain) → among q (filter p ks) ≡ (among q ks && p q)
among_filtered p q [] = refl
among_filtered p q (k ∷ ks) = by (same q k) refl (p k) refl (among_filtered p q ks)
  where
    and_false : (a b : Bool) → b ≡ false → (a && b) ≡ b
    and_false true b e = refl
    and_false false b e = sym e

    by : (s : Bool) → same q k ≡ s → (b : Bool) → p k ≡ b → among q (filter p ks) ≡ (among q ks && p q)
        → among q (cond b (k ∷ filter p ks) (filter p ks)) ≡ ((s || among q ks) && p q)
    by true s true e h = ap (λ t. t || among q (filter p ks)) s ∙ sym (ap p (same_is q k s) ∙ e)
    by true s false e h = h ∙ and_false (among q ks) (p q) (ap p (same_is q k s) ∙ e)
    by false s true e h = ap (λ t. t || among q (filter p ks)) s ∙ h
    by false s false e h = h

pub without_is : (ks ls : List Plain) → Ascend ks → Ascend ls → lacking ks ls ≡ without ks ls
without_is ks ls s t =
    unique (lacking ks ls) (without ks ls) (lacking_ascends ks ls s) (filtered_ascends (λ k. not (among k ls)) ks s)
    (λ q. lacking_among q ks ls s t ∙ sym (among_filtered (λ k. not (among k ls)) q ks))

one_side : (old new : List Plain) (side : List Plain) → Ascend side → ((k : Plain) → among k side ≡ only_over old new k)
    → side ≡ without (wants old) (wants new)
one_side old new side s e =
    unique side (lacking (wants old) (wants new)) s (lacking_ascends (wants old) (wants new) (wants_ascend old))
    (λ q. e q ∙ sym (only old new q))
    ∙ without_is (wants old) (wants new) (wants_ascend old) (wants_ascend new)

pub changes_exact : ChangesAreExact
changes_exact old new cs c =
    c.are ∙ (λ i. map Left (one_side old new c.left c.left_ascends c.left_are i)
    ++ map Came (one_side new old c.came c.came_ascends c.came_are i))
