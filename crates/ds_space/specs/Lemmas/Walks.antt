-- One walk over two ascending lists finds what the second lacks.
use Rattle.std.proofs.Common.{◌≡◌, List, [], ◌∷◌, ◌++◌, map, Bool, true, false, cond, ◌||◌, ◌&&◌, not, refl, ap, sym}
use Rattle.std.proofs.Common.{◌∙◌, subst}
use Rattle.std.specs.declared.cmp.Ordering.{Ordering}
use Rattle.std.specs.declared.cmp.Ordering.TheVariants.{Less, Equal, Greater}
use Rattle.std.specs.Ordering.{is_eq, ordering_reverse}
use Rattle.std.specs.List.{AllByRecursion}
use Rattle.std.specs.List.Sorted.{IsStrictlySortedBy}
use Rattle.pv_value.specs.Plain.{Plain}
use Rattle.pv_value.specs.Order.{order}
use Rattle.pv_value.specs.WellFormed.{Ascend}
use Rattle.pv_value.specs.Lemmas.OrderLaws.{order_turn, order_chain}
use Rattle.pv_words.specs.Lemmas.Same.{same_is}
use Rattle.pv_words.specs.Parts.{same}
use Rattle.ds_space.specs.Changes.{Change, Left, Came, among, only_over, AreChanges, skip_by, skipped, begins_with}
use Rattle.ds_space.specs.Changes.{lacking}
use Rattle.ds_space.specs.Wants.{wants}
use Rattle.ds_space.specs.Lemmas.Keys.{same_turns}
use Rattle.ds_space.specs.Lemmas.Lists.{wants_ascend, among_wants}

abbrev AllAbove : Plain → List Plain → Type 0
AllAbove x xs = AllByRecursion (λ z. order x z ≡ Less) xs

-- what comes before isn't the same
less_differs : (x q : Plain) → order x q ≡ Less → same q x ≡ false
less_differs x q e = same_turns q x ∙ ap is_eq e

turned : (a b : Plain) → order a b ≡ Greater → order b a ≡ Less
turned a b e = order_turn b a ∙ ap ordering_reverse e

above_chain : (k x : Plain) (xs : List Plain) → order k x ≡ Less → AllAbove x xs → AllAbove k xs
above_chain k x [] d a = tt
above_chain k x (z ∷ zs) d a = (order_chain k x z d a.0, above_chain k x zs d a.1)

none_above : (k : Plain) (xs : List Plain) → AllAbove k xs → among k xs ≡ false
none_above k [] a = refl
none_above k (z ∷ zs) a = rw (ap is_eq a.0) (none_above k zs a.1)

-- an element has what all have
among_all : (P : Plain → Type 0) (q : Plain) (xs : List Plain) → AllByRecursion P xs → among q xs ≡ true → P q
among_all P q [] a e = absurd cc
among_all P q (x ∷ xs) a e = by (same q x) refl e (among_all P q xs a.1)
  where
    by : (b : Bool) → same q x ≡ b → (b || among q xs) ≡ true → (among q xs ≡ true → P q) → P q
    by true s e f = subst P (sym (same_is q x s)) a.0
    by false s e f = f e

-- ---- what is skipped

skipped_ascends : (k : Plain) (ys : List Plain) → Ascend ys → Ascend (skipped k ys)
unfolding IsStrictlySortedBy
skipped_ascends k [] s = tt
skipped_ascends k (y ∷ ys) s = by (order y k) (skipped_ascends k ys s.1)
  where
    by : (o : Ordering) → Ascend (skipped k ys) → Ascend (skip_by o y ys (skipped k ys))
    by Less h = h
    by Equal h = s
    by Greater h = s

-- what doesn't come before k isn't skipped
skipped_among : (k q : Plain) (ys : List Plain) → ((y : Plain) → order y k ≡ Less → same q y ≡ false)
    → among q (skipped k ys) ≡ among q ys
skipped_among k q [] h = refl
skipped_among k q (y ∷ ys) h = by (order y k) refl (skipped_among k q ys h)
  where
    by : (o : Ordering) → order y k ≡ o → among q (skipped k ys) ≡ among q ys → among q (skip_by o y ys (skipped k ys))
        ≡ (same q y || among q ys)
    by Less e i = i ∙ ap (λ b. b || among q ys) (sym (h y e))
    by Equal e i = refl
    by Greater e i = refl

skipped_first : (k : Plain) (ys : List Plain) → Ascend ys → begins_with k (skipped k ys) ≡ among k ys
unfolding IsStrictlySortedBy
skipped_first k [] s = refl
skipped_first k (y ∷ ys) s = by (order y k) refl (skipped_first k ys s.1)
  where
    by : (o : Ordering) → order y k ≡ o → begins_with k (skipped k ys) ≡ among k ys
        → begins_with k (skip_by o y ys (skipped k ys)) ≡ (same k y || among k ys)
    by Less e i = i ∙ ap (λ b. b || among k ys) (sym (less_differs y k e))
    by Equal e i =
        let one : same y k ≡ true = ap is_eq e in
        one ∙ sym (ap (λ b. b || among k ys) (same_turns k y ∙ one))
    by Greater e i =
        let other : same y k ≡ false = ap is_eq e in
        other ∙ sym
        (ap (λ b. b || among k ys) (same_turns k y ∙ other)
        ∙ none_above k ys (above_chain k y ys (turned y k e) s.0))

-- ---- what is lacking

lacking_all : (P : Plain → Type 0) (ks ys : List Plain) → AllByRecursion P ks → AllByRecursion P (lacking ks ys)
lacking_all P [] ys a = tt
lacking_all P (k ∷ ks) ys a = by (begins_with k (skipped k ys)) (lacking_all P ks (skipped k ys) a.1)
  where
    by : (b : Bool) → AllByRecursion P (lacking ks (skipped k ys))
        → AllByRecursion P (cond b (lacking ks (skipped k ys)) (k ∷ lacking ks (skipped k ys)))
    by true h = h
    by false h = (a.0, h)

pub lacking_ascends : (ks ys : List Plain) → Ascend ks → Ascend (lacking ks ys)
unfolding IsStrictlySortedBy
lacking_ascends [] ys s = tt
lacking_ascends (k ∷ ks) ys s = by (begins_with k (skipped k ys)) (lacking_ascends ks (skipped k ys) s.1)
  where
    by : (b : Bool) → Ascend (lacking ks (skipped k ys))
        → Ascend (cond b (lacking ks (skipped k ys)) (k ∷ lacking ks (skipped k ys)))
    by true h = h
    by false h = (lacking_all (λ z. order k z ≡ Less) ks (skipped k ys) s.0, h)

-- behind k nothing is lost by what was skipped for k
later_same : (k q : Plain) (ks ys : List Plain) → AllAbove k ks
    → (among q ks && not (among q (skipped k ys))) ≡ (among q ks && not (among q ys))
later_same k q ks ys a = by (among q ks) refl
  where
    by : (b : Bool) → among q ks ≡ b → (b && not (among q (skipped k ys))) ≡ (b && not (among q ys))
    by false e = refl
    by true e =
        let above : order k q ≡ Less = among_all (λ z. order k z ≡ Less) q ks a e in
        ap not (skipped_among k q ys (λ y d. less_differs y q (order_chain y k q d above)))

joined : (q k : Plain) (ks ys : List Plain) (b : Bool) (rest : Bool) → among k ys ≡ b → rest
    ≡ (among q ks && not (among q ys))
    → cond b rest (same q k || rest) ≡ ((same q k || among q ks) && not (among q ys))
joined q k ks ys b rest e r = by (same q k) refl b e
  where
    gone : (c d : Bool) → c ≡ true → (d && not c) ≡ (true && not c)
    gone true true e = refl
    gone true false e = refl
    gone false d e = cc

    by : (s : Bool) → same q k ≡ s → (b : Bool) → among k ys ≡ b → cond b rest (s || rest)
        ≡ ((s || among q ks) && not (among q ys))
    by true s true e = r ∙ gone (among q ys) (among q ks) (ap (λ z. among z ys) (same_is q k s) ∙ e)
    by true s false e = sym (ap not (ap (λ z. among z ys) (same_is q k s) ∙ e))
    by false s true e = r
    by false s false e = r

pub lacking_among : (q : Plain) (ks ys : List Plain) → Ascend ks → Ascend ys → among q (lacking ks ys)
    ≡ (among q ks && not (among q ys))
unfolding IsStrictlySortedBy
lacking_among q [] ys s t = refl
lacking_among q (k ∷ ks) ys s t =
    by (begins_with k (skipped k ys)) refl
    ∙ joined q k ks ys (begins_with k (skipped k ys)) (among q (lacking ks (skipped k ys))) (sym (skipped_first k ys t))
    (lacking_among q ks (skipped k ys) s.1 (skipped_ascends k ys t) ∙ later_same k q ks ys s.0)
  where
    by : (b : Bool) → begins_with k (skipped k ys) ≡ b
        → among q (cond b (lacking ks (skipped k ys)) (k ∷ lacking ks (skipped k ys)))
        ≡ cond b (among q (lacking ks (skipped k ys))) (same q k || among q (lacking ks (skipped k ys)))
    by true e = refl
    by false e = refl

pub only : (old new : List Plain) (k : Plain) → among k (lacking (wants old) (wants new)) ≡ only_over old new k
only old new k =
    lacking_among k (wants old) (wants new) (wants_ascend old) (wants_ascend new)
    ∙ (λ i. among_wants k old i && not (among_wants k new i))

pub changes_are : (old new before after : List Plain) (cs : List Change) → before ≡ wants old → after ≡ wants new
    → cs ≡ map Left (lacking before after) ++ map Came (lacking after before) → AreChanges old new cs
changes_are old new before after cs b a e = record {
  left = lacking (wants old) (wants new);
  came = lacking (wants new) (wants old);
  are = e ∙ (λ i. map Left (lacking (b i) (a i)) ++ map Came (lacking (a i) (b i)));
  left_ascends = lacking_ascends (wants old) (wants new) (wants_ascend old);
  came_ascends = lacking_ascends (wants new) (wants old) (wants_ascend new);
  left_are = only old new;
  came_are = only new old;
}
