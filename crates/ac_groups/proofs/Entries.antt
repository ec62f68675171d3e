-- Entries by ascending keys: what is found among them after one came or went, that the keys still ascend, and that what
-- is found tells them all.
use Rattle.std.proofs.Common.{◌≡◌, List, [], ◌∷◌, Bool, true, false, cond, Option, Some, None, refl, sym, ap, ◌∙◌}
use Rattle.std.specs.declared.cmp.Ordering.{Ordering}
use Rattle.std.specs.declared.cmp.Ordering.TheVariants.{Less, Equal, Greater}
use Rattle.std.specs.BTreeMap.{is_at, insert_entry}
use Rattle.std.specs.Cmp.{eq_by_cmp_equiv}
use Rattle.std.specs.List.{AllByRecursion}
use Rattle.std.specs.List.Sorted.{IsStrictlySortedBy}
use Rattle.std.specs.Map.{keys_of, lookup, remove_entry}
use Rattle.std.specs.Ordering.{is_eq, match_ordering, ordering_reverse}
use Rattle.std.proofs.lemmas.Cmp.{tied_itself}
use Rattle.std.proofs.lemmas.Map.{lookup-remove_entry}
use Rattle.std.proofs.lemmas.Map.Keys.{sorted_head, sorted_tail, IsDistinct-from_sorted}
use Rattle.pv_value.specs.Plain.{Plain}
use Rattle.pv_value.specs.Order.{order}
use Rattle.pv_value.specs.Lemmas.OrderLaws.{order_total, order_same, order_chain, order_turn}
use Rattle.pv_words.specs.Parts.{same}

-- ---- values that compare alike are one

Equal-is_eq : (o : Ordering) → is_eq o ≡ true → o ≡ Equal
Equal-is_eq Less e = cc
Equal-is_eq Equal e = refl
Equal-is_eq Greater e = cc

pub same_is : (x y : Plain) → same x y ≡ true → x ≡ y
same_is x y e = order_same x y (Equal-is_eq (order x y) e)

pub same_self : (x : Plain) → same x x ≡ true
same_self x = ap is_eq (tied_itself order_total x)

pub same_turns : (x y : Plain) → same x y ≡ same y x
same_turns x y = (eq_by_cmp_equiv order_total).symm x y

-- ---- what is found

abbrev pub found : {X : Type 0} → Plain → List (Plain × X) → Option X
found q es = lookup (is_at (order q)) es

abbrev pub Ascend : {X : Type 0} → List (Plain × X) → Type 0
Ascend es = IsStrictlySortedBy order (keys_of es)

-- each key here is above k
abbrev pub AreAbove : Plain → List Plain → Type 0
AreAbove k ks = AllByRecursion (λ j. order k j ≡ Less) ks

pub found_above : {X : Type 0} (q : Plain) (es : List (Plain × X)) → AreAbove q (keys_of es) → found q es ≡ None
found_above q [] above = refl
found_above q (e ∷ es) above = rw above.0 (found_above q es above.1)

-- the first of them is in no other place
pub found_behind : {X : Type 0} (e : Plain × X) (es : List (Plain × X)) → Ascend (e ∷ es) → found e.0 es ≡ None
found_behind e es s = found_above e.0 es (sorted_head order e.0 (keys_of es) s)

pub tail_ascends : {X : Type 0} (e : Plain × X) (es : List (Plain × X)) → Ascend (e ∷ es) → Ascend es
tail_ascends e es s = sorted_tail order e.0 (keys_of es) s

twice : {X : Type 0} (b : Bool) (v w : X) (o : Option X) → cond b (Some v) o ≡ cond b (Some v) (cond b (Some w) o)
twice true v w o = refl
twice false v w o = refl

pub found_insert : {X : Type 0} (k q : Plain) (v : X) (es : List (Plain × X))
    → found q (insert_entry order es k v) ≡ cond (same k q) (Some v) (found q es)
found_insert k q v [] = ap (λ b. cond b (Some v) None) (same_turns q k)
found_insert {X = X} k q v (e ∷ es) = split (order k e.0) refl (found_insert k q v es)
  where
    apart : (b c : Bool) → same q e.0 ≡ b → same k q ≡ c → order k e.0 ≡ Greater
        → cond b (Some e.1) (cond c (Some v) (found q es)) ≡ cond c (Some v) (cond b (Some e.1) (found q es))
    apart true true at_e at_k more =
        let one : k ≡ e.0 = same_is k q at_k ∙ same_is q e.0 at_e in
        let tied : order k e.0 ≡ Equal = ap (order k) (sym one) ∙ tied_itself order_total k in
        absurd cc
    apart true false at_e at_k more = refl
    apart false c at_e at_k more = refl

    split : (o : Ordering) → order k e.0 ≡ o
        → found q (insert_entry order es k v) ≡ cond (same k q) (Some v) (found q es)
        → found q (match_ordering o ((k, v) ∷ e ∷ es) ((e.0, v) ∷ es) (e ∷ insert_entry order es k v))
        ≡ cond (same k q) (Some v) (found q (e ∷ es))
    split Less is rest = ap (λ b. cond b (Some v) (found q (e ∷ es))) (same_turns q k)
    split Equal is rest =
        let one : same q e.0 ≡ same k q = ap (same q) (sym (order_same k e.0 is)) ∙ same_turns q k in
        ap (λ b. cond b (Some v) (found q es)) one ∙ twice (same k q) v e.1 (found q es)
        ∙ ap (λ b. cond (same k q) (Some v) (cond b (Some e.1) (found q es))) (sym one)
    split Greater is rest =
        ap (λ o. cond (same q e.0) (Some e.1) o) rest ∙ apart (same q e.0) (same k q) refl refl is

pub found_remove : {X : Type 0} (k q : Plain) (es : List (Plain × X)) → Ascend es
    → found q (remove_entry (is_at (order k)) es) ≡ cond (same k q) None (found q es)
found_remove k q es s =
    lookup-remove_entry (eq_by_cmp_equiv order_total) (same k)
    (λ x y e. ap (λ z. same z y) (same_is k x e)) q es (IsDistinct-from_sorted order (keys_of es) s)

-- ---- keys that ascend

pub ascend_none : (X : Type 0) → Ascend {X = X} []
unfolding IsStrictlySortedBy
ascend_none X = tt

ascend_cons : (k : Plain) (ks : List Plain) → AreAbove k ks → IsStrictlySortedBy order ks
    → IsStrictlySortedBy order (k ∷ ks)
unfolding IsStrictlySortedBy
ascend_cons k ks above s = (above, s)

above_lower : (k m : Plain) (ks : List Plain) → order k m ≡ Less → AreAbove m ks → AreAbove k ks
above_lower k m [] less above = tt
above_lower k m (j ∷ ks) less above = (order_chain k m j less above.0, above_lower k m ks less above.1)

above_with : {X : Type 0} (m k : Plain) (v : X) (es : List (Plain × X)) → order m k ≡ Less → AreAbove m (keys_of es)
    → AreAbove m (keys_of (insert_entry order es k v))
above_with m k v [] less above = (less, tt)
above_with m k v (e ∷ es) less above = split (order k e.0) (above_with m k v es less above.1)
  where
    split : (o : Ordering) → AreAbove m (keys_of (insert_entry order es k v))
        → AreAbove m (keys_of (match_ordering o ((k, v) ∷ e ∷ es) ((e.0, v) ∷ es) (e ∷ insert_entry order es k v)))
    split Less rest = (less, above)
    split Equal rest = above
    split Greater rest = (above.0, rest)

pub ascend_insert : {X : Type 0} (k : Plain) (v : X) (es : List (Plain × X)) → Ascend es
    → Ascend (insert_entry order es k v)
ascend_insert k v [] s = ascend_cons k [] tt s
ascend_insert k v (e ∷ es) s = split (order k e.0) refl (ascend_insert k v es (tail_ascends e es s))
  where
    above : AreAbove e.0 (keys_of es)
    above = sorted_head order e.0 (keys_of es) s

    split : (o : Ordering) → order k e.0 ≡ o → Ascend (insert_entry order es k v)
        → Ascend (match_ordering o ((k, v) ∷ e ∷ es) ((e.0, v) ∷ es) (e ∷ insert_entry order es k v))
    split Less is rest = ascend_cons k (e.0 ∷ keys_of es) (is, above_lower k e.0 (keys_of es) is above) s
    split Equal is rest = s
    split Greater is rest =
        let less : order e.0 k ≡ Less = order_turn e.0 k ∙ ap ordering_reverse is in
        ascend_cons e.0 (keys_of (insert_entry order es k v)) (above_with e.0 k v es less above) rest

above_without : {X : Type 0} (m k : Plain) (es : List (Plain × X)) → AreAbove m (keys_of es)
    → AreAbove m (keys_of (remove_entry (is_at (order k)) es))
above_without m k [] above = tt
above_without m k (e ∷ es) above = split (same k e.0) (above_without m k es above.1)
  where
    split : (b : Bool) → AreAbove m (keys_of (remove_entry (is_at (order k)) es))
        → AreAbove m (keys_of (cond b es (e ∷ remove_entry (is_at (order k)) es)))
    split true rest = above.1
    split false rest = (above.0, rest)

pub ascend_remove : {X : Type 0} (k : Plain) (es : List (Plain × X)) → Ascend es
    → Ascend (remove_entry (is_at (order k)) es)
ascend_remove k [] s = s
ascend_remove k (e ∷ es) s = split (same k e.0) (ascend_remove k es (tail_ascends e es s))
  where
    split : (b : Bool) → Ascend (remove_entry (is_at (order k)) es)
        → Ascend (cond b es (e ∷ remove_entry (is_at (order k)) es))
    split true rest = tail_ascends e es s
    split false rest =
        ascend_cons e.0 (keys_of (remove_entry (is_at (order k)) es))
        (above_without e.0 k es (sorted_head order e.0 (keys_of es) s)) rest

-- ---- what is found tells them all

first_found : {X : Type 0} (e : Plain × X) (es : List (Plain × X)) → found e.0 (e ∷ es) ≡ Some e.1
first_found e es = ap (λ b. cond b (Some e.1) (found e.0 es)) (same_self e.0)

none_below : {X : Type 0} (q : Plain) (e : Plain × X) (es : List (Plain × X)) → Ascend (e ∷ es) → order q e.0 ≡ Less
    → found q (e ∷ es) ≡ None
none_below q e es s less =
    found_above q (e ∷ es) (less, above_lower q e.0 (keys_of es) less (sorted_head order e.0 (keys_of es) s))

pub told : {X : Type 0} (es fs : List (Plain × X)) → Ascend es → Ascend fs → ((q : Plain) → found q fs ≡ found q es)
    → fs ≡ es
told [] [] s t h = refl
told [] (f ∷ fs) s t h =
    let clash : Some f.1 ≡ None = sym (first_found f fs) ∙ h f.0 in absurd cc
told (e ∷ es) [] s t h =
    let clash : Some e.1 ≡ None = sym (first_found e es) ∙ sym (h e.0) in absurd cc
told {X = X} (e ∷ es) (f ∷ fs) s t h =
    split (order e.0 f.0) refl (told es fs (tail_ascends e es s) (tail_ascends f fs t))
  where
    behind : f.0 ≡ e.0 → (q : Plain) (b : Bool) → same q e.0 ≡ b → found q fs ≡ found q es
    behind key q true is =
        let at_e : q ≡ e.0 = same_is q e.0 is in
        let at_f : q ≡ f.0 = at_e ∙ sym key in
        ap (λ k. found k fs) at_f ∙ found_behind f fs t ∙ sym (ap (λ k. found k es) at_e ∙ found_behind e es s)
    behind key q false is =
        sym (ap (λ b. cond b (Some f.1) (found q fs)) (ap (same q) key ∙ is)) ∙ h q
        ∙ ap (λ b. cond b (Some e.1) (found q es)) is

    split : (o : Ordering) → order e.0 f.0 ≡ o → (((q : Plain) → found q fs ≡ found q es) → fs ≡ es)
        → ◌≡◌ {A = List (Plain × X)} (f ∷ fs) (e ∷ es)
    split Less is rest =
        let clash : Some e.1 ≡ None = sym (first_found e es) ∙ sym (h e.0) ∙ none_below e.0 f fs t is in absurd cc
    split Greater is rest =
        let less : order f.0 e.0 ≡ Less = order_turn f.0 e.0 ∙ ap ordering_reverse is in
        let clash : Some f.1 ≡ None = sym (first_found f fs) ∙ h f.0 ∙ none_below f.0 e es s less in absurd cc
    split Equal is rest =
        let key : f.0 ≡ e.0 = sym (order_same e.0 f.0 is) in
        let both : Some f.1 ≡ Some e.1 =
        sym (first_found f fs) ∙ h f.0 ∙ ap (λ k. found k (e ∷ es)) key ∙ first_found e es in
        let value : f.1 ≡ e.1 = cc in
        let others : fs ≡ es = rest (λ q. behind key q (same q e.0) refl) in
        λ i. (key i, value i) ∷ others i

pub told_inserted : {X : Type 0} (es fs : List (Plain × X)) (k : Plain) (v : X) → Ascend es → Ascend fs
    → ((q : Plain) → found q fs ≡ cond (same k q) (Some v) (found q es)) → fs ≡ insert_entry order es k v
told_inserted es fs k v s t h =
    told (insert_entry order es k v) fs (ascend_insert k v es s) t (λ q. h q ∙ sym (found_insert k q v es))

pub told_removed : {X : Type 0} (es fs : List (Plain × X)) (k : Plain) → Ascend es → Ascend fs
    → ((q : Plain) → found q fs ≡ cond (same k q) None (found q es)) → fs ≡ remove_entry (is_at (order k)) es
told_removed es fs k s t h =
    told (remove_entry (is_at (order k)) es) fs (ascend_remove k es s) t (λ q. h q ∙ sym (found_remove k q es s))
