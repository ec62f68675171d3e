-- Keys that are put into a list.
use Rattle.std.proofs.Common.{◌≡◌, ℕ, ◌<◌, ◌≤◌, List, [], ◌∷◌, ◌++◌, map, Bool, true, false, cond, ◌&&◌, ◌||◌, ltb}
use Rattle.std.proofs.Common.{refl}
use Rattle.std.proofs.Common.{ap, sym, ◌∙◌, subst, eqb, Option, Some}
use Rattle.std.specs.BTreeMap as tree
use Rattle.std.specs.BTreeSet as sorted
use Rattle.std.specs.Ordering.{eq_by_cmp}
use Rattle.std.specs.List.{list_any, IsDistinct, AllByRecursion, dedup, dedup_from}
use Rattle.std.specs.List.Retain.{IsFiltered, DiffersFromLast}
use Rattle.std.specs.List.Sorted.{IsStrictlySortedBy, IsSorted, IsPermutation}
use Rattle.std.specs.Map.{keys_of, lookup}
use Rattle.std.specs.Map.Iter.{deref, deref_pair}
use Rattle.std.specs.Borrow.{Bor}
use Rattle.std.proofs.lemmas.Bool.{lt-ltb, le-ltb}
use Rattle.std.proofs.lemmas.List.Filters.{dedup_is}
use Rattle.std.proofs.lemmas.List.Folds.{list_any-append}
use Rattle.std.proofs.lemmas.List.Kept.{IsStrictlySortedBy-dedup}
use Rattle.std.proofs.lemmas.List.Sorted.{list_any-IsPermutation}
use Rattle.std.proofs.lemmas.Map.Keys.{IsDistinct-from_sorted, IsDistinct-head, IsDistinct-tail}
use Rattle.pv_value.specs.Plain.{Plain}
use Rattle.pv_value.specs.Order.{order}
use Rattle.pv_value.specs.EntryOrder.{entry_order}
use Rattle.pv_value.specs.Lemmas.EntryOrderLaws.{entry_order_total}
use Rattle.pv_value.specs.declared.Entry.{Entry}
use Rattle.pv_words.specs.Lemmas.Same.{same_is}
use Rattle.pv_words.specs.Parts.{same}
use Rattle.ds_space.specs.Lemmas.Keys.{same_turns, or_false, or_assoc}
use Rattle.ds_skeleton.specs.Places.{same_entry}
use Rattle.ds_skeleton.specs.Keys.{has_key}
use Rattle.ds_skeleton.specs.Leaves.{Leaf, number}
use Rattle.ds_skeleton.specs.Indexes.{touched_in}
use Rattle.ds_skeleton.proofs.Same.{both_eq, entry_is}

added_by : (o c : Plain) (p q : Entry) (old new : List Entry) → p.key ≡ o → p.value ≡ c → new ≡ old ++ p ∷ []
    → has_key new q ≡ (has_key old q || (same o q.key && same c q.value))
added_by o c p q old new e f h =
    ap (list_any (same_entry q)) h ∙ list_any-append (same_entry q) old (p ∷ [])
    ∙ ap (λ b. has_key old q || b)
    (or_false (same_entry q p) ∙ both_eq (order q.key p.key) (order q.value p.value)
    ∙ ap (λ b. b && same q.value p.value) (same_turns q.key p.key)
    ∙ ap (λ b. same p.key q.key && b) (same_turns q.value p.value)
    ∙ ap (λ k. same k q.key && same p.value q.value) e
    ∙ ap (λ k. same o q.key && same k q.value) f)

pub key_added : (o c k w : Plain) (q : Entry) (old new : List Entry) → k ≡ o → w ≡ c
    → (let p : Entry = record { key = k; value = w } in new ≡ old ++ p ∷ [])
    → has_key new q ≡ (has_key old q || (same o q.key && same c q.value))
key_added o c k w q old new e f h = let p : Entry = record { key = k; value = w } in added_by o c p q old new e f h

-- ---- keys in their order, each once

kept_once : (p q : Entry) (xs : List Entry) → has_key (dedup_from same_entry p xs) q ≡ has_key (p ∷ xs) q
kept_once p q [] = refl
kept_once p q (x ∷ xs) = by (same_entry x p) refl (kept_once p q xs) (kept_once x q xs)
  where
    twice : (a b : Bool) → (a || b) ≡ (a || (a || b))
    twice true b = refl
    twice false b = refl

    by : (b : Bool) → same_entry x p ≡ b → has_key (dedup_from same_entry p xs) q ≡ has_key (p ∷ xs) q
        → has_key (dedup_from same_entry x xs) q ≡ has_key (x ∷ xs) q
        → has_key (cond b (dedup_from same_entry p xs) (p ∷ dedup_from same_entry x xs)) q ≡ has_key (p ∷ x ∷ xs) q
    by true e i j =
        i ∙ twice (same_entry q p) (has_key xs q)
        ∙ ap (λ y. same_entry q p || (same_entry q y || has_key xs q)) (sym (entry_is x p e))
    by false e i j = ap (λ b. same_entry q p || b) j

once : (xs : List Entry) (q : Entry) → has_key (dedup same_entry xs) q ≡ has_key xs q
once [] q = refl
once (x ∷ xs) q = kept_once x q xs

pub each_once : (old mid new : List Entry) → IsPermutation old mid
    → IsFiltered (DiffersFromLast same_entry) [] mid new → (q : Entry) → has_key new q ≡ has_key old q
each_once old mid new moved h q =
    ap (list_any (same_entry q)) (dedup_is same_entry mid new h) ∙ once mid q
    ∙ sym (list_any-IsPermutation (same_entry q) old mid moved)

pub in_order : (mid new : List Entry) → IsSorted entry_order mid
    → IsFiltered (DiffersFromLast same_entry) [] mid new → IsStrictlySortedBy entry_order new
in_order mid new s h =
    subst (IsStrictlySortedBy entry_order) (sym (dedup_is same_entry mid new h))
    (IsStrictlySortedBy-dedup entry_order_total (λ x y. refl) mid s)

pub any-seen_push : {X : Type 0} (p : X → Bool) (xs : List (Bor X)) (y : Bor X)
    → list_any p (map deref (xs ++ y ∷ [])) ≡ (list_any p (map deref xs) || p y.now)
any-seen_push p [] y = or_false (p y.now)
any-seen_push p (x ∷ xs) y =
    ap (λ b. p x.now || b) (any-seen_push p xs y) ∙ sym (or_assoc (p x.now) (list_any p (map deref xs)) (p y.now))

pub any-pairs_push : (p : Plain × ℕ → Bool) (xs : List (Bor Plain × Bor ℕ)) (y : Bor Plain × Bor ℕ)
    → list_any p (map deref_pair (xs ++ y ∷ [])) ≡ (list_any p (map deref_pair xs) || p (deref_pair y))
any-pairs_push p [] y = or_false (p (deref_pair y))
any-pairs_push p (x ∷ xs) y =
    ap (λ b. p (deref_pair x) || b) (any-pairs_push p xs y)
    ∙ sym (or_assoc (p (deref_pair x)) (list_any p (map deref_pair xs)) (p (deref_pair y)))

regroup : (old s t u : Bool) → ((old || (s && u)) || (t && s)) ≡ (old || (s && (u || t)))
regroup true s t u = refl
regroup false true true u = refl
regroup false true false u = refl
regroup false false true u = refl
regroup false false false u = refl

turned : (a b : Bool) → (a && b) ≡ (b && a)
turned true true = refl
turned true false = refl
turned false true = refl
turned false false = refl

pub one_observer : (c : Plain) (q : Entry) (xs : List (Bor Plain)) (o : Bor Plain) (new mid old : Bool)
    → new ≡ (mid || (same o.now q.key && same c q.value))
    → mid ≡ (old || (same c q.value && list_any (same q.key) (map deref xs)))
    → new ≡ (old || (same c q.value && list_any (same q.key) (map deref (xs ++ o ∷ []))))
one_observer c q xs o new mid old e f =
    e ∙ ap (λ m. m || (same o.now q.key && same c q.value)) f
    ∙ regroup old (same c q.value) (same o.now q.key) (list_any (same q.key) (map deref xs))
    ∙ ap (λ t. old || (same c q.value && (list_any (same q.key) (map deref xs) || t))) (same_turns o.now q.key)
    ∙ ap (λ t. old || (same c q.value && t)) (sym (any-seen_push (same q.key) xs o))

-- the key k has a count in these entries
abbrev pub counted : Plain → Plain × ℕ → Bool
counted k e = same k e.0 && ltb 0 e.1

pub one_captured : (o : Plain) (q : Entry) (xs : List (Bor Plain × Bor ℕ)) (c : Bor Plain) (n : Bor ℕ)
    (new mid old : Bool) → new ≡ (mid || (same o q.key && (same c.now q.value && ltb 0 n.now)))
    → mid ≡ (old || (same o q.key && list_any (counted q.value) (map deref_pair xs)))
    → new ≡ (old || (same o q.key && list_any (counted q.value) (map deref_pair (xs ++ (c, n) ∷ []))))
one_captured o q xs c n new mid old e f =
    e ∙ ap (λ m. m || (same o q.key && (same c.now q.value && ltb 0 n.now))) f
    ∙ ap (λ t. (old || (same o q.key && list_any (counted q.value) (map deref_pair xs))) || t)
    (turned (same o q.key) (same c.now q.value && ltb 0 n.now))
    ∙ regroup old (same o q.key) (same c.now q.value && ltb 0 n.now)
    (list_any (counted q.value) (map deref_pair xs))
    ∙ ap (λ t. old || (same o q.key && (list_any (counted q.value) (map deref_pair xs) || (t && ltb 0 n.now))))
    (same_turns c.now q.value)
    ∙ ap (λ t. old || (same o q.key && t)) (sym (any-pairs_push (counted q.value) xs (c, n)))

-- a count that isn't 0, and one that is
pub some_counted : (old a b : Bool) (n : ℕ) → 0 < n → (old || (a && b)) ≡ (old || (a && (b && ltb 0 n)))
some_counted old a b n h = ap (λ t. old || (a && t)) (both b (ltb 0 n) (lt-ltb 0 n h))
  where
    both : (b d : Bool) → d ≡ true → b ≡ (b && d)
    both true d e = sym e
    both false d e = refl

pub none_counted : (old a b : Bool) (n : ℕ) → n ≤ 0 → old ≡ (old || (a && (b && ltb 0 n)))
none_counted old a b n h = by old a b (ltb 0 n) (le-ltb 0 n h)
  where
    by : (old a b d : Bool) → d ≡ false → old ≡ (old || (a && (b && d)))
    by true a b d e = refl
    by false true true d e = sym e
    by false true false d e = refl
    by false false b d e = refl

none_later : (k x : Plain) (es : List (Plain × ℕ)) → same k x ≡ true
    → AllByRecursion (λ y. eq_by_cmp order x y ≡ false) (keys_of es) → list_any (counted k) es ≡ false
none_later k x [] e h = refl
none_later k x (p ∷ ps) e h =
    let t : same k p.0 ≡ false = subst (λ (z : Plain). same z p.0 ≡ false) (sym (same_is k x e)) h.0 in
    rw t (none_later k x ps e h.1)

pub lookup_counted : (k : Plain) (es : List (Plain × ℕ)) → IsDistinct (eq_by_cmp order) (keys_of es)
    → list_any (counted k) es ≡ ltb 0 (number (lookup (same k) es))
lookup_counted k [] d = refl
lookup_counted k (e ∷ es) d =
    by (same k e.0) refl (lookup_counted k es (IsDistinct-tail (eq_by_cmp order) e.0 (keys_of es) d))
  where
    by : (b : Bool) → same k e.0 ≡ b → list_any (counted k) es ≡ ltb 0 (number (lookup (same k) es))
        → list_any (counted k) (e ∷ es) ≡ ltb 0 (number (lookup (same k) (e ∷ es)))
    by true is i =
        rw (is, none_later k e.0 es is (IsDistinct-head (eq_by_cmp order) e.0 (keys_of es) d)) (or_false (ltb 0 e.1))
    by false is i = rw is i

pub lookup_counted_in_order : (k : Plain) (es : List (Plain × ℕ)) → IsStrictlySortedBy order (keys_of es)
    → list_any (counted k) es ≡ ltb 0 (number (lookup (same k) es))
lookup_counted_in_order k es s = lookup_counted k es (IsDistinct-from_sorted order (keys_of es) s)

-- the one value that was captured so
pub touched_leaf : (at : Option Leaf) (leaf : Leaf) (c : Plain) (q : Entry) → at ≡ Some leaf
    → eqb (number (tree.get order leaf.captured c)) 1 ≡ true
    → (same c q.value && sorted.contains order leaf.observers q.key) ≡ touched_in at c q
touched_leaf at leaf c q is one =
    ap (λ b. b && (same c q.value && sorted.contains order leaf.observers q.key)) (sym one)
    ∙ ap (λ l. touched_in l c q) (sym is)
