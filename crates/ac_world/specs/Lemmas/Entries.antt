-- Entries by ascending number: what is found among them after one came or went, that the numbers still ascend, and what
-- passes of them.
use Rattle.std.proofs.Common.{◌≡◌, ◌≢◌, ℕ, ◌<◌, ◌==◌, List, [], ◌∷◌, ◌++◌, Bool, true, false, cond, Some, None}
use Rattle.std.proofs.Common.{Ordering, Less, Equal, Greater, refl, ap, ◌∙◌, subst, arith}
use Rattle.std.specs.BTreeMap.{is_at, insert_entry}
use Rattle.std.specs.List.{AllByRecursion}
use Rattle.std.specs.List.Sorted.{IsStrictlySortedBy}
use Rattle.std.specs.Map.{keys_of, values_of, remove_entry}
use Rattle.std.specs.Ordering.{nat_cmp, match_ordering}
use Rattle.std.proofs.lemmas.Bool.Decides.{nat_tests}
use Rattle.std.proofs.lemmas.Map.Keys.{sorted_head, sorted_tail}
use Rattle.ac_world.specs.Worlds.{entry_of, with_entry, without_entry}

-- ---- numbers that ascend

abbrev pub KeysAscend : {X : Type 0} → List (ℕ × X) → Type 0
KeysAscend es = IsStrictlySortedBy nat_cmp (keys_of es)

-- each number here is above k
abbrev pub AreAbove : ℕ → List ℕ → Type 0
AreAbove k ks = AllByRecursion (λ j. nat_cmp k j ≡ Less) ks

pub ascend_none : IsStrictlySortedBy nat_cmp []
unfolding IsStrictlySortedBy
ascend_none = tt

pub ascend_cons : (k : ℕ) (ks : List ℕ) → AreAbove k ks → IsStrictlySortedBy nat_cmp ks
    → IsStrictlySortedBy nat_cmp (k ∷ ks)
unfolding IsStrictlySortedBy
ascend_cons k ks a s = (a, s)

pub above_lower : (k m : ℕ) (ks : List ℕ) → k < m → AreAbove m ks → AreAbove k ks
above_lower k m [] l above = tt
above_lower k m (j ∷ ks) l above = (grind (arith, above.0), above_lower k m ks l above.1)

pub all_append : {X : Type 0} (P : X → Type 0) (xs ys : List X) → AllByRecursion P xs → AllByRecursion P ys
    → AllByRecursion P (xs ++ ys)
all_append P [] ys a b = b
all_append P (x ∷ xs) ys a b = (a.0, all_append P xs ys a.1 b)

-- one more, above all
pub ascend_push : (ks : List ℕ) (k : ℕ) → AllByRecursion (λ j. j < k) ks → IsStrictlySortedBy nat_cmp ks
    → IsStrictlySortedBy nat_cmp (ks ++ k ∷ [])
ascend_push [] k below s = ascend_cons k [] tt ascend_none
ascend_push (j ∷ ks) k below s =
    let last : nat_cmp j k ≡ Less = grind (arith, nat_tests, below.0) in
    ascend_cons j (ks ++ k ∷ []) (all_append _ ks (k ∷ []) (sorted_head nat_cmp _ _ s) (last, tt))
    (ascend_push ks k below.1 (sorted_tail nat_cmp _ _ s))

-- ---- what is found

pub put_found : {X : Type 0} (k : ℕ) (v : X) (es : List (ℕ × X)) → entry_of k (with_entry k v es) ≡ Some v
put_found k v [] = grind (arith, nat_tests)
put_found k v (e ∷ es) = grind (arith, nat_tests, put_found k v es)

pub put_other : {X : Type 0} (k j : ℕ) (v : X) (es : List (ℕ × X)) → j ≢ k
    → entry_of j (with_entry k v es) ≡ entry_of j es
put_other k j v [] ne = grind (arith, nat_tests, ne)
put_other k j v (e ∷ es) ne = grind (arith, nat_tests, ne, put_other k j v es ne)

pub out_other : {X : Type 0} (k j : ℕ) (es : List (ℕ × X)) → j ≢ k → entry_of j (without_entry k es) ≡ entry_of j es
out_other k j [] ne = refl
out_other k j (e ∷ es) ne = grind (arith, nat_tests, ne, out_other k j es ne)

pub entry_of_with : {X : Type 0} (h k : ℕ) (x : X) (es : List (ℕ × X))
    → entry_of h (with_entry k x es) ≡ cond (k == h) (Some x) (entry_of h es)
entry_of_with h k x [] = grind (arith, nat_tests)
entry_of_with h k x (e ∷ es) = grind (arith, nat_tests, entry_of_with h k x es)

pub entry_of_above : {X : Type 0} (h : ℕ) (es : List (ℕ × X)) → AreAbove h (keys_of es) → entry_of h es ≡ None
entry_of_above h [] a = refl
entry_of_above h (e ∷ es) a = grind (arith, a.0, entry_of_above h es a.1)

pub entry_of_without : {X : Type 0} (h k : ℕ) (es : List (ℕ × X)) → KeysAscend es
    → entry_of h (without_entry k es) ≡ cond (k == h) None (entry_of h es)
entry_of_without h k [] s = grind arith
entry_of_without h k (e ∷ es) s =
    grind (
      arith,
      nat_tests,
      entry_of_without h k es (sorted_tail nat_cmp _ _ s),
      λ (same : e.0 ≡ h). entry_of_above h es (rw (← same) (sorted_head nat_cmp _ _ s)),
    )

pub out_gone : {X : Type 0} (k : ℕ) (es : List (ℕ × X)) → KeysAscend es → entry_of k (without_entry k es) ≡ None
out_gone k es s = grind (arith, entry_of_without k k es s)

-- ---- one that is taken out and put back

with_front : {X : Type 0} (k : ℕ) (v : X) (es : List (ℕ × X)) → AreAbove k (keys_of es)
    → with_entry k v es ≡ (k, v) ∷ es
with_front k v [] above = refl
with_front k v (e ∷ es) above = rw above.0 refl

without_none : {X : Type 0} (k : ℕ) (es : List (ℕ × X)) → AreAbove k (keys_of es) → without_entry k es ≡ es
without_none k [] above = refl
without_none k (e ∷ es) above = rw above.0 (ap (λ t. e ∷ t) (without_none k es above.1))

pub put_back : {X : Type 0} (k : ℕ) (v : X) (es : List (ℕ × X)) → KeysAscend es
    → with_entry k v (without_entry k es) ≡ with_entry k v es
put_back k v [] s = refl
put_back k v (e ∷ es) s =
    grind (
      arith,
      put_back k v es (sorted_tail nat_cmp _ _ s),
      λ (same : e.0 ≡ k). with_front k v es (rw (← same) (sorted_head nat_cmp _ _ s)),
      λ (l : k < e.0). without_none k es (above_lower k e.0 _ l (sorted_head nat_cmp _ _ s)),
    )

-- the same as the calls of a map tell it
pub back : {X : Type 0} (k : ℕ) (v w : X) (old less new : List (ℕ × X)) → KeysAscend old
    → less ≡ remove_entry (is_at (nat_cmp k)) old → new ≡ insert_entry nat_cmp less k v → v ≡ w
    → new ≡ with_entry k w old
back {X = X} k v w old less new ascend less_is is same =
    is ∙ ap (λ (es : List (ℕ × X)). insert_entry nat_cmp es k v) less_is ∙ put_back k v old ascend
    ∙ ap (λ (x : X). insert_entry nat_cmp old k x) same

-- ---- one more, and one less

pub all_with : {X : Type 0} (P : ℕ → Type 0) (k : ℕ) (x : X) (es : List (ℕ × X)) → P k → AllByRecursion P (keys_of es)
    → AllByRecursion P (keys_of (with_entry k x es))
all_with P k x [] p a = (p, tt)
all_with {X = X} P k x (e ∷ es) p a = split (nat_cmp k e.0) refl (all_with P k x es p a.1)
  where
    split : (o : Ordering) → nat_cmp k e.0 ≡ o → AllByRecursion P (keys_of (with_entry k x es))
        → AllByRecursion P (keys_of (with_entry k x (e ∷ es)))
    split Less is rest = rw is (p, a)
    split Equal is rest = rw is a
    split Greater is rest = rw is (a.0, rest)

pub all_without : {X : Type 0} (P : ℕ → Type 0) (k : ℕ) (es : List (ℕ × X)) → AllByRecursion P (keys_of es)
    → AllByRecursion P (keys_of (without_entry k es))
all_without P k [] a = tt
all_without P k (e ∷ es) a = split (is_at (nat_cmp k) e.0) refl (all_without P k es a.1)
  where
    split : (b : Bool) → is_at (nat_cmp k) e.0 ≡ b → AllByRecursion P (keys_of (without_entry k es))
        → AllByRecursion P (keys_of (without_entry k (e ∷ es)))
    split true is rest = rw is a.1
    split false is rest = rw is (a.0, rest)

pub ascend_with : {X : Type 0} (k : ℕ) (x : X) (es : List (ℕ × X)) → KeysAscend es → KeysAscend (with_entry k x es)
ascend_with k x [] s = ascend_cons k [] tt ascend_none
ascend_with k x (e ∷ es) s = split (nat_cmp k e.0) refl (ascend_with k x es (sorted_tail nat_cmp _ _ s))
  where
    split : (o : Ordering) → nat_cmp k e.0 ≡ o → KeysAscend (with_entry k x es)
        → KeysAscend (with_entry k x (e ∷ es))
    split Less is rest =
        let lower : k < e.0 = grind (arith, nat_tests) in
        rw is (ascend_cons k _ (is, above_lower k e.0 _ lower (sorted_head nat_cmp _ _ s)) s)
    split Equal is rest = rw is s
    split Greater is rest =
        let lower : nat_cmp e.0 k ≡ Less = grind (arith, nat_tests) in
        rw is (ascend_cons e.0 _ (all_with _ k x es lower (sorted_head nat_cmp _ _ s)) rest)

pub ascend_without : {X : Type 0} (k : ℕ) (es : List (ℕ × X)) → KeysAscend es → KeysAscend (without_entry k es)
ascend_without k [] s = s
ascend_without k (e ∷ es) s =
    split (is_at (nat_cmp k) e.0) refl (ascend_without k es (sorted_tail nat_cmp _ _ s))
  where
    split : (b : Bool) → is_at (nat_cmp k) e.0 ≡ b → KeysAscend (without_entry k es)
        → KeysAscend (without_entry k (e ∷ es))
    split true is rest = rw is (sorted_tail nat_cmp _ _ s)
    split false is rest = rw is (ascend_cons e.0 _ (all_without _ k es (sorted_head nat_cmp _ _ s)) rest)

-- ---- what is true of each entry

-- each entry passes with one more, where that passes
pub each_with : {X : Type 0} (P : ℕ × X → Type 0) (k : ℕ) (x : X) (es : List (ℕ × X)) → P (k, x)
    → AllByRecursion P es → AllByRecursion P (with_entry k x es)
each_with P k x [] p all = (p, tt)
each_with {X = X} P k x (e ∷ es) p all = split (nat_cmp k e.0) refl (each_with P k x es p all.1)
  where
    split : (o : Ordering) → nat_cmp k e.0 ≡ o → AllByRecursion P (with_entry k x es)
        → AllByRecursion P (match_ordering o ((k, x) ∷ e ∷ es) ((e.0, x) ∷ es) (e ∷ with_entry k x es))
    split Less is rest = (p, all)
    split Equal is rest =
        let same : k ≡ e.0 = grind (arith, nat_tests, is) in
        (subst (λ (j : ℕ). P (j, x)) same p, all.1)
    split Greater is rest = (all.0, rest)

pub each_without : {X : Type 0} (P : ℕ × X → Type 0) (k : ℕ) (es : List (ℕ × X)) → AllByRecursion P es
    → AllByRecursion P (without_entry k es)
each_without P k [] all = tt
each_without {X = X} P k (e ∷ es) all = split (is_at (nat_cmp k) e.0) (each_without P k es all.1)
  where
    split : (b : Bool) → AllByRecursion P (without_entry k es)
        → AllByRecursion P (cond b es (e ∷ without_entry k es))
    split true rest = all.1
    split false rest = (all.0, rest)

-- one that is found passes
pub each_found : {X : Type 0} (P : ℕ × X → Type 0) (k : ℕ) (x : X) (es : List (ℕ × X)) → AllByRecursion P es
    → entry_of k es ≡ Some x → P (k, x)
each_found P k x [] all is = absurd cc
each_found {X = X} P k x (e ∷ es) all is = split (is_at (nat_cmp k) e.0) refl is
    (each_found P k x es all.1)
  where
    split : (b : Bool) → is_at (nat_cmp k) e.0 ≡ b → cond b (Some e.1) (entry_of k es) ≡ Some x
        → (entry_of k es ≡ Some x → P (k, x)) → P (k, x)
    split true here found later =
        let same : e.0 ≡ k = grind (arith, nat_tests, here) in
        let value : e.1 ≡ x = cc in
        subst (λ (j : ℕ). P (j, x)) same (subst (λ (y : X). P (e.0, y)) value all.0)
    split false past found later = later found

-- ---- the values alone

pub values_pass : {X : Type 0} (P : X → Type 0) (es : List (ℕ × X)) → AllByRecursion P (values_of es)
    → AllByRecursion (λ e. P e.1) es
values_pass P [] all = tt
values_pass P (e ∷ es) all = (all.0, values_pass P es all.1)

pub values_all : {X : Type 0} (P : X → Type 0) (es : List (ℕ × X)) → AllByRecursion (λ e. P e.1) es
    → AllByRecursion P (values_of es)
values_all P [] all = tt
values_all P (e ∷ es) all = (all.0, values_all P es all.1)
