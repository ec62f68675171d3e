-- Entries by key, in an order that tells all keys apart: what is found once one comes or goes.
use Rattle.std.proofs.Common.{◌≡◌, List, [], ◌∷◌, Bool, true, false, cond, Option, Some, None, refl, ap, sym, ◌∙◌}
use Rattle.std.proofs.Common.{subst, Less, Equal, Greater}
use Rattle.std.specs.declared.cmp.Ordering.{Ordering}
use Rattle.std.specs.Ordering.{match_ordering}
use Rattle.std.specs.Cmp.{IsTotalOrder, eq_by_cmp_equiv, Equal-is}
use Rattle.std.specs.List.{AllByRecursion}
use Rattle.std.specs.List.Sorted.{IsStrictlySortedBy}
use Rattle.std.specs.BTreeMap.{insert_entry, is_at}
use Rattle.std.specs.BTreeSet.{insert_key}
use Rattle.std.specs.Map.{keys_of, lookup, remove_entry}
use Rattle.std.proofs.lemmas.List.Sorted.{IsPermutation-refl}
use Rattle.std.proofs.lemmas.Map.{lookup-remove_entry}
use Rattle.std.proofs.lemmas.Map.Keys.{IsDistinct-from_sorted}
use Rattle.pv_value.specs.Lemmas.Ascending.{ascending_is, ascending_sorted}

-- ---- an entry goes

all-remove_entry : {K X : Type 0} (P : K → Type 0) (test : K → Bool) (es : List (K × X))
    → AllByRecursion P (keys_of es) → AllByRecursion P (keys_of (remove_entry test es))
all-remove_entry P test [] a = tt
all-remove_entry {K = K} {X = X} P test (e ∷ es) a = by (test e.0) (all-remove_entry P test es a.1)
  where
    by : (b : Bool) → AllByRecursion P (keys_of (remove_entry test es))
        → AllByRecursion P (keys_of (cond b es (e ∷ remove_entry test es)))
    by true h = a.1
    by false h = (a.0, h)

-- the keys still ascend
pub remove_entry_ascends : {K X : Type 0} (R : K → K → Ordering) (test : K → Bool) (es : List (K × X))
    → IsStrictlySortedBy R (keys_of es) → IsStrictlySortedBy R (keys_of (remove_entry test es))
unfolding IsStrictlySortedBy
remove_entry_ascends R test [] s = tt
remove_entry_ascends R test (e ∷ es) s = by (test e.0) (remove_entry_ascends R test es s.1)
  where
    by : (b : Bool) → IsStrictlySortedBy R (keys_of (remove_entry test es))
        → IsStrictlySortedBy R (keys_of (cond b es (e ∷ remove_entry test es)))
    by true h = s.1
    by false h = (all-remove_entry (λ k. R e.0 k ≡ Less) test es s.0, h)

-- ---- an entry comes

keys-insert_entry : {K X : Type 0} (R : K → K → Ordering) (k : K) (v : X) (es : List (K × X))
    → keys_of (insert_entry R es k v) ≡ insert_key R (keys_of es) k
keys-insert_entry R k v [] = refl
keys-insert_entry R k v (e ∷ es) = by (R k e.0) (keys-insert_entry R k v es)
  where
    by : (o : Ordering) → keys_of (insert_entry R es k v) ≡ insert_key R (keys_of es) k
        → keys_of (match_ordering o ((k, v) ∷ e ∷ es) ((e.0, v) ∷ es) (e ∷ insert_entry R es k v))
        ≡ match_ordering o (k ∷ keys_of (e ∷ es)) (keys_of (e ∷ es)) (e.0 ∷ insert_key R (keys_of es) k)
    by Less h = refl
    by Equal h = refl
    by Greater h = ap (λ t. e.0 ∷ t) h

turned : {K : Type 0} {R : K → K → Ordering} → IsTotalOrder R → (x y : K) → is_at (R x) y ≡ is_at (R y) x
turned total = (eq_by_cmp_equiv total).symm

module _ {K X : Type 0} {R : K → K → Ordering} (total : IsTotalOrder R) (same : (x y : K) → R x y ≡ Equal → x ≡ y) where
  -- the keys still ascend
  pub insert_entry_ascends : (k : K) (v : X) (es : List (K × X)) → IsStrictlySortedBy R (keys_of es)
      → IsStrictlySortedBy R (keys_of (insert_entry R es k v))
  insert_entry_ascends k v es s =
      let are : IsStrictlySortedBy R (insert_key R (keys_of es) k) =
      subst (λ ks. IsStrictlySortedBy R (insert_key R ks k))
      (ascending_is R total same (keys_of es) (keys_of es) (IsPermutation-refl (keys_of es)) s)
      (ascending_sorted R total same (k ∷ keys_of es)) in
      subst (IsStrictlySortedBy R) (sym (keys-insert_entry R k v es)) are

  -- two keys that compare otherwise aren't both this one
  swapped : (q j k : K) (v w : X) (rest : Option X) → R k j ≡ Greater
      → cond (is_at (R q) j) (Some w) (cond (is_at (R k) q) (Some v) rest)
      ≡ cond (is_at (R k) q) (Some v) (cond (is_at (R q) j) (Some w) rest)
  swapped q j k v w rest g = by (is_at (R q) j) (is_at (R k) q) refl refl
    where
      by : (a b : Bool) → is_at (R q) j ≡ a → is_at (R k) q ≡ b
          → cond a (Some w) (cond b (Some v) rest) ≡ cond b (Some v) (cond a (Some w) rest)
      by true true at_j at_k =
          let e : R k j ≡ Equal =
          total.congr k q j ((Equal-is (R k q)).0 at_k) ∙ (Equal-is (R q j)).0 at_j in
          absurd cc
      by true false at_j at_k = refl
      by false b at_j at_k = refl

  -- what is found at each key
  pub lookup-insert_entry : (q k : K) (v : X) (es : List (K × X))
      → lookup (is_at (R q)) (insert_entry R es k v) ≡ cond (is_at (R k) q) (Some v) (lookup (is_at (R q)) es)
  lookup-insert_entry q k v [] = ap (λ b. cond b (Some v) None) (turned total q k)
  lookup-insert_entry q k v (e ∷ es) = by (R k e.0) refl (lookup-insert_entry q k v es)
    where
      twice : (b : Bool) (v w : X) (rest : Option X)
          → cond b (Some v) rest ≡ cond b (Some v) (cond b (Some w) rest)
      twice true v w rest = refl
      twice false v w rest = refl

      by : (o : Ordering) → R k e.0 ≡ o
          → lookup (is_at (R q)) (insert_entry R es k v) ≡ cond (is_at (R k) q) (Some v) (lookup (is_at (R q)) es)
          → lookup (is_at (R q)) (match_ordering o ((k, v) ∷ e ∷ es) ((e.0, v) ∷ es) (e ∷ insert_entry R es k v))
          ≡ cond (is_at (R k) q) (Some v) (lookup (is_at (R q)) (e ∷ es))
      by Less o h = ap (λ b. cond b (Some v) (lookup (is_at (R q)) (e ∷ es))) (turned total q k)
      by Equal o h =
          twice (is_at (R q) e.0) v e.1 (lookup (is_at (R q)) es)
          ∙ ap (λ b. cond b (Some v) (lookup (is_at (R q)) (e ∷ es)))
          (ap (λ z. is_at (R q) z) (sym (same k e.0 o)) ∙ turned total q k)
      by Greater o h =
          ap (cond (is_at (R q) e.0) (Some e.1)) h ∙ swapped q e.0 k v e.1 (lookup (is_at (R q)) es) o

  -- and once one went
  pub lookup-without_entry : (q k : K) (es : List (K × X)) → IsStrictlySortedBy R (keys_of es)
      → lookup (is_at (R q)) (remove_entry (is_at (R k)) es) ≡ cond (is_at (R k) q) None (lookup (is_at (R q)) es)
  lookup-without_entry q k es s =
      lookup-remove_entry (eq_by_cmp_equiv total) (is_at (R k))
      (λ x y e. (eq_by_cmp_equiv total).congr k x y e) q es (IsDistinct-from_sorted R (keys_of es) s)
