-- The connections' numbers are small, in any list by these numbers.
use Rattle.std.proofs.Common.{◌≡◌, ℕ, ◌≤◌, ◌^◌, List, [], ◌∷◌, Some, Bool, true, false, cond, arith, refl, subst}
use Rattle.std.specs.List.{AllByRecursion}
use Rattle.std.specs.Map.{lookup, remove_entry}
use Rattle.std.specs.BTreeMap.{insert_entry, is_at}
use Rattle.std.specs.Ordering.{nat_cmp, match_ordering}
use Rattle.std.specs.declared.cmp.Ordering.{Ordering}
use Rattle.std.specs.declared.cmp.Ordering.TheVariants.{Less, Equal, Greater}

abbrev pub AreSmall : {X : Type 0} → List (ℕ × X) → Type 0
AreSmall es = AllByRecursion (λ e. e.0 ≤ 2 ^ 31) es

same_key : (k n : ℕ) → is_at (nat_cmp k) n ≡ true → n ≡ k
same_key k n h = grind arith

-- what holds of all entries holds of the one at a key
pub entry_at : {X : Type 0} (P : ℕ × X → Type 0) (k : ℕ) (es : List (ℕ × X)) (x : X) → AllByRecursion P es
    → lookup (is_at (nat_cmp k)) es ≡ Some x → P (k, x)
entry_at P k [] x all is = absurd cc
entry_at {X = X} P k (e ∷ es) x all is = by (is_at (nat_cmp k) e.0) refl (entry_at P k es x all.1) is
  where
    by : (b : Bool) → is_at (nat_cmp k) e.0 ≡ b → (lookup (is_at (nat_cmp k)) es ≡ Some x → P (k, x))
        → cond b (Some e.1) (lookup (is_at (nat_cmp k)) es) ≡ Some x → P (k, x)
    by true s later h =
        let value : e.1 ≡ x = cc in
        subst (λ (y : X). P (k, y)) value (subst (λ (n : ℕ). P (n, e.1)) (same_key k e.0 s) all.0)
    by false s later h = later h

pub small_at : {X : Type 0} (k : ℕ) (es : List (ℕ × X)) (x : X) → AreSmall es → lookup
    (is_at (nat_cmp k)) es ≡ Some x → k ≤ 2 ^ 31
small_at k es x all is = entry_at (λ e. e.0 ≤ 2 ^ 31) k es x all is

pub small_with : {X : Type 0} (k : ℕ) (x : X) (es : List (ℕ × X)) → k ≤ 2 ^ 31 → AreSmall es → AreSmall
    (insert_entry nat_cmp es k x)
small_with k x [] small all = (small, tt)
small_with k x (e ∷ es) small all = by (nat_cmp k e.0) (small_with k x es small all.1)
  where
    by : (o : Ordering) → AreSmall (insert_entry nat_cmp es k x)
        → AreSmall (match_ordering o ((k, x) ∷ e ∷ es) ((e.0, x) ∷ es) (e ∷ insert_entry nat_cmp es k x))
    by Less later = (small, all)
    by Equal later = (all.0, all.1)
    by Greater later = (all.0, later)

pub small_without : {X : Type 0} (test : ℕ → Bool) (es : List (ℕ × X)) → AreSmall es → AreSmall (remove_entry test es)
small_without test [] all = tt
small_without test (e ∷ es) all = by (test e.0) (small_without test es all.1)
  where
    by : (b : Bool) → AreSmall (remove_entry test es) → AreSmall (cond b es (e ∷ remove_entry test es))
    by true later = all.1
    by false later = (all.0, later)
