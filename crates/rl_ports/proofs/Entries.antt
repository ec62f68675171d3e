-- Entries by ascending number: one more behind all others, one that goes, and what some of their parts are then.
use Rattle.std.proofs.Common.{◌≡◌, ℕ, ◌<◌, ◌≤◌, List, [], ◌∷◌, ◌++◌, Bool, true, false, cond, filter}
use Rattle.std.proofs.Common.{Some, Less, length, refl, ap, ◌∙◌, arith}
use Rattle.std.specs.Prelude.{option_map}
use Rattle.std.specs.BTreeMap.{insert_entry}
use Rattle.std.specs.List.{AllByRecursion}
use Rattle.std.specs.List.Sorted.{IsStrictlySortedBy}
use Rattle.std.specs.Map.{lookup, remove_entry, keys_of, values_of}
use Rattle.std.specs.Ordering.{nat_cmp}
use Rattle.std.proofs.lemmas.Bool.Decides.{nat_tests}
use Rattle.std.proofs.lemmas.List.{length-map}
use Rattle.std.proofs.lemmas.Map.Keys.{sorted_head, sorted_tail}
use Rattle.pv_value.specs.Plain.{Plain}
use Rattle.rl_ports.specs.Kept.{Export, shown}

-- ---- lists

pub all_append : {X : Type 0} (P : X → Type 0) (xs ys : List X) → AllByRecursion P xs → AllByRecursion P ys
    → AllByRecursion P (xs ++ ys)
all_append P [] ys a b = b
all_append P (x ∷ xs) ys a b = (a.0, all_append P xs ys a.1 b)

pub all_filter : {X : Type 0} (P : X → Type 0) (test : X → Bool) (xs : List X) → AllByRecursion P xs
    → AllByRecursion P (filter test xs)
all_filter P test [] all = tt
all_filter {X = X} P test (x ∷ xs) all = by (test x) (all_filter P test xs all.1)
  where
    by : (b : Bool) → AllByRecursion P (filter test xs)
        → AllByRecursion P (cond b (x ∷ filter test xs) (filter test xs))
    by true rest = (all.0, rest)
    by false rest = rest

pub all_from : {X : Type 0} (P Q : X → Type 0) → ((x : X) → P x → Q x) → (xs : List X) → AllByRecursion P xs
    → AllByRecursion Q xs
all_from P Q one [] all = tt
all_from P Q one (x ∷ xs) all = (one x all.0, all_from P Q one xs all.1)

pub all_both : {X : Type 0} (P Q : X → Type 0) (xs : List X) → AllByRecursion P xs → AllByRecursion Q xs
    → AllByRecursion (λ x. P x × Q x) xs
all_both P Q [] a b = tt
all_both P Q (x ∷ xs) a b = ((a.0, b.0), all_both P Q xs a.1 b.1)

pub filter_same : {X : Type 0} (f g : X → Bool) (xs : List X) → AllByRecursion (λ x. f x ≡ g x) xs
    → filter f xs ≡ filter g xs
filter_same f g [] same = refl
filter_same f g (x ∷ xs) same = λ i. cond (same.0 i) (x ∷ filter_same f g xs same.1 i) (filter_same f g xs same.1 i)

pub filter_all : {X : Type 0} (f : X → Bool) (xs : List X) → AllByRecursion (λ x. f x ≡ true) xs → filter f xs ≡ xs
filter_all f [] all = refl
filter_all f (x ∷ xs) all =
    (λ i. cond (all.0 i) (x ∷ filter f xs) (filter f xs)) ∙ ap (λ ys. x ∷ ys) (filter_all f xs all.1)

-- ---- entries that go, or are shown

pub all_removed : {X : Type 0} (P : ℕ × X → Type 0) (test : ℕ → Bool) (es : List (ℕ × X)) → AllByRecursion P es
    → AllByRecursion P (remove_entry test es)
all_removed P test [] all = tt
all_removed {X = X} P test (e ∷ es) all = by (test e.0) (all_removed P test es all.1)
  where
    by : (b : Bool) → AllByRecursion P (remove_entry test es) → AllByRecursion P (cond b es (e ∷ remove_entry test es))
    by true rest = all.1
    by false rest = (all.0, rest)

pub keys_shown : (kept : List (ℕ × Export)) → keys_of (shown kept) ≡ keys_of kept
keys_shown [] = refl
keys_shown (e ∷ es) = ap (λ t. e.0 ∷ t) (keys_shown es)

pub shown_removed : (test : ℕ → Bool) (kept : List (ℕ × Export))
    → shown (remove_entry test kept) ≡ remove_entry test (shown kept)
shown_removed test [] = refl
shown_removed test (e ∷ es) = by (test e.0) (shown_removed test es)
  where
    by : (b : Bool) → shown (remove_entry test es) ≡ remove_entry test (shown es)
        → shown (cond b es (e ∷ remove_entry test es))
        ≡ cond b (shown es) ((e.0, e.1.reference) ∷ remove_entry test (shown es))
    by true rest = refl
    by false rest = ap (λ t. (e.0, e.1.reference) ∷ t) rest

abbrev pub referred : Export → Plain
referred e = e.reference

pub found_shown : (test : ℕ → Bool) (kept : List (ℕ × Export))
    → lookup test (shown kept) ≡ option_map referred (lookup test kept)
found_shown test [] = refl
found_shown test (e ∷ es) = by (test e.0) (found_shown test es)
  where
    by : (b : Bool) → lookup test (shown es) ≡ option_map referred (lookup test es)
        → cond b (Some e.1.reference) (lookup test (shown es)) ≡ option_map referred (cond b (Some e.1) (lookup test es))
    by true rest = refl
    by false rest = rest

-- ---- one more

-- a number above all others goes behind them
pub put_last : {X : Type 0} (n : ℕ) (x : X) (es : List (ℕ × X)) → AllByRecursion (λ k. k < n) (keys_of es)
    → insert_entry nat_cmp es n x ≡ es ++ (n, x) ∷ []
put_last n x [] below = refl
put_last n x (e ∷ es) below = grind (arith, nat_tests, below.0, put_last n x es below.1)

pub ascend_none : IsStrictlySortedBy nat_cmp []
unfolding IsStrictlySortedBy
ascend_none = tt

pub ascend_cons : (k : ℕ) (ks : List ℕ) → AllByRecursion (λ j. nat_cmp k j ≡ Less) ks → IsStrictlySortedBy nat_cmp ks
    → IsStrictlySortedBy nat_cmp (k ∷ ks)
unfolding IsStrictlySortedBy
ascend_cons k ks a s = (a, s)

pub ascend_last : (ks : List ℕ) (k : ℕ) → AllByRecursion (λ j. j < k) ks → IsStrictlySortedBy nat_cmp ks
    → IsStrictlySortedBy nat_cmp (ks ++ k ∷ [])
ascend_last [] k below s = ascend_cons k [] tt ascend_none
ascend_last (j ∷ ks) k below s =
    let last : nat_cmp j k ≡ Less = grind (arith, nat_tests, below.0) in
    ascend_cons j (ks ++ k ∷ []) (all_append _ ks (k ∷ []) (sorted_head nat_cmp _ _ s) (last, tt))
    (ascend_last ks k below.1 (sorted_tail nat_cmp _ _ s))

pub below_more : (m n : ℕ) (ks : List ℕ) → m ≤ n → AllByRecursion (λ k. k < m) ks → AllByRecursion (λ k. k < n) ks
below_more m n ks l below = all_from (λ k. k < m) (λ k. k < n) (λ k is. omega (arith, l, is)) ks below

pub all_map_back : {X : Type 0} (P : ℕ → Type 0) (es : List (ℕ × X)) → AllByRecursion P (keys_of es)
    → AllByRecursion (λ e. P e.0) es
all_map_back P [] all = tt
all_map_back P (e ∷ es) all = (all.0, all_map_back P es all.1)

pub all_map_on : {X : Type 0} (P : ℕ → Type 0) (es : List (ℕ × X)) → AllByRecursion (λ e. P e.0) es
    → AllByRecursion P (keys_of es)
all_map_on P [] all = tt
all_map_on P (e ∷ es) all = (all.0, all_map_on P es all.1)

pub keys_append : {X : Type 0} (xs ys : List (ℕ × X)) → keys_of (xs ++ ys) ≡ keys_of xs ++ keys_of ys
keys_append [] ys = refl
keys_append (x ∷ xs) ys = ap (λ t. x.0 ∷ t) (keys_append xs ys)

pub values_append : {X : Type 0} (xs ys : List (ℕ × X)) → values_of (xs ++ ys) ≡ values_of xs ++ values_of ys
values_append [] ys = refl
values_append (x ∷ xs) ys = ap (λ t. x.1 ∷ t) (values_append xs ys)

pub shown_append : (xs ys : List (ℕ × Export)) → shown (xs ++ ys) ≡ shown xs ++ shown ys
shown_append [] ys = refl
shown_append (x ∷ xs) ys = ap (λ t. (x.0, x.1.reference) ∷ t) (shown_append xs ys)

pub length_shown : (kept : List (ℕ × Export)) → length (shown kept) ≡ length kept
length_shown kept = length-map kept (λ (e : ℕ × Export). (e.0, e.1.reference))

pub length_values : {X : Type 0} (es : List (ℕ × X)) → length (values_of es) ≡ length es
length_values {X = X} es = length-map es (λ (e : ℕ × X). e.1)
