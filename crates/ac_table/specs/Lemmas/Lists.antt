-- Lists of which each element passes, and maps and sets of numbers that grow at the end.
use Rattle.std.proofs.Common.{◌≡◌, ℕ, ◌<◌, Bool, true, false, List, [], ◌∷◌, ◌++◌, refl, ap, arith, filter, Greater}
use Rattle.std.specs.BTreeMap.{is_at, insert_entry}
use Rattle.std.specs.BTreeSet.{insert_key}
use Rattle.std.specs.List.{AllByRecursion}
use Rattle.std.specs.Ordering.{nat_cmp}
use Rattle.std.specs.Set.{remove_key}

pub all_weaker : {X : Type 0} (P Q : X → Type 0) → ((x : X) → P x → Q x) → (xs : List X)
    → AllByRecursion P xs → AllByRecursion Q xs
all_weaker P Q f [] a = tt
all_weaker P Q f (x ∷ xs) a = (f x a.0, all_weaker P Q f xs a.1)

pub all_push : {X : Type 0} (P : X → Type 0) (xs : List X) (y : X) → AllByRecursion P xs → P y
    → AllByRecursion P (xs ++ y ∷ [])
all_push P [] y a p = (p, tt)
all_push P (x ∷ xs) y a p = (a.0, all_push P xs y a.1 p)

-- those that pass a test, where each that passes it is so
pub all_filter : {X : Type 0} (P Q : X → Type 0) (test : X → Bool) → ((x : X) → test x ≡ true → P x → Q x)
    → (xs : List X) → AllByRecursion P xs → AllByRecursion Q (filter test xs)
all_filter P Q test f [] a = tt
all_filter P Q test f (x ∷ xs) a = kept (test x) refl (all_filter P Q test f xs a.1)
  where
    kept : (b : Bool) → test x ≡ b → AllByRecursion Q (filter test xs) → AllByRecursion Q (filter test (x ∷ xs))
    kept true is rest = rw is (f x is a.0, rest)
    kept false is rest = rw is rest

pub cmp_above : (k x : ℕ) → x < k → nat_cmp k x ≡ Greater
cmp_above k x l = grind arith

pub insert_entry-above : {X : Type 0} (k : ℕ) (v : X) (es : List (ℕ × X)) → AllByRecursion (λ e. e.0 < k) es
    → insert_entry nat_cmp es k v ≡ es ++ (k, v) ∷ []
insert_entry-above k v [] a = refl
insert_entry-above k v (e ∷ es) a = rw (cmp_above k e.0 a.0) (ap (λ t. e ∷ t) (insert_entry-above k v es a.1))

pub insert_key-above : (k : ℕ) (ks : List ℕ) → AllByRecursion (λ h. h < k) ks → insert_key nat_cmp ks k ≡ ks ++ k ∷ []
insert_key-above k [] a = refl
insert_key-above k (x ∷ xs) a = rw (cmp_above k x a.0) (ap (λ t. x ∷ t) (insert_key-above k xs a.1))

pub remove_key-above : (k : ℕ) (ks : List ℕ) → AllByRecursion (λ h. h < k) ks
    → remove_key (is_at (nat_cmp k)) (ks ++ k ∷ []) ≡ ks
remove_key-above k [] a = grind arith
remove_key-above k (x ∷ xs) a = rw (cmp_above k x a.0) (ap (λ t. x ∷ t) (remove_key-above k xs a.1))
