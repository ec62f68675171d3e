-- What is among the elements of a list, and numbers among others.
use Rattle.std.proofs.Common.{◌≡◌, ℕ, ◌==◌, ◌||◌, Bool, true, false, List, [], ◌∷◌, map, refl, ap, ◌∙◌, arith}
use Rattle.std.specs.BTreeSet.{insert_key}
use Rattle.std.specs.List.{AllByRecursion, list_any}
use Rattle.std.specs.Ordering.{nat_cmp}
use Rattle.std.proofs.lemmas.Bool.Decides.{nat_tests}
use Rattle.pv_value.specs.Sets.{ascending_by}
use Rattle.rl_ports.specs.Ports.{has_number}

pub or_left : (a b : Bool) → a ≡ true → (a || b) ≡ true
or_left true b is = refl
or_left false b is = absurd cc

pub or_right : (a b : Bool) → b ≡ true → (a || b) ≡ true
or_right true b is = refl
or_right false b is = is

-- each test that the element passes finds one in the list
abbrev pub IsAmongAll : {X : Type 0} → List X → X → Type 0
IsAmongAll {X} xs x = (test : X → Bool) → test x ≡ true → list_any test xs ≡ true

-- what holds of each element, since it is among them
pub all_among : {X : Type 0} (P Q : X → Type 0) (xs : List X) → ((x : X) → IsAmongAll xs x → P x → Q x)
    → AllByRecursion P xs → AllByRecursion Q xs
all_among P Q [] f all = tt
all_among P Q (x ∷ xs) f all = (
  f x (λ test is. or_left (test x) (list_any test xs) is) all.0,
  all_among P Q xs (λ y among p. f y (λ test is. or_right (test x) (list_any test xs) (among test is)) p) all.1,
)

pub any_map : {X Y : Type 0} (test : Y → Bool) (f : X → Y) (xs : List X)
    → list_any test (map f xs) ≡ list_any (λ x. test (f x)) xs
any_map test f [] = refl
any_map test f (x ∷ xs) = ap (λ b. test (f x) || b) (any_map test f xs)

-- ---- numbers

has_inserted : (n m : ℕ) (ns : List ℕ) → has_number n (insert_key nat_cmp ns m) ≡ ((m == n) || has_number n ns)
has_inserted n m [] = refl
has_inserted n m (x ∷ xs) = grind (arith, nat_tests, has_inserted n m xs)

-- the same numbers are among them once they are in order
pub has_ascending : (n : ℕ) (ns : List ℕ) → has_number n (ascending_by nat_cmp ns) ≡ has_number n ns
has_ascending n [] = refl
has_ascending n (m ∷ ns) =
    has_inserted n m (ascending_by nat_cmp ns) ∙ ap (λ b. (m == n) || b) (has_ascending n ns)

pub same_number : (n : ℕ) → (n == n) ≡ true
same_number n = grind (arith, nat_tests)
