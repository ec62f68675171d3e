-- An actor joins whose number nobody has.
use Rattle.std.proofs.Common.{◌≡◌, ◌≢◌, ℕ, ◌<◌, List, [], ◌∷◌, Bool, true, false, Some, Less, map}
use Rattle.std.proofs.Common.{is_some, nat_lt, refl, ap, ◌∙◌, subst, arith}
use Rattle.std.specs.List.{AllByRecursion}
use Rattle.std.specs.List.Sorted.{IsStrictlySortedBy}
use Rattle.std.specs.Ordering.{nat_cmp}
use Rattle.std.proofs.lemmas.Bool.Decides.{nat_tests}
use Rattle.std.proofs.lemmas.Map.Keys.{sorted_head, sorted_tail}
use Rattle.ac_table.specs.Tables.{TableState, Actor, IsTable, find_actor, is_live, placed, joined}
use Rattle.ac_table.specs.Lemmas.Lists.{all_weaker}
use Rattle.ac_world.specs.Lemmas.Entries.{above_lower, ascend_cons, ascend_none}

-- a number above all others is nobody's
pub above_is_new : (a : ℕ) (t : TableState) → ((b : ℕ) → is_live b t ≡ true → b < a) → is_live a t ≡ false
above_is_new a t below = split (is_live a t) refl
  where
    split : (b : Bool) → is_live a t ≡ b → is_live a t ≡ false
    split true is = absurd (let above : a < a = below a is in omega arith)
    split false is = is

none_at : (a : ℕ) (xs : List Actor) → AllByRecursion (λ x. x.number < a) xs → is_some (find_actor a xs) ≡ false
none_at a [] below = refl
none_at a (x ∷ xs) below = grind (arith, nat_tests, below.0, none_at a xs below.1)

-- ---- who is found

found-placed : (new : Actor) (xs : List Actor) → is_some (find_actor new.number xs) ≡ false
    → find_actor new.number (placed new xs) ≡ Some new
found-placed new [] none = grind (arith, nat_tests)
found-placed new (x ∷ xs) none = grind (arith, nat_tests, found-placed new xs)

found-placed_other : (b : ℕ) (new : Actor) (xs : List Actor) → b ≢ new.number
    → find_actor b (placed new xs) ≡ find_actor b xs
found-placed_other b new [] apart = grind (arith, nat_tests)
found-placed_other b new (x ∷ xs) apart = grind (arith, nat_tests, found-placed_other b new xs apart)

-- the new one is found, with an empty inbox
pub joined_new : (a : ℕ) (t : TableState) → is_live a t ≡ false
    → find_actor a (joined a t).actors ≡ Some (record { number = a; inbox = [] })
joined_new a t none = found-placed (record { number = a; inbox = [] }) t.actors none

pub joined_other : (a b : ℕ) (t : TableState) → b ≢ a → find_actor b (joined a t).actors ≡ find_actor b t.actors
joined_other a b t apart = found-placed_other b (record { number = a; inbox = [] }) t.actors apart

pub joined_live : (a : ℕ) (t : TableState) → is_live a t ≡ false → is_live a (joined a t) ≡ true
joined_live a t none = ap is_some (joined_new a t none)

pub joined_live_other : (a b : ℕ) (t : TableState) → b ≢ a → is_live b (joined a t) ≡ is_live b t
joined_live_other a b t apart = ap is_some (joined_other a b t apart)

-- who was live stays so
pub joined_still : (a b : ℕ) (t : TableState) → is_live a t ≡ false → is_live b t ≡ true → is_live b (joined a t) ≡ true
joined_still a b t none live =
    let apart : b ≢ a = λ same.
    let clash : is_live a t ≡ true = subst (λ (k : ℕ). is_live k t ≡ true) same live in cc in
    joined_live_other a b t apart ∙ live

-- ---- the table stays one

all_placed : (P : ℕ → Type 0) (new : Actor) (xs : List Actor) → P new.number
    → AllByRecursion P (map (λ x. x.number) xs) → AllByRecursion P (map (λ x. x.number) (placed new xs))
all_placed P new [] p all = (p, tt)
all_placed P new (x ∷ xs) p all = split (nat_lt new.number x.number) refl (all_placed P new xs p all.1)
  where
    split : (b : Bool) → nat_lt new.number x.number ≡ b → AllByRecursion P (map (λ x. x.number) (placed new xs))
        → AllByRecursion P (map (λ x. x.number) (placed new (x ∷ xs)))
    split true is rest = rw is (p, all)
    split false is rest = rw is (all.0, rest)

placed_ascend : (new : Actor) (xs : List Actor) → is_some (find_actor new.number xs) ≡ false
    → IsStrictlySortedBy nat_cmp (map (λ x. x.number) xs)
    → IsStrictlySortedBy nat_cmp (map (λ x. x.number) (placed new xs))
placed_ascend new [] none s = ascend_cons new.number [] tt ascend_none
placed_ascend new (x ∷ xs) none s =
    split (nat_lt new.number x.number) refl
    (placed_ascend new xs (grind (arith, nat_tests)) (sorted_tail nat_cmp _ _ s))
  where
    split : (b : Bool) → nat_lt new.number x.number ≡ b
        → IsStrictlySortedBy nat_cmp (map (λ x. x.number) (placed new xs))
        → IsStrictlySortedBy nat_cmp (map (λ x. x.number) (placed new (x ∷ xs)))
    split true is rest =
        let lower : new.number < x.number = grind (arith, nat_tests, is) in
        let first : nat_cmp new.number x.number ≡ Less = grind (arith, nat_tests, is) in
        rw is (ascend_cons new.number _ (first, above_lower new.number x.number _ lower (sorted_head nat_cmp _ _ s)) s)
    split false is rest =
        let lower : nat_cmp x.number new.number ≡ Less = grind (arith, nat_tests, is, none) in
        rw is (ascend_cons x.number _ (all_placed _ new xs lower (sorted_head nat_cmp _ _ s)) rest)

pub joined_is_table : (a : ℕ) (t : TableState) → is_live a t ≡ false → IsTable t → IsTable (joined a t)
joined_is_table a t none k = record {
  rows_ascend = k.rows_ascend;
  rows_below_next = k.rows_below_next;
  actors_ascend = placed_ascend (record { number = a; inbox = [] }) t.actors none k.actors_ascend;
  owners_live = all_weaker _ _ (λ r live. joined_still a r.owner t none live) t.rows k.owners_live;
}

-- one that is above all others
pub joined_table : (a : ℕ) (t : TableState) → IsTable t → AllByRecursion (λ x. x.number < a) t.actors
    → IsTable (joined a t) × (find_actor a (joined a t).actors ≡ Some (record { number = a; inbox = [] }))
    × ((b : ℕ) → b ≢ a → find_actor b (joined a t).actors ≡ find_actor b t.actors)
joined_table a t k below =
    let none : is_live a t ≡ false = none_at a t.actors below in
    (joined_is_table a t none k, joined_new a t none, λ b apart. joined_other a b t apart)
