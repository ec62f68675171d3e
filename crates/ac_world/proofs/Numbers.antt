-- The actors' numbers: a turn leaves them, an actor that joins adds its own, and one that ends takes its own away.
use Rattle.std.proofs.Common.{◌≡◌, ℕ, zero, suc, ◌+◌, ◌<◌, ◌≤◌, Bool, true, false, not, ◌==◌, nat_lt, List, [], ◌∷◌}
use Rattle.std.proofs.Common.{refl, ap, sym, subst, arith, ◌∙◌, ◌++◌, filter, length, length-append, Option, Some, None}
use Rattle.std.proofs.Common.{is_some, if◌then◌else◌, add-one}
use Rattle.std.proofs.lemmas.Bool.Decides.{nat_tests}
use Rattle.std.specs.List.{AllByRecursion}
use Rattle.ac_table.specs.declared.batches.Event.{Event}
use Rattle.ac_table.specs.Tables.{Actor, TableState, find_actor, is_live, placed, joined, ended, popped}
use Rattle.ac_table.specs.Faults.{actor_fault}
use Rattle.ac_table.specs.declared.TableFault.{TableFault}
use Rattle.ac_table.specs.declared.TableFault.TheVariants.{NoActor}
use Rattle.ac_world.specs.declared.acts.Act.{Act}
use Rattle.ac_world.specs.Outboxes.{Outbox, Plan, plan_over, committed, posted, all_acted}
use Rattle.ac_world.specs.Limits.{most_watchers}
use Rattle.ac_world.specs.Watchers.{Watched, next_watcher}
use Rattle.ac_world.specs.Worlds.{IsNumbered, IsWorld, Resident, first_actors}
use Rattle.ac_world.specs.Behaviours.{Behaviour}
use Rattle.ac_world.specs.Turns.{Turning, all_turned}
use Rattle.ac_world.proofs.Lives.{numbers, numbers-committed, numbers-popped, numbers-posted}
use Rattle.ac_world.proofs.Lives.{world_from_numbers, live-popped}
use Rattle.ac_world.proofs.Sparing.{IsSpared, all_acted_spared, all_turned_spared}

-- ---- a turn leaves the numbers

pub numbers_spared : (a : ℕ) → IsSpared numbers a
numbers_spared a = record {
  rows = record { row_more = λ facet target entity v t. refl; row_less = λ h t. refl };
  facet_more = λ n t. refl;
  facet_less = λ n t. refl;
}

pub numbers-all_acted : (a : ℕ) (xs : List Act) (p : Plan) → numbers (all_acted a xs p).table ≡ numbers p.table
numbers-all_acted a xs p = all_acted_spared numbers a (numbers_spared a).rows xs p

pub numbers-all_turned : (y : Behaviour) (a from : ℕ) (es : List Event) (t : Turning)
    → numbers (all_turned y a from es t).plan.table ≡ numbers t.plan.table
numbers-all_turned y a from es t = all_turned_spared numbers a (numbers_spared a) y from es t

-- ---- an actor that joins, and one that ends

all_placed : (P : Actor → Type 0) (new : Actor) (xs : List Actor) → P new → AllByRecursion P xs
    → AllByRecursion P (placed new xs)
all_placed P new [] p all = (p, tt)
all_placed P new (x ∷ xs) p all = split (nat_lt new.number x.number) refl (all_placed P new xs p all.1)
  where
    split : (b : Bool) → nat_lt new.number x.number ≡ b → AllByRecursion P (placed new xs)
        → AllByRecursion P (placed new (x ∷ xs))
    split true is rest = rw is (p, all)
    split false is rest = rw is (all.0, rest)

all_weaker : (P Q : Actor → Type 0) → ((x : Actor) → P x → Q x) → (xs : List Actor) → AllByRecursion P xs
    → AllByRecursion Q xs
all_weaker P Q f [] all = tt
all_weaker P Q f (x ∷ xs) all = (f x all.0, all_weaker P Q f xs all.1)

all_filter : (P : Actor → Type 0) (test : Actor → Bool) (xs : List Actor) → AllByRecursion P xs
    → AllByRecursion P (filter test xs)
all_filter P test [] all = tt
all_filter P test (x ∷ xs) all = split (test x) refl (all_filter P test xs all.1)
  where
    split : (b : Bool) → test x ≡ b → AllByRecursion P (filter test xs) → AllByRecursion P (filter test (x ∷ xs))
    split true is rest = rw is (all.0, rest)
    split false is rest = rw is rest

-- a number above all others is nobody's
none_above : (n a : ℕ) (xs : List Actor) → AllByRecursion (λ x. x.number ≤ n) xs → n < a
    → is_some (find_actor a xs) ≡ false
none_above n a [] all l = refl
none_above n a (x ∷ xs) all l = grind (arith, all.0, none_above n a xs all.1 l)

pub next_is_new : (n : ℕ) (ws : List Watched) (t : TableState) → IsWorld n ws t → is_live (16 + (n + 1)) t ≡ false
next_is_new n ws t all =
    none_above (16 + n) (16 + (n + 1)) t.actors
    (all_weaker (λ x. IsNumbered n ws x.number) (λ x. x.number ≤ 16 + n) (λ x k. k.0) t.actors all) (omega arith)

pub world_joined : (n : ℕ) (ws : List Watched) (t : TableState) → IsWorld n ws t
    → IsWorld (n + 1) ws (joined (16 + (n + 1)) t)
world_joined n ws t all =
    all_placed (λ x. IsNumbered (n + 1) ws x.number) (record { number = 16 + (n + 1); inbox = [] }) t.actors
    (omega arith, λ low. absurd (omega (arith, low)))
    (all_weaker (λ x. IsNumbered n ws x.number) (λ x. IsNumbered (n + 1) ws x.number)
    (λ x k. (omega (arith, k.0), k.1)) t.actors all)

pub world_ended : (a n : ℕ) (ws : List Watched) (t : TableState) → IsWorld n ws t → IsWorld n ws (ended a t)
world_ended a n ws t all = all_filter (λ x. IsNumbered n ws x.number) (λ x. not (x.number == a)) t.actors all

-- one that is live has a number of its kind
among : (P : ℕ → Type 0) (a : ℕ) (xs : List Actor) → AllByRecursion (λ x. P x.number) xs
    → is_some (find_actor a xs) ≡ true → P a
among P a [] all live = absurd cc
among P a (x ∷ xs) all live = by (x.number == a) refl (λ l. among P a xs all.1 l)
  where
    by : (b : Bool) → (x.number == a) ≡ b → (is_some (find_actor a xs) ≡ true → P a) → P a
    by true is rest =
        let same : x.number ≡ a = grind (arith, nat_tests, is) in
        subst P same all.0
    by false is rest = rest (sym (ap (λ b. is_some (if b then Some x else find_actor a xs)) is) ∙ live)

pub live_numbered : (a n : ℕ) (ws : List Watched) (t : TableState) → IsWorld n ws t → is_live a t ≡ true
    → IsNumbered n ws a
live_numbered a n ws t all live = among (IsNumbered n ws) a t.actors all live

-- ---- the first actors

abbrev pub AreBelow : ℕ → TableState → Type 0
AreBelow n t = AllByRecursion (λ x. x.number < n) t.actors

pub first_below : (n : ℕ) → AreBelow n (first_actors n)
first_below zero = tt
first_below (suc n) =
    all_placed (λ x. x.number < suc n) (record { number = n; inbox = [] }) (first_actors n).actors (omega arith)
    (all_weaker _ _ (λ x l. omega (arith, l)) (first_actors n).actors (first_below n))

none_at : (n : ℕ) (xs : List Actor) → AllByRecursion (λ x. x.number < n) xs → is_some (find_actor n xs) ≡ false
none_at n [] all = refl
none_at n (x ∷ xs) all = grind (arith, all.0, none_at n xs all.1)

-- the next of them is new
pub first_is_new : (n : ℕ) (t : TableState) → t ≡ first_actors n → is_live n t ≡ false
first_is_new n t is = rw is (none_at n (first_actors n).actors (first_below n))

pub first_joined : (n : ℕ) (s t : TableState) → t ≡ first_actors n → s ≡ joined n t → s ≡ first_actors (n + 1)
first_joined n s t is one = rw (add-one) (one ∙ ap (joined n) is)

pub first_world : (n : ℕ) (t : TableState) → n ≤ 9 → t ≡ first_actors n → IsWorld 0 [] t
first_world n t l is =
    rw is (all_weaker (λ x. x.number < n) (λ x. IsNumbered 0 [] x.number)
    (λ x k. (omega (arith, k, l), λ low. omega (arith, k, l))) (first_actors n).actors (first_below n))

-- ---- a watcher that joins, before the first connection

placed_is_live : (a : ℕ) (xs : List Actor)
    → is_some (find_actor a (placed (record { number = a; inbox = [] }) xs)) ≡ true
placed_is_live a [] = grind (arith, nat_tests)
placed_is_live a (x ∷ xs) = grind (arith, nat_tests, placed_is_live a xs)

pub joined_live : (a : ℕ) (s t : TableState) → s ≡ joined a t → is_live a s ≡ true
joined_live a s t is = rw is (placed_is_live a t.actors)

pub watcher_is_new : (ws : List Watched) (t : TableState) → IsWorld 0 ws t → is_live (next_watcher ws) t ≡ false
watcher_is_new ws t all =
    none_at (next_watcher ws) t.actors
    (all_weaker (λ x. IsNumbered 0 ws x.number) (λ x. x.number < next_watcher ws)
    (λ x k. k.1 (omega (arith, k.0))) t.actors all)

pub world_watched : (ws : List Watched) (w : Watched) (t : TableState) → length ws < most_watchers → IsWorld 0 ws t
    → IsWorld 0 (ws ++ w ∷ []) (joined (next_watcher ws) t)
world_watched ws w t few all =
    let more : List Watched = ws ++ w ∷ [] in
    let longer : length more ≡ length ws + 1 = length-append ws (w ∷ []) in
    all_placed (λ x. IsNumbered 0 more x.number) (record { number = next_watcher ws; inbox = [] }) t.actors
    (omega (arith, few), λ low. omega (arith, longer))
    (all_weaker (λ x. IsNumbered 0 ws x.number) (λ x. IsNumbered 0 more x.number)
    (λ x k. (k.0, λ low. omega (arith, k.1 low, longer))) t.actors all)

-- ---- a turn leaves a world

pub world_sent : (a n : ℕ) (ws : List Watched) (p : Plan) (s t : TableState) → s ≡ committed a p
    → numbers p.table ≡ numbers t → IsWorld n ws t → IsWorld n ws s
world_sent a n ws p s t is same all =
    world_from_numbers n ws s t (ap numbers is ∙ numbers-committed a p ∙ same) all

pub world_turned : (y : Behaviour) (a from n : ℕ) (ws : List Watched) (es : List Event) (r : Resident) (t : Turning)
    (s u : TableState) → t ≡ all_turned y a from es (record { resident = r; plan = plan_over u; spreads = [] })
    → s ≡ committed a t.plan → IsWorld n ws u → IsWorld n ws s
world_turned y a from n ws es r t s u turned is all =
    let start : Turning = record { resident = r; plan = plan_over u; spreads = [] } in
    world_sent a n ws t.plan s u is
    (ap (λ (x : Turning). numbers x.plan.table) turned ∙ numbers-all_turned y a from es start) all

-- ---- an actor's turn begins

no_fault_live : (b : Bool) → ◌≡◌ {A = Option TableFault} (if b then None else Some NoActor) None → b ≡ true
no_fault_live true is = refl
no_fault_live false is = absurd cc

pub faultless_live : (a : ℕ) (t : TableState) → actor_fault a t ≡ None → is_live a t ≡ true
faultless_live a t fault = no_fault_live (is_live a t) fault

pub popped_live : (a : ℕ) (s t : TableState) → actor_fault a t ≡ None → s ≡ popped a t → is_live a s ≡ true
popped_live a s t fault is = rw is (live-popped a a t ∙ no_fault_live (is_live a t) fault)

pub world_popped : (a n : ℕ) (ws : List Watched) (s t : TableState) → s ≡ popped a t → IsWorld n ws t → IsWorld n ws s
world_popped a n ws s t is all = world_from_numbers n ws s t (ap numbers is ∙ numbers-popped a t) all

-- ---- an actor ends

pub world_gone : (a from n : ℕ) (ws : List Watched) (out : Outbox) (s t u : TableState) → s ≡ ended a u
    → t ≡ posted from out s → IsWorld n ws u → IsWorld n ws t
world_gone a from n ws out s t u is told all =
    let less : IsWorld n ws s = rw is (world_ended a n ws u all) in
    world_from_numbers n ws t s (ap numbers told ∙ numbers-posted from out s) less
