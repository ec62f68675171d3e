-- Who is live after inboxes change, after actors come and after they go; rows and the next handle stay.
use Rattle.std.proofs.Common.{◌≡◌, ◌≢◌, ℕ, List, [], ◌∷◌, ◌==◌, Bool, true, false, cond, not, ◌++◌}
use Rattle.std.proofs.Common.{refl, ◌∙◌, arith, is_some, filter}
use Rattle.std.proofs.lemmas.Bool.Decides.{nat_tests}
use Rattle.ac_table.specs.declared.batches.Batch.{Batch}
use Rattle.ac_table.specs.Tables.{Actor, TableState, find_actor, is_live, with_inbox, pushed, placed, ended}
use Rattle.ac_table.specs.Tables.{rows_of}
use Rattle.ac_world.specs.Outboxes.{Outbox, Plan, posted, committed, retractions}
use Rattle.ac_world.specs.Worlds.{WorldState, gone, ended_of}

-- ---- inboxes

pub live_with_inbox : (b a : ℕ) (f : List Batch → List Batch) (xs : List Actor)
    → is_some (find_actor b (with_inbox a f xs)) ≡ is_some (find_actor b xs)
live_with_inbox b a f [] = refl
live_with_inbox b a f (x ∷ xs) = grind (arith, live_with_inbox b a f xs)

pub live_posted : (b from : ℕ) (out : Outbox) (t : TableState) → is_live b (posted from out t) ≡ is_live b t
live_posted b from [] t = refl
live_posted b from (o ∷ os) t =
    live_posted b from os (pushed o.0 (record { from = from; events = o.1 }) t)
    ∙ live_with_inbox b o.0 (λ bs. bs ++ record { from = from; events = o.1 } ∷ []) t.actors

pub live_committed : (b from : ℕ) (p : Plan) → is_live b (committed from p) ≡ is_live b p.table
live_committed b from p = live_posted b from p.out p.table

pub rows_posted : (from : ℕ) (out : Outbox) (t : TableState) → (posted from out t).rows ≡ t.rows
rows_posted from [] t = refl
rows_posted from (o ∷ os) t = rows_posted from os (pushed o.0 (record { from = from; events = o.1 }) t)

pub next_posted : (from : ℕ) (out : Outbox) (t : TableState) → (posted from out t).next ≡ t.next
next_posted from [] t = refl
next_posted from (o ∷ os) t = next_posted from os (pushed o.0 (record { from = from; events = o.1 }) t)

-- ---- those who come and those who go

pub live_placed : (b : ℕ) (new : Actor) (xs : List Actor) → b ≢ new.number
    → is_some (find_actor b (placed new xs)) ≡ is_some (find_actor b xs)
live_placed b new [] ne = grind (arith, nat_tests, ne)
live_placed b new (x ∷ xs) ne = grind (arith, nat_tests, ne, live_placed b new xs ne)

-- who is live stays so as another comes
pub stays_placed : (b : ℕ) (new : Actor) (xs : List Actor) → is_some (find_actor b xs) ≡ true
    → is_some (find_actor b (placed new xs)) ≡ true
stays_placed b new [] live = absurd cc
stays_placed b new (x ∷ xs) live = grind (arith, nat_tests, live, stays_placed b new xs)

live_others : (b a : ℕ) (xs : List Actor)
    → is_some (find_actor b (filter (λ x. not (x.number == a)) xs)) ≡ cond (b == a) false (is_some (find_actor b xs))
live_others b a [] = grind arith
live_others b a (x ∷ xs) = grind (arith, nat_tests, live_others b a xs)

pub live_gone : (b a : ℕ) (w : WorldState) → is_live b (gone a w).table ≡ cond (b == a) false (is_live b w.table)
live_gone b a w =
    live_posted b a (retractions (rows_of a w.table.rows) []) (ended a w.table) ∙ live_others b a w.table.actors

-- who isn't live doesn't go
pub live_ended : (b a : ℕ) (w : WorldState) → is_live b (ended_of a w).table ≡ cond (b == a) false (is_live b w.table)
live_ended b a w = by (is_live a w.table) refl
  where
    dead : (c : Bool) → (b == a) ≡ c → is_live a w.table ≡ false → is_live b w.table ≡ cond c false (is_live b w.table)
    dead true same is = let one : b ≡ a = grind (arith, nat_tests, same) in rw one is
    dead false other is = refl

    by : (c : Bool) → is_live a w.table ≡ c
        → is_live b (cond c (gone a w) w).table ≡ cond (b == a) false (is_live b w.table)
    by true is = live_gone b a w
    by false is = dead (b == a) refl is

-- ---- what an ending leaves

pub next_ended : (a : ℕ) (w : WorldState) → (ended_of a w).table.next ≡ w.table.next
next_ended a w = by (is_live a w.table)
  where
    by : (c : Bool) → (cond c (gone a w) w).table.next ≡ w.table.next
    by true = next_posted a (retractions (rows_of a w.table.rows) []) (ended a w.table)
    by false = refl

pub opened_ended : (a : ℕ) (w : WorldState) → (ended_of a w).opened ≡ w.opened
opened_ended a w = by (is_live a w.table)
  where
    by : (c : Bool) → (cond c (gone a w) w).opened ≡ w.opened
    by true = refl
    by false = refl

pub watches_ended : (a : ℕ) (w : WorldState) → (ended_of a w).watches ≡ w.watches
watches_ended a w = by (is_live a w.table)
  where
    by : (c : Bool) → (cond c (gone a w) w).watches ≡ w.watches
    by true = refl
    by false = refl
