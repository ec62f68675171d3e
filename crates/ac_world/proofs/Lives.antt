-- What the changes of a turn leave of a table: who is live, the actors' numbers, and their facets.
use Rattle.std.proofs.Common.{◌≡◌, ℕ, ◌==◌, List, [], ◌∷◌, map, refl, ap, arith, sym, ◌∙◌, is_some}
use Rattle.std.specs.List.{list_any, AllByRecursion}
use Rattle.pv_value.specs.Plain.{Plain}
use Rattle.ac_table.specs.declared.batches.Event.{Event}
use Rattle.ac_table.specs.declared.batches.Batch.{Batch}
use Rattle.ac_table.specs.Facets.{is_facet}
use Rattle.ac_table.specs.Tables.{Actor, TableState, find_actor, is_live, tree_of, has_facet, with_inbox}
use Rattle.ac_table.specs.Tables.{asserted, retracted, pushed, popped}
use Rattle.ac_world.specs.declared.acts.Act.{Act}
use Rattle.ac_world.specs.Outboxes.{Outbox, Plan, posted, put, dropped, said, committed, acted, all_acted}
use Rattle.ac_world.specs.Watchers.{Watched}
use Rattle.ac_world.specs.Worlds.{IsNumbered, IsWorld}
use Rattle.ac_world.proofs.Sparing.{IsSparedByRows, dropped_spared, acted_spared, all_acted_spared}

abbrev pub numbers_in : List Actor → List ℕ
numbers_in xs = map (λ x. x.number) xs

abbrev pub numbers : TableState → List ℕ
numbers t = numbers_in t.actors

-- ---- the numbers say who is live, and whether all are below a bound

pub is_live-numbers : (a : ℕ) (xs : List Actor) → is_some (find_actor a xs) ≡ list_any (λ k. k == a) (numbers_in xs)
is_live-numbers a [] = refl
is_live-numbers a (x ∷ xs) = grind (arith, is_live-numbers a xs)

pub live_from_numbers : (a : ℕ) (s t : TableState) → numbers s ≡ numbers t → is_live a s ≡ is_live a t
live_from_numbers a s t is =
    is_live-numbers a s.actors ∙ ap (list_any (λ k. k == a)) is ∙ sym (is_live-numbers a t.actors)

all_numbers : (P : ℕ → Type 0) (xs : List Actor) → AllByRecursion (λ x. P x.number) xs
    → AllByRecursion P (numbers_in xs)
all_numbers P [] all = tt
all_numbers P (x ∷ xs) all = (all.0, all_numbers P xs all.1)

all_actors : (P : ℕ → Type 0) (xs : List Actor) → AllByRecursion P (numbers_in xs)
    → AllByRecursion (λ x. P x.number) xs
all_actors P [] all = tt
all_actors P (x ∷ xs) all = (all.0, all_actors P xs all.1)

pub world_from_numbers : (n : ℕ) (ws : List Watched) (s t : TableState) → numbers s ≡ numbers t → IsWorld n ws t
    → IsWorld n ws s
world_from_numbers n ws s t is all =
    all_actors (IsNumbered n ws) s.actors (rw is (all_numbers (IsNumbered n ws) t.actors all))

-- ---- the numbers stay

pub numbers-with_inbox : (a : ℕ) (f : List Batch → List Batch) (xs : List Actor)
    → numbers_in (with_inbox a f xs) ≡ numbers_in xs
numbers-with_inbox a f [] = refl
numbers-with_inbox a f (x ∷ xs) = grind (arith, numbers-with_inbox a f xs)

pub numbers-pushed : (a : ℕ) (b : Batch) (t : TableState) → numbers (pushed a b t) ≡ numbers t
numbers-pushed a b t = numbers-with_inbox a _ t.actors

pub numbers-popped : (a : ℕ) (t : TableState) → numbers (popped a t) ≡ numbers t
numbers-popped a t = numbers-with_inbox a _ t.actors

pub numbers-posted : (from : ℕ) (out : Outbox) (t : TableState) → numbers (posted from out t) ≡ numbers t
numbers-posted from [] t = refl
numbers-posted from (o ∷ os) t =
    numbers-posted from os (pushed o.0 (record { from = from; events = o.1 }) t) ∙ numbers-pushed o.0 _ t

pub numbers-committed : (from : ℕ) (p : Plan) → numbers (committed from p) ≡ numbers p.table
numbers-committed from p = numbers-posted from p.out p.table

-- ---- who is live stays live, and nobody else is

pub live-asserted : (a owner facet target entity : ℕ) (v : Plain) (t : TableState)
    → is_live a (asserted owner facet target entity v t) ≡ is_live a t
live-asserted a owner facet target entity v t = refl

pub live-retracted : (a h : ℕ) (t : TableState) → is_live a (retracted h t) ≡ is_live a t
live-retracted a h t = refl

pub live-pushed : (a target : ℕ) (b : Batch) (t : TableState) → is_live a (pushed target b t) ≡ is_live a t
live-pushed a target b t = live_from_numbers a (pushed target b t) t (numbers-pushed target b t)

pub live-popped : (a target : ℕ) (t : TableState) → is_live a (popped target t) ≡ is_live a t
live-popped a target t = live_from_numbers a (popped target t) t (numbers-popped target t)

pub live-posted : (a from : ℕ) (out : Outbox) (t : TableState) → is_live a (posted from out t) ≡ is_live a t
live-posted a from out t = live_from_numbers a (posted from out t) t (numbers-posted from out t)

pub live-put : (a owner facet target entity : ℕ) (v : Plain) (p : Plan)
    → is_live a (put owner facet target entity v p).table ≡ is_live a p.table
live-put a owner facet target entity v p = refl

pub live-said : (a target : ℕ) (e : Event) (p : Plan) → is_live a (said target e p).table ≡ is_live a p.table
live-said a target e p = refl

pub live-committed : (a from : ℕ) (p : Plan) → is_live a (committed from p) ≡ is_live a p.table
live-committed a from p = live-posted a from p.out p.table

lives_by_rows : (a owner : ℕ) → IsSparedByRows (is_live a) owner
lives_by_rows a owner = record { row_more = λ facet target entity v t. refl; row_less = λ h t. refl }

pub live-dropped : (a owner handle : ℕ) (p : Plan) → is_live a (dropped owner handle p).table ≡ is_live a p.table
live-dropped a owner handle p = dropped_spared (is_live a) owner (lives_by_rows a owner) handle p

pub live-acted : (a owner : ℕ) (x : Act) (p : Plan) → is_live a (acted owner x p).table ≡ is_live a p.table
live-acted a owner x p = acted_spared (is_live a) owner (lives_by_rows a owner) x p

-- ---- its facets stay, where its rows alone change

trees_by_rows : (b owner : ℕ) → IsSparedByRows (tree_of b) owner
trees_by_rows b owner = record { row_more = λ facet target entity v t. refl; row_less = λ h t. refl }

pub tree-acted : (b owner : ℕ) (x : Act) (p : Plan) → tree_of b (acted owner x p).table ≡ tree_of b p.table
tree-acted b owner x p = acted_spared (tree_of b) owner (trees_by_rows b owner) x p

pub tree-all_acted : (b owner : ℕ) (xs : List Act) (p : Plan)
    → tree_of b (all_acted owner xs p).table ≡ tree_of b p.table
tree-all_acted b owner xs p = all_acted_spared (tree_of b) owner (trees_by_rows b owner) xs p

pub facet-acted : (b f owner : ℕ) (x : Act) (p : Plan)
    → has_facet b f (acted owner x p).table ≡ has_facet b f p.table
facet-acted b f owner x p = ap (is_facet f) (tree-acted b owner x p)

pub tree-posted : (b from : ℕ) (out : Outbox) (t : TableState) → tree_of b (posted from out t) ≡ tree_of b t
tree-posted b from [] t = refl
tree-posted b from (o ∷ os) t = tree-posted b from os (pushed o.0 (record { from = from; events = o.1 }) t)
