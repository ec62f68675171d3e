-- A connection takes its batch: no more is held and waits for it afterwards, and for others as much as before.
use Rattle.std.proofs.Common.{◌≡◌, ◌≢◌, ℕ, ◌≤◌, List, [], ◌∷◌, Bool, true, false, cond, Option, Some, None}
use Rattle.std.proofs.Common.{Ordering, Less, Equal, Greater, refl, ap, sym, ◌∙◌, subst, arith, unwrap_or, drop}
use Rattle.std.proofs.Common.{slice_get}
use Rattle.std.specs.BTreeMap.{is_at}
use Rattle.std.specs.Map.{values_of}
use Rattle.std.specs.Ordering.{nat_cmp, match_ordering}
use Rattle.pv_value.specs.Weight.{weight}
use Rattle.ac_table.specs.declared.batches.Event.{Event}
use Rattle.ac_table.specs.declared.batches.Event.TheVariants.{Assert, Retract, Message, Sync}
use Rattle.ac_table.specs.declared.batches.Batch.{Batch}
use Rattle.ac_table.specs.declared.loads.Load.{Load}
use Rattle.ac_table.specs.Sums.{one, both, load_of, load_in, load_waiting, inbox_of}
use Rattle.ac_table.specs.Tables.{TableState, Actor, find_actor, first_in, first_batch, popped}
use Rattle.ac_world.specs.Sums.{load_got, deliveries}
use Rattle.ac_world.specs.Turns.{connection_turn}
use Rattle.ac_world.specs.declared.held.Held.{Held}
use Rattle.ac_world.specs.Worlds.{Deliveries, held_by, with_entry, without_entry, delivered}
use Rattle.ac_world.specs.Worlds.{all_delivered, actor_of}
use Rattle.ac_world.specs.Lemmas.Entries.{put_found, put_other}
use Rattle.hub_machine.specs.State.{State}
use Rattle.hub_valid.specs.Lemmas.Lasting.{live_popped}
use Rattle.hub_laws.proofs.Posting.{inbox_changed, found-with_inbox, found-with_inbox_other}
use Rattle.hub_cascade.proofs.Ends.{IsAsBefore, apart_actors}

pub record IsNoMore (x y : Load) : Type 0 where
  pub count : x.count ≤ y.count
  pub weight : x.weight ≤ y.weight

-- ---- what is got

got_with : (h : ℕ) (x : Held) (got : Deliveries)
    → IsNoMore (load_got (values_of (with_entry h x got))) (both (one (weight x.value)) (load_got (values_of got)))
got_with h x [] = record { count = omega arith; weight = omega arith }
got_with h x (e ∷ es) = by (nat_cmp h e.0) (got_with h x es)
  where
    by : (o : Ordering)
        → IsNoMore (load_got (values_of (with_entry h x es))) (both (one (weight x.value)) (load_got (values_of es)))
        → IsNoMore
        (load_got (values_of (match_ordering o ((h, x) ∷ e ∷ es) ((e.0, x) ∷ es) (e ∷ with_entry h x es))))
        (both (one (weight x.value)) (both (one (weight e.1.value)) (load_got (values_of es))))
    by Less later = record { count = omega arith; weight = omega arith }
    by Equal later = record { count = omega arith; weight = omega arith }
    by Greater later = record { count = omega (arith, later.count); weight = omega (arith, later.weight) }

got_without : (h : ℕ) (got : Deliveries)
    → IsNoMore (load_got (values_of (without_entry h got))) (load_got (values_of got))
got_without h [] = record { count = omega arith; weight = omega arith }
got_without h (e ∷ es) = by (is_at (nat_cmp h) e.0) (got_without h es)
  where
    by : (c : Bool) → IsNoMore (load_got (values_of (without_entry h es))) (load_got (values_of es))
        → IsNoMore (load_got (values_of (cond c es (e ∷ without_entry h es))))
        (both (one (weight e.1.value)) (load_got (values_of es)))
    by true later = record { count = omega arith; weight = omega arith }
    by false later = record { count = omega (arith, later.count); weight = omega (arith, later.weight) }

got_more : (e : Event) (got : Deliveries)
    → IsNoMore (load_got (values_of (delivered e got))) (both (load_of e) (load_got (values_of got)))
got_more (Assert h entity v) got = got_with h (record { entity = entity; value = v }) got
got_more (Retract h entity) got =
    let less = got_without h got in
    record { count = omega (arith, less.count); weight = omega (arith, less.weight) }
got_more (Message entity v) got = record { count = omega arith; weight = omega arith }
got_more (Sync entity peer) got = record { count = omega arith; weight = omega arith }

all_got : (es : List Event) (got : Deliveries)
    → IsNoMore (load_got (values_of (all_delivered es got))) (both (load_in es) (load_got (values_of got)))
all_got [] got = record { count = omega arith; weight = omega arith }
all_got (e ∷ es) got =
    let first = got_more e got in
    let later = all_got es (delivered e got) in
    record { count = omega (arith, first.count, later.count); weight = omega (arith, first.weight, later.weight) }

-- ---- what waits

-- the inbox was this batch, and then what is left
first_waits : (a : ℕ) (b : Batch) (t : TableState) → first_batch a t ≡ Some b
    → load_waiting (inbox_of (find_actor a t.actors))
    ≡ both (load_in b.events) (load_waiting (inbox_of (find_actor a (popped a t).actors)))
first_waits a b t is =
    by (find_actor a t.actors) is
    ∙ ap (λ o. both (load_in b.events) (load_waiting (inbox_of o))) (sym (found-with_inbox a (drop 1) t.actors))
  where
    inboxes : (bs : List Batch) → slice_get bs 0 ≡ Some b
        → load_waiting bs ≡ both (load_in b.events) (load_waiting (drop 1 bs))
    inboxes [] is = absurd cc
    inboxes (c ∷ cs) is =
        let same : c ≡ b = cc in ap (λ (d : Batch). both (load_in d.events) (load_waiting cs)) same

    by : (o : Option Actor) → first_in o ≡ Some b
        → load_waiting (inbox_of o) ≡ both (load_in b.events) (load_waiting (inbox_of (inbox_changed (drop 1) o)))
    by None is = absurd cc
    by (Some x) is = inboxes x.inbox is

-- ---- the connection takes it

-- s once connection k has taken this batch
abbrev pub taken : ℕ → Batch → State → State
taken k b s = record s {
  world = (connection_turn (actor_of k) b (record s.world { table = popped (actor_of k) s.world.table })).world;
}

pub others_wait : (j k : ℕ) (b : Batch) (s : State) → j ≢ k → IsAsBefore j s (taken k b s)
others_wait j k b s apart = record {
  live = live_popped (actor_of j) (actor_of k) s.world.table;
  names = refl;
  load = λ i. both (load_got (values_of (got i))) (load_waiting (inbox_of (waits i)));
}
  where
    got : held_by (actor_of j) (taken k b s).world ≡ held_by (actor_of j) s.world
    got =
        ap (λ (o : Option Deliveries). unwrap_or o [])
        (put_other (actor_of k) (actor_of j) (all_delivered b.events (held_by (actor_of k) s.world)) s.world.held
        (apart_actors j k apart))

    waits : find_actor (actor_of j) (popped (actor_of k) s.world.table).actors
        ≡ find_actor (actor_of j) s.world.table.actors
    waits = found-with_inbox_other (actor_of k) (actor_of j) (drop 1) s.world.table.actors (apart_actors j k apart)

pub itself_takes : (k : ℕ) (b : Batch) (s : State) → first_batch (actor_of k) s.world.table ≡ Some b
    → IsNoMore (deliveries (actor_of k) (taken k b s).world) (deliveries (actor_of k) s.world)
itself_takes k b s is =
    let held = held_by (actor_of k) s.world in
    let waiting : Load = load_waiting (inbox_of (find_actor (actor_of k) (popped (actor_of k) s.world.table).actors)) in
    let more = all_got b.events held in
    let now : IsNoMore (both (load_got (values_of (all_delivered b.events held))) waiting)
    (both (load_got (values_of held)) (both (load_in b.events) waiting)) =
    record { count = omega (arith, more.count); weight = omega (arith, more.weight) } in
    subst (λ (l : Load). IsNoMore l (deliveries (actor_of k) s.world))
    (ap (λ (g : Deliveries). both (load_got (values_of g)) waiting) got)
    (subst (λ (l : Load). IsNoMore (both (load_got (values_of (all_delivered b.events held))) waiting)
    (both (load_got (values_of held)) l)) (sym (first_waits (actor_of k) b s.world.table is)) now)
  where
    got : all_delivered b.events (held_by (actor_of k) s.world) ≡ held_by (actor_of k) (taken k b s).world
    got =
        sym (ap (λ (o : Option Deliveries). unwrap_or o [])
        (put_found (actor_of k) (all_delivered b.events (held_by (actor_of k) s.world)) s.world.held))
