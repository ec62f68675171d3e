-- The laws of a sound hub.
use Rattle.std.proofs.Common.{◌≡◌, ℕ, List, [], Bool, true, false, refl, ap}
use Rattle.std.proofs.Common.{◌∙◌, subst, arith}
use Rattle.pv_value.specs.Plain.{Plain}
use Rattle.ac_table.specs.declared.batches.Batch.{Batch}
use Rattle.ac_table.specs.Tables.{TableState, Actor, IsTable}
use Rattle.ac_world.specs.Worlds.{WorldState, resident_of, held_by, is_system, actor_of}
use Rattle.hub_machine.specs.Replays.{replay}
use Rattle.hub_laws.specs.Standing.{stands, took_all, events_of, value_alone, at_object}
use Rattle.hub_laws.specs.Delivery.{IsDelivered, IsDeliveredTo, IsGotBy}
use Rattle.hub_laws.specs.Laws.{Delivery, SettledDelivery, Wants, Endings}
use Rattle.hub_laws.proofs.FromScratch.{inbox_empty}
use Rattle.hub_laws.proofs.Kept.{IsNear, IsServed, IsSound}
use Rattle.hub_laws.proofs.Lists.{near_exact, entry_of-stands, kept_of}
use Rattle.hub_laws.proofs.Opening.{replay_hub}

exact : {X : Type 0} (f : ℕ → Plain → X) (a : ℕ) (t : TableState) (kept : List (ℕ × X)) → IsTable t
    → IsNear [] t.rows (stands f a t.rows) kept → kept ≡ stands f a t.rows
exact f a t kept k n =
    near_exact [] t.rows (stands f a t.rows) kept n (λ h r found. refl)
    (λ h none. entry_of-stands f a h t.rows k.rows_ascend ∙ ap (kept_of f a) none)

delivered_to : (a : ℕ) (x : Actor) (w : WorldState) → IsTable w.table → (s : Bool) → IsServed [] a x.inbox w s
    → IsDeliveredTo a x w s
delivered_to a x w k true s = exact _ a w.table _ k (s.near refl)
delivered_to a x w k false s = exact _ a w.table _ k (s.near refl)

pub delivered : (w : WorldState) → IsSound [] w → IsDelivered w
delivered w k a x found = delivered_to a x w k.table (is_system a) (k.served a x found)

pub delivery : Delivery
delivery ds steps may = delivered _ (replay_hub ds steps may).sound

-- where its inbox is empty, a live actor has got all of it
got_by : (a : ℕ) (x : Actor) (w : WorldState) → x.inbox ≡ [] → (s : Bool) → IsDeliveredTo a x w s → IsGotBy a w s
got_by a x w empty true is =
    let got : List (ℕ × Plain) = (resident_of a w).got in
    subst (λ (bs : List Batch). took_all value_alone (events_of bs) got ≡ stands value_alone a w.table.rows) empty is
got_by a x w empty false is =
    subst (λ (bs : List Batch). took_all at_object (events_of bs) (held_by a w) ≡ stands at_object a w.table.rows)
    empty is

pub got_in_full : SettledDelivery
got_in_full ds steps may settled a x found =
    let w : WorldState = (replay ds steps).world in
    got_by a x w (inbox_empty a w.table.actors x (omega (arith, settled)) found) (is_system a)
    (delivery ds steps may a x found)

pub wants : Wants
wants ds steps may = (replay_hub ds steps may).sound.met

pub have_ended : Endings
have_ended ds steps may =
    let h = replay_hub ds steps may in
    record {
      owners = h.sound.table.owners_live;
      names = λ k dead. h.nameless k dead;
      got = λ k dead. h.sound.unheld (actor_of k) dead;
      watchers = h.sound.unkept;
    }
