-- Retractions count toward no limit, so what is counted of an actor stays where another ends.
use Rattle.std.proofs.Common.{◌≡◌, ◌≢◌, ℕ, ◌==◌, List, [], ◌∷◌, ◌++◌, Bool, true, false, cond, Option, Some, None}
use Rattle.std.proofs.Common.{refl, ap, ◌∙◌, unwrap_or}
use Rattle.std.specs.List.{AllByRecursion}
use Rattle.std.specs.Map.{values_of}
use Rattle.ac_table.specs.declared.batches.Row.{Row}
use Rattle.ac_table.specs.declared.batches.Batch.{Batch}
use Rattle.ac_table.specs.declared.batches.Event.{Event}
use Rattle.ac_table.specs.declared.batches.Event.TheVariants.{Retract}
use Rattle.ac_table.specs.Tables.{Actor, find_actor, is_live, ended, rows_of}
use Rattle.ac_world.specs.Outboxes.{Outbox, told, told_to, retractions}
use Rattle.ac_table.specs.Sums.{nothing, both, load_of, load_in, load_waiting, inbox_of}
use Rattle.ac_world.specs.Sums.{load_got, deliveries}
use Rattle.ac_world.specs.Worlds.{WorldState, Deliveries, held_by, gone}
use Rattle.ac_world.specs.Lemmas.Entries.{out_other, all_append}
use Rattle.hub_laws.specs.Laws.{EndingsSpareOthers}
use Rattle.hub_laws.specs.Posting.{IsOutbox, grown}
use Rattle.hub_laws.proofs.EndingActors.{ended_other}
use Rattle.hub_laws.proofs.Moving.{event_for, told_to-told}
use Rattle.hub_laws.proofs.Posted.{posted_grown, told_outbox, are_outboxes}

-- ---- events that count for nothing

abbrev pub AreUncounted : List Event → Type 0
AreUncounted es = AllByRecursion (λ e. load_of e ≡ nothing) es

load_uncounted : (es : List Event) → AreUncounted es → load_in es ≡ nothing
load_uncounted [] all = refl
load_uncounted (e ∷ es) all = λ i. both (all.0 i) (load_uncounted es all.1 i)

retractions_uncounted : (b : ℕ) (rs : List Row) (out : Outbox) → AreUncounted (told_to b out)
    → AreUncounted (told_to b (retractions rs out))
retractions_uncounted b [] out all = all
retractions_uncounted b (r ∷ rs) out all =
    retractions_uncounted b rs (told r.target (Retract r.handle r.entity) out)
    (rw (told_to-told b r.target (Retract r.handle r.entity) out)
    (all_append _ (told_to b out) (event_for b r.target (Retract r.handle r.entity)) all (one (r.target == b))))
  where
    one : (c : Bool) → AreUncounted (cond c (Retract r.handle r.entity ∷ []) [])
    one true = (refl, tt)
    one false = tt

retractions_outbox : (rs : List Row) (out : Outbox) → IsOutbox out → IsOutbox (retractions rs out)
retractions_outbox [] out is = is
retractions_outbox (r ∷ rs) out is =
    retractions_outbox rs (told r.target (Retract r.handle r.entity) out)
    (told_outbox r.target (Retract r.handle r.entity) out is)

-- ---- an inbox with a batch of these

waiting_more : (bs : List Batch) (b : Batch) → load_in b.events ≡ nothing
    → load_waiting (bs ++ b ∷ []) ≡ load_waiting bs
waiting_more [] b is = ap (λ l. both l nothing) is
waiting_more (c ∷ cs) b is = ap (both (load_in c.events)) (waiting_more cs b is)

grown_waiting : (from : ℕ) (es : List Event) (o : Option Actor) → load_in es ≡ nothing
    → load_waiting (inbox_of (grown from es o)) ≡ load_waiting (inbox_of o)
grown_waiting from [] o is = refl
grown_waiting from (e ∷ es) None is = refl
grown_waiting from (e ∷ es) (Some x) is = waiting_more x.inbox (record { from = from; events = e ∷ es }) is

-- ---- an actor goes

gone_spares : (a b : ℕ) (w : WorldState) → b ≢ a → deliveries b (gone a w) ≡ deliveries b w
gone_spares a b w apart =
    λ i. both (load_got (values_of (held_is i))) (waiting_is i)
  where
    out : Outbox
    out = retractions (rows_of a w.table.rows) []

    held_is : held_by b (gone a w) ≡ held_by b w
    held_is = ap (λ (o : Option Deliveries). unwrap_or o []) (out_other a b w.held apart)

    outbox : IsOutbox out
    outbox = retractions_outbox (rows_of a w.table.rows) [] are_outboxes.0

    waiting_is : load_waiting (inbox_of (find_actor b (gone a w).table.actors))
        ≡ load_waiting (inbox_of (find_actor b w.table.actors))
    waiting_is =
        ap (λ o. load_waiting (inbox_of o)) (posted_grown a b out (ended a w.table) outbox.0 outbox.1)
        ∙ grown_waiting a (told_to b out) (find_actor b (ended a w.table).actors)
        (load_uncounted (told_to b out) (retractions_uncounted b (rows_of a w.table.rows) [] tt))
        ∙ ap (λ o. load_waiting (inbox_of o)) (ended_other a b w.table apart)

pub endings_spare_others : EndingsSpareOthers
endings_spare_others a b w apart = by (is_live a w.table)
  where
    by : (c : Bool) → deliveries b (cond c (gone a w) w) ≡ deliveries b w
    by true = gone_spares a b w apart
    by false = refl
