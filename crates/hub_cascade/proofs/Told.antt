-- Where an actor ends, or retractions are posted, others are told of retractions alone.
use Rattle.std.proofs.Common.{◌≡◌, ◌≢◌, ℕ, List, [], ◌∷◌, ◌++◌, Bool, true, false, cond, Some, ◌⊎◌, inl, inr}
use Rattle.std.proofs.Common.{ap, sym, ◌∙◌}
use Rattle.std.proofs.lemmas.List.{append-nil, append_assoc}
use Rattle.ac_table.specs.declared.batches.Batch.{Batch}
use Rattle.ac_table.specs.declared.batches.Event.TheVariants.{Retract}
use Rattle.ac_table.specs.declared.batches.Row.{Row}
use Rattle.ac_table.specs.Tables.{Actor, TableState, find_actor, is_live, ended, rows_of, pushed}
use Rattle.ac_world.specs.Outboxes.{Outbox, posted, retractions, told}
use Rattle.ac_world.specs.Worlds.{WorldState, gone, ended_of}
use Rattle.hub_machine.specs.State.{State}
use Rattle.hub_valid.specs.Lemmas.WorldPlans.{AreTold, told_pass}
use Rattle.hub_laws.proofs.EndingActors.{ended_other}
use Rattle.hub_laws.proofs.Leaving.{one_or_not}
use Rattle.hub_laws.proofs.Posting.{inbox_changed, found-with_inbox, found-with_inbox_other}
use Rattle.hub_cascade.specs.Sparing.{IsRetraction, WaitsBehind, TellsBack}

-- nothing came
pub still_waits : (b : ℕ) (x : Actor) (actors : List Actor) → find_actor b actors ≡ Some x
    → WaitsBehind b x.inbox actors
still_waits b x actors found =
    record { actor = x; found = found; came = []; back = tt; inbox = sym (append-nil x.inbox) }

-- events are posted that take back alone
pub posted_back : (b from : ℕ) (out : Outbox) (t : TableState) (x : Actor) → AreTold IsRetraction out
    → find_actor b t.actors ≡ Some x → WaitsBehind b x.inbox (posted from out t).actors
posted_back b from [] t x all found = still_waits b x t.actors found
posted_back b from (o ∷ os) t x all found =
    by (one_or_not b o.0)
    (λ y there. posted_back b from os (pushed o.0 (record { from = from; events = o.1 }) t) y all.1 there)
  where
    batch : Batch
    batch = record { from = from; events = o.1 }

    push : List Batch → List Batch
    push bs = bs ++ batch ∷ []

    next : TableState
    next = pushed o.0 batch t

    longer : Actor
    longer = record { number = x.number; inbox = x.inbox ++ batch ∷ [] }

    by : (b ≡ o.0) ⊎ (b ≢ o.0)
        → ((y : Actor) → find_actor b next.actors ≡ Some y → WaitsBehind b y.inbox (posted from os next).actors)
        → WaitsBehind b x.inbox (posted from os next).actors
    by (inl same) later =
        let here : find_actor b next.actors ≡ Some longer =
        ap (λ i. find_actor b (pushed i batch t).actors) (sym same) ∙ found-with_inbox b push t.actors
        ∙ ap (inbox_changed push) found in
        let rest = later longer here in
        record {
          actor = rest.actor;
          found = rest.found;
          came = batch ∷ rest.came;
          back = (all.0, rest.back);
          inbox = rest.inbox ∙ append_assoc x.inbox (batch ∷ []) rest.came;
        }
    by (inr apart) later = later x (found-with_inbox_other o.0 b push t.actors apart ∙ found)

retractions_back : (rows : List Row) (out : Outbox) → AreTold IsRetraction out
    → AreTold IsRetraction (retractions rows out)
retractions_back [] out all = all
retractions_back (r ∷ rs) out all =
    retractions_back rs (told r.target (Retract r.handle r.entity) out)
    (told_pass IsRetraction r.target (Retract r.handle r.entity) out tt all)

-- an actor ends
pub ended_back : (a b : ℕ) (w : WorldState) (x : Actor) → b ≢ a → find_actor b w.table.actors ≡ Some x
    → WaitsBehind b x.inbox (ended_of a w).table.actors
ended_back a b w x apart found = by (is_live a w.table)
  where
    by : (c : Bool) → WaitsBehind b x.inbox (cond c (gone a w) w).table.actors
    by true =
        posted_back b a (retractions (rows_of a w.table.rows) []) (ended a w.table) x
        (retractions_back (rows_of a w.table.rows) [] tt) (ended_other a b w.table apart ∙ found)
    by false = still_waits b x w.table.actors found

pub tells_nothing : (a : ℕ) (s : State) → TellsBack a s s
tells_nothing a s b x apart found = still_waits b x s.world.table.actors found
