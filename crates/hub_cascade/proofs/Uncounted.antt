-- Retractions add nothing to what waits.
use Rattle.std.proofs.Common.{◌≡◌, ℕ, ◌==◌, List, [], ◌∷◌, ◌++◌, Bool, true, false, cond, Some, refl}
use Rattle.std.proofs.Common.{ap, ◌∙◌}
use Rattle.std.specs.List.{AllByRecursion}
use Rattle.ac_table.specs.declared.batches.Batch.{Batch}
use Rattle.ac_table.specs.declared.batches.Event.{Event}
use Rattle.ac_table.specs.declared.batches.Event.TheVariants.{Assert, Retract, Message, Sync}
use Rattle.ac_table.specs.Sums.{nothing, both, load_of, load_in, load_waiting, inbox_of}
use Rattle.ac_table.specs.Tables.{Actor, TableState, find_actor, with_inbox, pushed}
use Rattle.ac_world.specs.Outboxes.{Outbox, posted}
use Rattle.hub_valid.specs.Lemmas.WorldPlans.{AreTold}
use Rattle.hub_cascade.specs.Sparing.{IsRetraction}

pub uncounted : (es : List Event) → AllByRecursion IsRetraction es → load_in es ≡ nothing
uncounted [] all = refl
uncounted (e ∷ es) all = λ i. both (one e all.0 i) (uncounted es all.1 i)
  where
    one : (e : Event) → IsRetraction e → load_of e ≡ nothing
    one (Assert h entity v) is = absurd is
    one (Retract h entity) is = refl
    one (Message entity v) is = absurd is
    one (Sync entity peer) is = absurd is

waiting_more : (bs : List Batch) (b : Batch) → load_in b.events ≡ nothing
    → load_waiting (bs ++ b ∷ []) ≡ load_waiting bs
waiting_more [] b is = ap (λ l. both l nothing) is
waiting_more (c ∷ cs) b is = ap (both (load_in c.events)) (waiting_more cs b is)

-- a batch of these comes to an inbox
pub pushed_waits : (c a : ℕ) (b : Batch) (xs : List Actor) → load_in b.events ≡ nothing
    → load_waiting (inbox_of (find_actor c (with_inbox a (λ bs. bs ++ b ∷ []) xs)))
    ≡ load_waiting (inbox_of (find_actor c xs))
pushed_waits c a b [] is = refl
pushed_waits c a b (x ∷ xs) is = by (x.number == a) (pushed_waits c a b xs is)
  where
    longer : Actor
    longer = record { number = x.number; inbox = x.inbox ++ b ∷ [] }

    here : (n : Bool) → load_waiting (inbox_of (cond n (Some longer) (find_actor c xs)))
        ≡ load_waiting (inbox_of (cond n (Some x) (find_actor c xs)))
    here true = waiting_more x.inbox b is
    here false = refl

    past : (n : Bool)
        → load_waiting (inbox_of (find_actor c (with_inbox a (λ bs. bs ++ b ∷ []) xs)))
        ≡ load_waiting (inbox_of (find_actor c xs))
        → load_waiting (inbox_of (cond n (Some x) (find_actor c (with_inbox a (λ bs. bs ++ b ∷ []) xs))))
        ≡ load_waiting (inbox_of (cond n (Some x) (find_actor c xs)))
    past true later = refl
    past false later = later

    by : (m : Bool)
        → load_waiting (inbox_of (find_actor c (with_inbox a (λ bs. bs ++ b ∷ []) xs)))
        ≡ load_waiting (inbox_of (find_actor c xs))
        → load_waiting (inbox_of (find_actor c (cond m (longer ∷ xs) (x ∷ with_inbox a (λ bs. bs ++ b ∷ []) xs))))
        ≡ load_waiting (inbox_of (cond (x.number == c) (Some x) (find_actor c xs)))
    by true later = here (x.number == c)
    by false later = past (x.number == c) later

pub posted_waits : (c from : ℕ) (out : Outbox) (t : TableState) → AreTold IsRetraction out
    → load_waiting (inbox_of (find_actor c (posted from out t).actors))
    ≡ load_waiting (inbox_of (find_actor c t.actors))
posted_waits c from [] t all = refl
posted_waits c from (o ∷ os) t all =
    posted_waits c from os (pushed o.0 (record { from = from; events = o.1 }) t) all.1
    ∙ pushed_waits c o.0 (record { from = from; events = o.1 }) t.actors (uncounted o.1 all.0)
