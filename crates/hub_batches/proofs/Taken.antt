-- A turn takes the first batch of its actor's inbox, and what it tells comes behind the others.
use Rattle.std.proofs.Common.{◌≡◌, ◌≢◌, ℕ, List, [], ◌∷◌, Bool, true, false, cond, Option, Some, None, option_map}
use Rattle.std.proofs.Common.{refl, ap, ◌∙◌, is_some, slice_get}
use Rattle.ac_table.specs.declared.batches.Batch.{Batch}
use Rattle.ac_table.specs.Tables.{Actor, find_actor, first_in, popped}
use Rattle.ac_world.specs.Outboxes.{told_to}
use Rattle.ac_world.specs.Turns.{After, Turning, begin_turn, system_turn, connection_turn, turn_with, turn_first}
use Rattle.ac_world.specs.Worlds.{WorldState, is_system}
use Rattle.ac_world.specs.declared.turns.Turned.TheVariants as turned
use Rattle.hub_valid.specs.Lemmas.Plans.{GoesOn, goes_on_all_turned}
use Rattle.hub_laws.specs.Posting.{IsOutbox, grown}
use Rattle.hub_laws.proofs.Posted.{posted_grown, told_outbox, are_outboxes}
use Rattle.hub_batches.specs.Laws.{ATurnTakesOneBatch}
use Rattle.hub_batches.specs.Taking.{inbox_at, less, behaving, turning_over, told_once, HasTaken, IsTurnOver}
use Rattle.hub_batches.proofs.Inboxes.{inbox_of, grown_inbox, own_popped, other_popped}
use Rattle.hub_batches.proofs.Outboxed.{all_turned_has}

-- what a system actor tells is posted once it has turned
system_inbox : (a b : ℕ) (d : Batch) (w : WorldState)
    → inbox_at b (system_turn a d (less a w)).world.table
    ≡ option_map (told_once a (told_to b (turning_over a d w).plan.out)) (inbox_at b (popped a w.table))
system_inbox a b d w =
    ap inbox_of (posted_grown a b t.plan.out t.plan.table outbox.0 outbox.1
    ∙ ap (λ xs. grown a (told_to b t.plan.out) (find_actor b xs)) on.actors)
    ∙ grown_inbox a (told_to b t.plan.out) (find_actor b (popped a w.table).actors)
  where
    t : Turning
    t = turning_over a d w

    on : GoesOn (popped a w.table) t.plan.table
    on = goes_on_all_turned (behaving a w) a d.from d.events (begin_turn a (less a w))

    outbox : IsOutbox t.plan.out
    outbox =
        all_turned_has IsOutbox told_outbox (behaving a w) a d.from d.events (begin_turn a (less a w)) are_outboxes.0

module _ (a : ℕ) (d : Batch) (rest : List Batch) (w : WorldState) (is : inbox_at a w.table ≡ Some (d ∷ rest)) where
  same_inbox : (o : Option (List Batch)) → o ≡ option_map (told_once a []) o
  same_inbox None = refl
  same_inbox (Some bs) = refl

  -- a system actor's turn, or else a connection's
  own : (c : Bool) → inbox_at a (cond c (system_turn a d (less a w)) (connection_turn a d (less a w))).world.table
      ≡ Some (told_once a (cond c (told_to a (turning_over a d w).plan.out) []) rest)
  own true =
      system_inbox a a d w
      ∙ ap (option_map (told_once a (told_to a (turning_over a d w).plan.out))) (own_popped a d rest w.table is)
  own false = own_popped a d rest w.table is

  others : (c : Bool) (b : ℕ) → b ≢ a
      → inbox_at b (cond c (system_turn a d (less a w)) (connection_turn a d (less a w))).world.table
      ≡ option_map (told_once a (cond c (told_to b (turning_over a d w).plan.out) [])) (inbox_at b w.table)
  others true b apart =
      system_inbox a b d w
      ∙ ap (option_map (told_once a (told_to b (turning_over a d w).plan.out))) (other_popped a b w.table apart)
  others false b apart = other_popped a b w.table apart ∙ same_inbox (inbox_at b w.table)

  pub has_taken : HasTaken a d rest w (turn_with a d (less a w)).world
  has_taken = record { own = own (is_system a); others = λ b apart. others (is_system a) b apart }

pub turn_over : ATurnTakesOneBatch
turn_over a w = by (find_actor a w.table.actors) refl
  where
    none : After
    none = record { world = w; turned = turned.Gone }

    inboxes : (bs : List Batch) → inbox_at a w.table ≡ Some bs
        → IsTurnOver a (Some bs) w (turn_first a (slice_get bs 0) w).world
    inboxes [] is = refl
    inboxes (d ∷ rest) is = has_taken a d rest w is

    by : (o : Option Actor) → find_actor a w.table.actors ≡ o
        → IsTurnOver a (inbox_of o) w (cond (is_some o) (turn_first a (first_in o) w) none).world
    by None is = refl
    by (Some x) is = inboxes x.inbox (ap inbox_of is)
