-- Inboxes once a batch was taken or came.
use Rattle.std.proofs.Common.{◌≡◌, ◌≢◌, ℕ, List, [], ◌∷◌, Option, Some, None, option_map}
use Rattle.std.proofs.Common.{refl, ap, ◌∙◌, drop, is_some, slice_get, option_and_then}
use Rattle.ac_table.specs.declared.batches.Event.{Event}
use Rattle.ac_table.specs.declared.batches.Batch.{Batch}
use Rattle.ac_table.specs.Tables.{TableState, Actor, find_actor, is_live, first_batch, first_in, popped}
use Rattle.hub_laws.specs.Posting.{grown}
use Rattle.hub_laws.proofs.Posting.{inbox_changed, found-with_inbox, found-with_inbox_other}
use Rattle.hub_batches.specs.Taking.{inbox_at, told_once}

abbrev pub inbox_of : Option Actor → Option (List Batch)
inbox_of o = option_map (λ (x : Actor). x.inbox) o

-- who has an inbox is live
pub live_inbox : (b : ℕ) (t : TableState) → is_some (inbox_at b t) ≡ is_live b t
live_inbox b t = by (find_actor b t.actors)
  where
    by : (o : Option Actor) → is_some (inbox_of o) ≡ is_some o
    by None = refl
    by (Some x) = refl

-- an actor that was told something
pub grown_inbox : (from : ℕ) (es : List Event) (o : Option Actor)
    → inbox_of (grown from es o) ≡ option_map (told_once from es) (inbox_of o)
grown_inbox from [] None = refl
grown_inbox from [] (Some x) = refl
grown_inbox from (e ∷ es) None = refl
grown_inbox from (e ∷ es) (Some x) = refl

-- the first batch of an inbox
pub first_waits : (a : ℕ) (d : Batch) (rest : List Batch) (t : TableState) → inbox_at a t ≡ Some (d ∷ rest)
    → first_batch a t ≡ Some d
first_waits a d rest t is = by (find_actor a t.actors) is
  where
    by : (o : Option Actor) → inbox_of o ≡ Some (d ∷ rest) → first_in o ≡ Some d
    by None is = absurd cc
    by (Some x) is = ap (option_and_then (λ (bs : List Batch). slice_get bs 0)) is

-- and what is left without it
pub own_popped : (a : ℕ) (d : Batch) (rest : List Batch) (t : TableState) → inbox_at a t ≡ Some (d ∷ rest)
    → inbox_at a (popped a t) ≡ Some rest
own_popped a d rest t is =
    ap inbox_of (found-with_inbox a (drop 1) t.actors) ∙ by (find_actor a t.actors) is
  where
    by : (o : Option Actor) → inbox_of o ≡ Some (d ∷ rest) → inbox_of (inbox_changed (drop 1) o) ≡ Some rest
    by None is = absurd cc
    by (Some x) is = ap (option_map (drop 1)) is

pub other_popped : (a b : ℕ) (t : TableState) → b ≢ a → inbox_at b (popped a t) ≡ inbox_at b t
other_popped a b t apart = ap inbox_of (found-with_inbox_other a b (drop 1) t.actors apart)
