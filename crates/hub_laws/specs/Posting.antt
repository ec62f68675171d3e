-- What is posted: each live actor that is told something gets it as one batch, behind those that wait for it.
use Rattle.std.specs.Prelude.{◌≡◌, ◌≢◌, ℕ, List, [], ◌∷◌, ◌++◌, Option, Some, None}
use Rattle.std.specs.List.{AllByRecursion}
use Rattle.std.specs.List.Sorted.{IsStrictlySortedBy}
use Rattle.std.specs.Map.{keys_of}
use Rattle.std.specs.Ordering.{nat_cmp}
use Rattle.ac_table.specs.declared.batches.Event.{Event}
use Rattle.ac_table.specs.Tables.{TableState, Actor, find_actor}
use Rattle.ac_world.specs.Outboxes.{Outbox, told, told_to, posted}

-- the targets ascend, and each is told something
abbrev pub IsOutbox : Outbox → Type 0
IsOutbox out = IsStrictlySortedBy nat_cmp (keys_of out) × AllByRecursion (λ o. o.1 ≢ []) out

-- an actor, where it is live, once it was told these events
abbrev pub grown : ℕ → List Event → Option Actor → Option Actor
grown from [] o = o
grown from (e ∷ es) None = None
grown from (e ∷ es) (Some x) = Some (record {
  number = x.number;
  inbox = x.inbox ++ record { from = from; events = e ∷ es } ∷ [];
})

-- the outbox of an actor is posted in t, which leads to u
pub record IsPosted (from : ℕ) (out : Outbox) (t u : TableState) : Type 0 where
  pub rows : u.rows ≡ t.rows
  pub next : u.next ≡ t.next
  pub inboxes : (b : ℕ) → find_actor b u.actors ≡ grown from (told_to b out) (find_actor b t.actors)

abbrev pub PostedOnce : Type 0
PostedOnce = (from : ℕ) (out : Outbox) (t : TableState) → IsOutbox out → IsPosted from out t (posted from out t)

-- each outbox is one: it begins empty, and events are added to it
abbrev pub AreOutboxes : Type 0
AreOutboxes = IsOutbox [] × ((target : ℕ) (e : Event) (out : Outbox) → IsOutbox out → IsOutbox (told target e out))
