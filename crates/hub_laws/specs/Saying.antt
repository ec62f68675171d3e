-- What is said: to whom messages go that come to a dataspace, and the answers to syncs.
use Rattle.std.specs.Prelude.{◌≡◌, ℕ, ◌==◌, ◌<◌, ◌≤◌, true, List, [], ◌∷◌, ◌++◌, Option, Some, None, if◌then◌else◌}
use Rattle.std.specs.List.{flat_map}
use Rattle.std.specs.Map.{values_of}
use Rattle.pv_value.specs.Plain.{Plain, boolean}
use Rattle.pv_value.specs.Order.{order}
use Rattle.pv_value.specs.Sets.{ascending_by}
use Rattle.ps_schema.specs.declared.Definition.{Definition}
use Rattle.dp_pattern.specs.Patterns.{Pattern}
use Rattle.dp_pattern.specs.Matching.{matched}
use Rattle.ds_space.specs.Limits.{most_wanted_weight}
use Rattle.ds_space.specs.Wants.{observer_of}
use Rattle.ds_space.specs.Fans.{fan_weight}
use Rattle.ac_table.specs.declared.batches.Event.{Event}
use Rattle.ac_table.specs.declared.batches.Event.TheVariants.{Message, Sync}
use Rattle.ac_table.specs.Tables.{find_actor, is_live, first_batch, popped}
use Rattle.ac_world.specs.declared.aims.Aim.{Aim}
use Rattle.ac_world.specs.Outboxes.{Plan, told_to}
use Rattle.gk_sturdy.specs.declared.bound.Binding.{Binding}
use Rattle.ac_world.specs.Aims.{aim_at, observer_in}
use Rattle.ac_world.specs.Behaviours.{Behaviour, dataspace, gatekeeper, watcher}
use Rattle.ac_world.specs.Turns.{Turning, turned_by, turn}
use Rattle.ac_world.specs.declared.watched.Watched.{Watched}
use Rattle.ac_world.specs.Watchers.{Task, watcher_of}
use Rattle.ac_world.specs.Worlds.{WorldState, resident_of, is_space}
use Rattle.hub_laws.specs.Posting.{grown}
use Rattle.hub_laws.specs.Scratch.{as_sequence}

-- what gets through to an object, where it is actor b's
abbrev pub message_aimed : ℕ → Option Aim → List Event
message_aimed b None = []
message_aimed b (Some aim) = if aim.at.actor == b then Message aim.at.entity aim.value ∷ [] else []

-- an observer is told what its pattern captures of the message, as its reference's caveats let it pass
abbrev pub message_by : List Definition → ℕ → Plain → Option Plain → Option Pattern → List Event
message_by ds b m (Some r) (Some p) = flat_map (λ c. message_aimed b (aim_at ds c r)) (as_sequence (matched p m))
message_by ds b m (Some r) None = []
message_by ds b m None o = []

-- for each distinct observation among the values at a dataspace, ascending
abbrev pub messages_over : List Definition → ℕ → List Plain → Plain → List Event
messages_over ds b vs m = flat_map (λ o. message_by ds b m (observer_in o) (observer_of o)) (ascending_by order vs)

-- from t to u nothing is done but that each actor b is told these events, too
pub record OnlySays (said : ℕ → List Event) (t u : Plan) : Type 0 where
  pub table : u.table ≡ t.table
  pub told : (b : ℕ) → told_to b u.out ≡ told_to b t.out ++ said b

-- a message that comes to a dataspace in its turn, where the captures don't weigh too much; the gatekeeper and
-- watchers drop it
abbrev pub SaysMessages : Type 0
SaysMessages =
    ((ds : List Definition) (a from entity : ℕ) (m : Plain) (t : Turning)
    → fan_weight (values_of t.resident.got) m ≤ most_wanted_weight
    → OnlySays (λ b. messages_over ds b (values_of t.resident.got) m) t.plan
    (turned_by (dataspace ds) a from (Message entity m) t).plan)
    × ((ds : List Definition) (bs : List Binding) (a from entity : ℕ) (m : Plain) (t : Turning)
    → turned_by (gatekeeper ds bs) a from (Message entity m) t ≡ t)
    × ((ds : List Definition) (task : Task) (a from entity : ℕ) (m : Plain) (t : Turning)
    → turned_by (watcher ds task) a from (Message entity m) t ≡ t)

-- a sync that comes to a system actor is answered by the message `#t` through its peer
abbrev pub AnswersSyncs : Type 0
AnswersSyncs =
    (y : Behaviour) (a from entity : ℕ) (peer : Plain) (t : Turning)
    → OnlySays (λ b. message_aimed b (aim_at y.schema (boolean true) peer)) t.plan
    (turned_by y a from (Sync entity peer) t).plan

-- so after a dataspace's turn over a message each inbox has grown by one batch of just these; after the gatekeeper's or
-- a watcher's none has grown
abbrev pub MessagesArrive : Type 0
MessagesArrive =
    ((a from entity : ℕ) (m : Plain) (w : WorldState) → is_space a ≡ true → is_live a w.table ≡ true
    → first_batch a w.table ≡ Some (record { from = from; events = Message entity m ∷ [] })
    → fan_weight (values_of (resident_of a w).got) m ≤ most_wanted_weight → (b : ℕ)
    → find_actor b (turn a w).world.table.actors
    ≡ grown a (messages_over w.schema b (values_of (resident_of a w).got) m)
    (find_actor b (popped a w.table).actors))
    × ((from entity : ℕ) (m : Plain) (w : WorldState) → is_live 0 w.table ≡ true
    → first_batch 0 w.table ≡ Some (record { from = from; events = Message entity m ∷ [] }) → (b : ℕ)
    → find_actor b (turn 0 w).world.table.actors ≡ find_actor b (popped 0 w.table).actors)
    × ((a from entity : ℕ) (m : Plain) (w : WorldState) (x : Watched) → a < 17 → watcher_of a w.watches ≡ Some x
    → is_live a w.table ≡ true → first_batch a w.table ≡ Some (record { from = from; events = Message entity m ∷ [] })
    → (b : ℕ) → find_actor b (turn a w).world.table.actors ≡ find_actor b (popped a w.table).actors)
