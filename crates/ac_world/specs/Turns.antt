-- A turn: an actor takes the first batch of its inbox. A system actor compares what it wants before each event with
-- what it wants after it. Syndicate Protocol, "turns".
use Rattle.std.specs.Prelude.{ℕ, List, [], ◌∷◌, ◌++◌, Bool, true, ◌&&◌, ◌||◌, not, ◌==◌, nat_lt, nat_le, Option}
use Rattle.std.specs.Prelude.{Some, None, if◌then◌else◌}
use Rattle.std.specs.List.{list_any}
use Rattle.std.specs.Map.{lookup, remove_entry, values_of}
use Rattle.std.specs.BTreeMap.{insert_entry, is_at}
use Rattle.pv_value.specs.Plain.{Plain, boolean, sequence, plains}
use Rattle.pv_value.specs.Order.{order}
use Rattle.ps_schema.specs.declared.Definition.{Definition}
use Rattle.ds_space.specs.Limits.{most_wanted_weight}
use Rattle.ds_space.specs.Spaces.{Rows, changed, has_row}
use Rattle.ds_space.specs.declared.space.SpaceEvent.{SpaceEvent}
use Rattle.ds_space.specs.declared.space.SpaceEvent.TheVariants.{Add, Gone}
use Rattle.ds_space.specs.declared.space.Change.{Change}
use Rattle.ds_space.specs.declared.space.Change.TheVariants.{Left, Came}
use Rattle.ds_space.specs.declared.space.Fanned.{Fanned}
use Rattle.ac_table.specs.declared.batches.Event.{Event}
use Rattle.ac_table.specs.declared.batches.Event.TheVariants.{Assert, Retract, Message, Sync}
use Rattle.ac_table.specs.declared.batches.Batch.{Batch}
use Rattle.ac_table.specs.Tables.{TableState, is_live, first_batch, popped, lowest}
use Rattle.ac_world.specs.Allocating.{allocated, released}
use Rattle.ac_world.specs.Outboxes.{Plan, plan_over, put, with_trees, dropped, said, committed}
use Rattle.ac_world.specs.Worlds.{WorldState, Resident, resident_of, held_by, with_entry, is_system}
use Rattle.ac_world.specs.Worlds.{all_delivered}
use Rattle.ac_world.specs.Aims.{Aim, aim_at, aim_for}
use Rattle.ac_world.specs.Behaviours.{Behaviour, behaviour_of, fanned_weight}
use Rattle.ds_space.specs.Changes.{changes}
use Rattle.ac_world.specs.declared.spreads.Spread.{Spread}
use Rattle.ac_world.specs.declared.turns.Turned.{Turned}
use Rattle.ac_world.specs.declared.turns.Turned.TheVariants as turned

-- ---- who ends, since more would be wanted or sent than may be

abbrev pub is_listed : ℕ → List Spread → Bool
is_listed a ss = list_any (λ s. s.actor == a) ss

-- Each is listed once, with the first weight that was too much.
abbrev pub spread_by : Bool → ℕ → ℕ → List Spread → List Spread
spread_by ends from weight ss =
    if ends && not (is_listed from ss) then ss ++ record { actor = from; weight = weight } ∷ [] else ss

-- a live one of those that aren't always live
abbrev pub may_end : ℕ → TableState → Bool
may_end a t = nat_le 9 a && is_live a t

-- with an assertion at actor a that ends which made the batch; where that is no connection and a is a watcher, a ends
abbrev pub culprit : ℕ → ℕ → ℕ
culprit a from = if nat_le 17 from || nat_lt a 9 then from else a

abbrev pub by_assertion : TableState → ℕ → ℕ → ℕ → List Spread → List Spread
by_assertion t a from weight ss = spread_by (may_end (culprit a from) t) (culprit a from) weight ss

-- with a message a connection ends that made the batch
abbrev pub by_message : TableState → ℕ → ℕ → List Spread → List Spread
by_message t from weight ss = spread_by (nat_le 17 from && is_live from t) from weight ss

-- ---- the turn of a system actor

-- what it has and does, and who spread
pub record Turning : Type 0 where
  pub resident : Resident
  pub plan : Plan
  pub spreads : List Spread

abbrev pub handle_for : Plain → List (Plain × ℕ) → Option ℕ
handle_for k handles = lookup (is_at (order k)) handles

abbrev pub drop_met : ℕ → Option ℕ → Plan → Plan
drop_met a None p = p
drop_met a (Some h) p = dropped a h p

-- with the last row of a group their facet goes
abbrev pub releasing : ℕ → Option Plain → Turning → Turning
releasing a g t = record {
  resident = record {
    got = t.resident.got;
    handles = t.resident.handles;
    facets = (released a g t.resident.facets t.plan.table).facets;
  };
  plan = with_trees (released a g t.resident.facets t.plan.table).trees t.plan;
  spreads = t.spreads;
}

-- the row for a key goes
abbrev pub row_gone : ℕ → Plain → Turning → Turning
row_gone a k t = record {
  resident = record {
    got = t.resident.got;
    handles = remove_entry (is_at (order k)) t.resident.handles;
    facets = t.resident.facets;
  };
  plan = drop_met a (handle_for k t.resident.handles) t.plan;
  spreads = t.spreads;
}

-- a key is wanted no more
abbrev pub left : Behaviour → ℕ → Plain → Turning → Turning
left y a k t = releasing a (y.group k) (row_gone a k t)

-- a row of a group is to stand in their facet, which is made where it isn't there
abbrev pub allocating : ℕ → Option Plain → Turning → Turning
allocating a g t = record {
  resident = record {
    got = t.resident.got;
    handles = t.resident.handles;
    facets = (allocated a g t.resident.facets t.plan.table).facets;
  };
  plan = with_trees (allocated a g t.resident.facets t.plan.table).trees t.plan;
  spreads = t.spreads;
}

-- a row for a key comes under the next handle, in a facet that is there
abbrev pub row_come : ℕ → ℕ → Plain → Aim → Turning → Turning
row_come a facet k aim t = record {
  resident = record {
    got = t.resident.got;
    handles = insert_entry order t.resident.handles k t.plan.table.next;
    facets = t.resident.facets;
  };
  plan = put a facet aim.at.actor aim.at.entity aim.value t.plan;
  spreads = t.spreads;
}

-- none comes where what is wanted is refused on its way
abbrev pub came_at : ℕ → Option Plain → Plain → Option Aim → Turning → Turning
came_at a g k None t = t
came_at a g k (Some aim) t =
    row_come a (allocated a g t.resident.facets t.plan.table).facet k aim (allocating a g t)

-- a key is wanted now
abbrev pub came : Behaviour → ℕ → Plain → Turning → Turning
came y a k t = came_at a (y.group k) k (y.aim k) t

abbrev pub changed_by : Behaviour → ℕ → Change → Turning → Turning
changed_by y a (Left k) t = left y a k t
changed_by y a (Came k) t = came y a k t

abbrev pub all_changed : Behaviour → ℕ → List Change → Turning → Turning
all_changed y a [] t = t
all_changed y a (c ∷ cs) t = all_changed y a cs (changed_by y a c t)

abbrev pub with_rows : Rows → Turning → Turning
with_rows rows t =
    record t { resident = record { got = rows; handles = t.resident.handles; facets = t.resident.facets } }

-- what it has got changes, and with that its own rows for what it wants
abbrev pub regot : Behaviour → ℕ → Rows → Turning → Turning
regot y a rows t =
    all_changed y a (changes (y.keys (values_of t.resident.got)) (y.keys (values_of rows))) (with_rows rows t)

abbrev pub spreading : (List Spread → List Spread) → Turning → Turning
spreading change t = record t { spreads = change t.spreads }

-- a row comes or goes; one with which more would be wanted than may be is passed over
abbrev pub applied : Behaviour → ℕ → ℕ → SpaceEvent → Turning → Turning
applied y a from (Add h v) t =
    if nat_lt most_wanted_weight (y.weight (values_of (changed t.resident.got (Add h v))))
    then spreading (by_assertion t.plan.table a from (y.weight (values_of (changed t.resident.got (Add h v))))) t
    else regot y a (changed t.resident.got (Add h v)) t
applied y a from (Gone h) t = regot y a (changed t.resident.got (Gone h)) t

-- A row under a handle that is there is passed over. It doesn't come about, since each handle is drawn once.
abbrev pub taken_in : Behaviour → ℕ → ℕ → ℕ → Plain → Turning → Turning
taken_in y a from h v t = if has_row h t.resident.got then t else applied y a from (Add h v) t

-- what gets through is said to the object
abbrev pub say_at : Option Aim → Plan → Plan
say_at None p = p
say_at (Some aim) p = said aim.at.actor (Message aim.at.entity aim.value) p

-- the captures of a message go to each that observes it
abbrev pub say_all : List Definition → List Fanned → Plan → Plan
say_all ds [] p = p
say_all ds (f ∷ fs) p = say_all ds fs (say_at (aim_for ds (sequence (plains f.captures)) f.observe) p)

-- a message goes to all of them, or, where that would be too much, to none
abbrev pub passed_on : List Definition → ℕ → List Fanned → Turning → Turning
passed_on ds from fs t =
    if nat_lt most_wanted_weight (fanned_weight fs)
    then spreading (by_message t.plan.table from (fanned_weight fs)) t
    else record t { plan = say_all ds fs t.plan }

abbrev pub passes_on : Behaviour → ℕ → Plain → Turning → Turning
passes_on y from v t = passed_on y.schema from (y.fan (values_of t.resident.got) v) t

-- a sync is answered by the message `#t` through its peer
abbrev pub answer_to : List Definition → Plain → Plan → Plan
answer_to ds peer p = say_at (aim_at ds (boolean true) peer) p

abbrev pub turned_by : Behaviour → ℕ → ℕ → Event → Turning → Turning
turned_by y a from (Assert h entity v) t = taken_in y a from h v t
turned_by y a from (Retract h entity) t = applied y a from (Gone h) t
turned_by y a from (Message entity v) t = passes_on y from v t
turned_by y a from (Sync entity peer) t = record t { plan = answer_to y.schema peer t.plan }

abbrev pub all_turned : Behaviour → ℕ → ℕ → List Event → Turning → Turning
all_turned y a from [] t = t
all_turned y a from (e ∷ es) t = all_turned y a from es (turned_by y a from e t)

-- ---- turns

pub record After : Type 0 where
  pub world : WorldState
  pub turned : Turned

-- w is the world without the batch
abbrev pub begin_turn : ℕ → WorldState → Turning
begin_turn a w = record { resident = resident_of a w; plan = plan_over w.table; spreads = [] }

abbrev pub end_turn : ℕ → WorldState → Turning → After
end_turn a w t = record {
  world = record w { table = committed a t.plan; residents = with_entry a t.resident w.residents };
  turned = turned.Ran t.spreads;
}

abbrev pub system_turn : ℕ → Batch → WorldState → After
system_turn a b w =
    end_turn a w (all_turned (behaviour_of w.schema w.bindings w.watches a) a b.from b.events (begin_turn a w))

-- a connection takes its batch, which the hub sends
abbrev pub deliver : ℕ → List Event → WorldState → WorldState
deliver a es w = record w { held = with_entry a (all_delivered es (held_by a w)) w.held }

abbrev pub connection_turn : ℕ → Batch → WorldState → After
connection_turn a b w = record { world = deliver a b.events w; turned = turned.Taken b }

abbrev pub turn_with : ℕ → Batch → WorldState → After
turn_with a b w = if is_system a then system_turn a b w else connection_turn a b w

abbrev pub turn_first : ℕ → Option Batch → WorldState → After
turn_first a None w = record { world = w; turned = turned.Idle }
turn_first a (Some b) w = turn_with a b (record w { table = popped a w.table })

abbrev pub turn : ℕ → WorldState → After
turn a w =
    if is_live a w.table then turn_first a (first_batch a w.table) w else record { world = w; turned = turned.Gone }

-- the lowest system actor that has a batch takes its turn
abbrev pub work_of : Option ℕ → WorldState → After
work_of None w = record { world = w; turned = turned.Idle }
work_of (Some a) w = if is_system a then turn a w else record { world = w; turned = turned.Idle }

abbrev pub work : WorldState → After
work w = work_of (lowest w.table) w
