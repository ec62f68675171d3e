-- What each event of a batch tells others, in the turn of a system actor. Syndicate Protocol, "turns" and "dataspaces".
use Rattle.std.specs.Prelude.{ℕ, ◌+◌, Bool, true, ◌||◌, ◌&&◌, ◌==◌, not, nat_lt, List, [], ◌∷◌, ◌++◌, Option, Some, None}
use Rattle.std.specs.Prelude.{if◌then◌else◌}
use Rattle.std.specs.List.{flat_map}
use Rattle.std.specs.Map.{values_of}
use Rattle.pv_value.specs.Plain.{Plain, boolean}
use Rattle.ps_schema.specs.declared.Definition.{Definition}
use Rattle.ds_space.specs.Changes.{without}
use Rattle.ds_space.specs.Fans.{fan_weight}
use Rattle.ds_space.specs.Limits.{most_wanted_weight}
use Rattle.ds_space.specs.Spaces.{Rows, changed, has_row}
use Rattle.ds_space.specs.declared.space.SpaceEvent.TheVariants.{Add, Gone}
use Rattle.ac_table.specs.declared.batches.Event.{Event}
use Rattle.ac_table.specs.declared.batches.Event.TheVariants.{Assert, Retract, Message, Sync}
use Rattle.ac_world.specs.declared.aims.Aim.{Aim}
use Rattle.ac_world.specs.Aims.{aim_at}
use Rattle.ac_world.specs.Behaviours.{Behaviour}
use Rattle.ac_world.specs.Turns.{Turning, handle_for, turned_by}
use Rattle.ac_world.specs.Worlds.{is_space}
use Rattle.hub_laws.specs.Saying.{message_aimed, messages_over}

-- ---- rows go and come

-- the keys that an actor wants over the one's values, and not over the other's
abbrev pub wanted_alone : Behaviour → Rows → Rows → List Plain
wanted_alone y rows others = without (y.keys (values_of rows)) (y.keys (values_of others))

-- of a key's row, under the handle that is kept for the key, the retraction, where it is at actor b
abbrev pub taken_back : ℕ → Option ℕ → Option Aim → List Event
taken_back b None aim = []
taken_back b (Some h) None = []
taken_back b (Some h) (Some aim) = if aim.at.actor == b then Retract h aim.at.entity ∷ [] else []

-- of a key's row, under the next handle n, the assertion, where it is at actor b; none where what is wanted is refused
abbrev pub put_at : ℕ → ℕ → Option Aim → List Event
put_at b n None = []
put_at b n (Some aim) = if aim.at.actor == b then Assert n aim.at.entity aim.value ∷ [] else []

-- the handle that is next then
abbrev pub drawn : ℕ → Option Aim → ℕ
drawn n None = n
drawn n (Some aim) = n + 1

-- for each key, in their order, from the next handle on
abbrev pub all_put : Behaviour → ℕ → ℕ → List Plain → List Event
all_put y b n [] = []
all_put y b n (k ∷ ks) = put_at b n (y.aim k) ++ all_put y b (drawn n (y.aim k)) ks

-- what the actor has got becomes these rows: first the rows go of keys that it wants no more, and then those come of
-- keys that are new, on each side in the order of the keys
abbrev pub told_of_change : Behaviour → ℕ → Rows → Turning → List Event
told_of_change y b rows t =
    flat_map (λ k. taken_back b (handle_for k t.resident.handles) (y.aim k)) (wanted_alone y t.resident.got rows)
    ++ all_put y b t.plan.table.next (wanted_alone y rows t.resident.got)

-- ---- each kind of event

-- an assertion changes nothing where its handle is taken, or where more would be wanted than may be
abbrev pub is_passed_over : Behaviour → ℕ → Plain → Rows → Bool
is_passed_over y h v got =
    has_row h got || nat_lt most_wanted_weight (y.weight (values_of (changed got (Add h v))))

-- a message that comes to actor a tells b this, over the values that a has got: a dataspace passes it on, unless that
-- weighs more than may be, and the gatekeeper and watchers drop it
abbrev pub said_to : List Definition → ℕ → ℕ → List Plain → Plain → List Event
said_to ds a b vs m =
    if is_space a && not (nat_lt most_wanted_weight (fan_weight vs m)) then messages_over ds b vs m else []

-- an event tells actor b this, in the turn as it is so far; what a message tells is given
abbrev pub told_of : Behaviour → (List Plain → Plain → List Event) → ℕ → Event → Turning → List Event
told_of y said b (Assert h entity v) t =
    if is_passed_over y h v t.resident.got then [] else told_of_change y b (changed t.resident.got (Add h v)) t
told_of y said b (Retract h entity) t = told_of_change y b (changed t.resident.got (Gone h)) t
told_of y said b (Message entity m) t = said (values_of t.resident.got) m
told_of y said b (Sync entity peer) t = message_aimed b (aim_at y.schema (boolean true) peer)

-- the events of a batch tell b this, one after the other, each in the turn as those before it leave it
abbrev pub all_told_of : Behaviour → (List Plain → Plain → List Event) → ℕ → ℕ → ℕ → List Event → Turning
    → List Event
all_told_of y said b a from [] t = []
all_told_of y said b a from (e ∷ es) t =
    told_of y said b e t ++ all_told_of y said b a from es (turned_by y a from e t)

-- and leave the actor with these rows
abbrev pub got_with : Behaviour → Event → Rows → Rows
got_with y (Assert h entity v) got = if is_passed_over y h v got then got else changed got (Add h v)
got_with y (Retract h entity) got = changed got (Gone h)
got_with y (Message entity m) got = got
got_with y (Sync entity peer) got = got

abbrev pub got_with_all : Behaviour → List Event → Rows → Rows
got_with_all y [] got = got
got_with_all y (e ∷ es) got = got_with_all y es (got_with y e got)
