-- What stands at an actor, and what it keeps of the events that tell it.
use Rattle.std.specs.Prelude.{ℕ, List, [], ◌∷◌, ◌==◌, if◌then◌else◌}
use Rattle.std.specs.List.{flat_map}
use Rattle.pv_value.specs.Plain.{Plain}
use Rattle.ac_table.specs.declared.batches.Row.{Row}
use Rattle.ac_table.specs.declared.batches.Event.{Event}
use Rattle.ac_table.specs.declared.batches.Event.TheVariants.{Assert, Retract, Message, Sync}
use Rattle.ac_table.specs.declared.batches.Batch.{Batch}
use Rattle.ac_world.specs.Worlds.{with_entry, without_entry}
use Rattle.ac_world.specs.declared.held.Held.{Held}

-- the rows at an actor by handle, as f keeps an object and a value
abbrev pub stands : {X : Type 0} → (ℕ → Plain → X) → ℕ → List Row → List (ℕ × X)
stands f a [] = []
stands f a (r ∷ rs) =
    if r.target == a then (r.handle, f r.entity r.value) ∷ stands f a rs else stands f a rs

-- what is kept after one event more
abbrev pub took : {X : Type 0} → (ℕ → Plain → X) → Event → List (ℕ × X) → List (ℕ × X)
took f (Assert h entity v) got = with_entry h (f entity v) got
took f (Retract h entity) got = without_entry h got
took f (Message entity v) got = got
took f (Sync entity peer) got = got

abbrev pub took_all : {X : Type 0} → (ℕ → Plain → X) → List Event → List (ℕ × X) → List (ℕ × X)
took_all f [] got = got
took_all f (e ∷ es) got = took_all f es (took f e got)

-- the events of an inbox, in order
abbrev pub events_of : List Batch → List Event
events_of bs = flat_map (λ b. b.events) bs

-- a system actor keeps the value alone, a connection the object too
abbrev pub value_alone : ℕ → Plain → Plain
value_alone entity v = v

abbrev pub at_object : ℕ → Plain → Held
at_object entity v = record { entity = entity; value = v }
