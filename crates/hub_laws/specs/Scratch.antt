-- What a live connection holds once nothing is pending, from the rows, what is bound, the schema by which guards judge
-- and its exports alone. Syndicate Protocol, "dataspaces" and "gatekeeper": each observer is told of each distinct list
-- of captures of its observation, once, and who asks for a signed reference is told the reply, unless the caveats of
-- its own reference refuse it.
use Rattle.std.specs.Prelude.{ℕ, List, [], ◌∷◌, ◌++◌, map, not, ◌==◌, ◌&&◌, nat_le, Option, Some, None, filter}
use Rattle.std.specs.Prelude.{if◌then◌else◌}
use Rattle.std.specs.List.{flat_map}
use Rattle.pv_value.specs.Plain.{Plain, sequence, plains}
use Rattle.dp_pattern.specs.Patterns.{Pattern}
use Rattle.pv_words.specs.Parts.{same}
use Rattle.ps_schema.specs.declared.Definition.{Definition}
use Rattle.dp_pattern.specs.Matching.{matched}
use Rattle.ds_space.specs.Wants.{observer_of}
use Rattle.ac_table.specs.declared.batches.Row.{Row}
use Rattle.ac_world.specs.declared.aims.Aim.{Aim}
use Rattle.gk_sturdy.specs.declared.bound.Binding.{Binding}
use Rattle.ac_world.specs.Aims.{aim_at, observer_in}
use Rattle.ac_world.specs.Behaviours.{asks, answer_for}
use Rattle.ac_world.specs.Worlds.{actor_of}
use Rattle.rl_ports.specs.Ports.{PortsState, ExportTable}
use Rattle.rl_wire.specs.Crossing.{crossed_out}
use Rattle.hub_machine.specs.State.{State, ports_of}

-- an object of the connection's, and what is asserted there, as the connection knows it
pub record Pair : Type 0 where
  pub oid : ℕ
  pub value : Plain

-- each value once
abbrev pub distinct : List Plain → List Plain
distinct [] = []
distinct (v ∷ vs) = v ∷ filter (λ w. not (same v w)) (distinct vs)

-- the values that are asserted at an actor
abbrev pub asserted_at : ℕ → List Row → List Plain
asserted_at a rows = map (λ r. r.value) (filter (λ r. r.target == a) rows)

abbrev pub as_sequence : Option (List Plain) → List Plain
as_sequence None = []
as_sequence (Some cs) = sequence (plains cs) ∷ []

-- the lists of captures of a pattern, over values
abbrev pub captures_by : Pattern → List Plain → List Plain
captures_by p vs = flat_map (λ v. as_sequence (matched p v)) vs

-- a value at an object of connection k, which has these exports
abbrev pub pair_at : ExportTable → ℕ → ℕ → Plain → Pair
pair_at exports k entity v = record { oid = entity; value = crossed_out exports k v }

-- what gets through to an object, where it is one of connection k's
abbrev pub pair_aimed : ExportTable → ℕ → Option Aim → List Pair
pair_aimed exports k None = []
pair_aimed exports k (Some aim) =
    if aim.at.actor == actor_of k then pair_at exports k aim.at.entity aim.value ∷ [] else []

-- an observer holds each distinct list of captures, as its reference's caveats let it pass
abbrev pub told_by : List Definition → ExportTable → ℕ → List Plain → Option Plain → Option Pattern → List Pair
told_by ds exports k vs (Some r) (Some p) =
    flat_map (λ c. pair_aimed exports k (aim_at ds c r)) (distinct (captures_by p vs))
told_by ds exports k vs (Some r) None = []
told_by ds exports k vs None o = []

-- for each distinct observation among the values at a dataspace
abbrev pub told_over : List Definition → ExportTable → ℕ → List Plain → List Pair
told_over ds exports k vs = flat_map (λ o. told_by ds exports k vs (observer_in o) (observer_of o)) (distinct vs)

-- the reply of the gatekeeper to one that asks
abbrev pub told_reply : List Definition → ExportTable → ℕ → List Binding → Plain → List Pair
told_reply ds exports k bs v = if asks v then pair_aimed exports k (answer_for ds bs v) else []

-- to each distinct value that asks
abbrev pub told_replies : List Definition → ExportTable → ℕ → List Binding → List Plain → List Pair
told_replies ds exports k bs vs = flat_map (told_reply ds exports k bs) (distinct vs)

-- and what connections assert at it directly
abbrev pub told_directly : ExportTable → ℕ → List Row → List Pair
told_directly exports k rows =
    map (λ r. pair_at exports k r.entity r.value)
    (filter (λ r. (r.target == actor_of k) && nat_le 17 r.owner) rows)

abbrev pub dataspaces : List ℕ
dataspaces = 1 ∷ 2 ∷ 3 ∷ 4 ∷ 5 ∷ 6 ∷ 7 ∷ 8 ∷ []

abbrev pub scratch_at : List Definition → ExportTable → ℕ → List Binding → List Row → List Pair
scratch_at ds exports k bs rows =
    told_replies ds exports k bs (asserted_at 0 rows)
    ++ flat_map (λ d. told_over ds exports k (asserted_at d rows)) dataspaces ++ told_directly exports k rows

abbrev pub exports_in : Option PortsState → ExportTable
exports_in None = record { in_force = []; next = 0 }
exports_in (Some ports) = ports.exports

-- the exports of a live connection
abbrev pub exports_of : ℕ → State → ExportTable
exports_of k s = exports_in (ports_of k s)

-- connection k, from scratch: from the rows, what is bound, the schema and its exports alone
abbrev pub scratch : ℕ → State → List Pair
scratch k s = scratch_at s.world.schema (exports_of k s) k s.world.bindings s.world.table.rows
