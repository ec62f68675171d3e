-- What a connection can name: its first object, and the references of others of which it was told, as long as a row
-- that it has got mentions them or they are pinned.
use Rattle.std.specs.Prelude.{◌≡◌, ℕ, ◌==◌, ◌||◌, true, List, [], ◌∷◌, ◌++◌, length, Bool, Option, Some, None}
use Rattle.std.specs.Prelude.{is_some, slice_get, if◌then◌else◌}
use Rattle.std.specs.List.{AllByRecursion, list_any}
use Rattle.std.specs.Option.{option_or}
use Rattle.pv_value.specs.Plain.{Plain}
use Rattle.pv_words.specs.Parts.{same}
use Rattle.ps_schema.specs.declared.Definition.{Definition}
use Rattle.ac_table.specs.declared.batches.Batch.{Batch}
use Rattle.ac_table.specs.Tables.{first_batch}
use Rattle.ac_world.specs.Worlds.{Deliveries, actor_of}
use Rattle.rl_packet.specs.declared.packets.Packet.TheVariants as packet
use Rattle.rl_ports.specs.Ports.{PortsState, ExportTable, ports_to, export_of, place_of, has_number}
use Rattle.rl_wire.specs.Crossing.{foreign_in}
use Rattle.hub_machine.specs.State.{State, opening}
use Rattle.hub_machine.specs.Machine.{step, names_after, actor_reference}
use Rattle.hub_machine.specs.declared.steps.Step.{Step}
use Rattle.hub_machine.specs.declared.steps.Step.TheVariants.{Arrive, Turn}
use Rattle.hub_machine.specs.declared.steps.Reply.{Reply}
use Rattle.hub_machine.specs.declared.steps.Reply.TheVariants.{Opened, Sent}

-- ---- of what a connection was told

-- the batch that a turn sent
abbrev pub batch_sent : Option Batch → Reply → List Batch
batch_sent (Some b) (Sent (packet.Turn t)) = b ∷ []
batch_sent o r = []

-- the batch that a step sent to connection k
abbrev pub told_by : ℕ → State → Step → List Batch
told_by k s (Turn a) =
    if a == actor_of k then batch_sent (first_batch a s.world.table) (step s (Turn a)).reply else []
told_by k s e = []

abbrev pub told_from : ℕ → State → List Step → List Batch
told_from k s [] = []
told_from k s (e ∷ es) = told_by k s e ++ told_from k (step s e).state es

-- ---- its first object

abbrev pub opened_as : ℕ → ℕ → Reply → Option Plain
opened_as k space (Opened n) = if n == k then Some (actor_reference space) else None
opened_as k space r = None

-- the object 0 that an arrival gives to connection k
abbrev pub first_by : ℕ → State → Step → Option Plain
first_by k s (Arrive space) = opened_as k space (step s (Arrive space)).reply
first_by k s e = None

abbrev pub first_from : ℕ → State → List Step → Option Plain
first_from k s [] = None
first_from k s (e ∷ es) = option_or (first_by k s e) (first_from k (step s e).state es)

-- ---- what it names

-- what connection k names once it is told these batches, one after the other
abbrev pub told_names : ℕ → List Batch → PortsState → PortsState
told_names k [] p = p
told_names k (b ∷ bs) p = told_names k bs (names_after k b p)

-- the same exports, pins and notes
abbrev pub NameAlike : PortsState → PortsState → Type 0
NameAlike p q = (p.exports ≡ q.exports) × (p.pinned ≡ q.pinned) × (p.notes ≡ q.notes)

-- it names what the batches that it was told make of its first object
abbrev pub AreItsOwn : List Definition → ℕ → List Step → PortsState → Type 0
AreItsOwn ds k steps p =
    (first : Plain) × (first_from k (opening ds) steps ≡ Some first)
    × NameAlike p (told_names k (told_from k (opening ds) steps) (ports_to first))

-- whether the reference stands in a row that connection k has got; those to its own objects without caveats excepted
abbrev pub is_held : ℕ → Deliveries → Plain → Bool
is_held k got r = list_any (λ e. list_any (same r) (foreign_in k e.1.value)) got

-- The exports in force are exactly object 0, the references of others in what connection k has got, and those whose
-- numbers are pinned.
pub record AreInForce (k : ℕ) (first : Plain) (p : PortsState) (got : Deliveries) : Type 0 where
  pub first_there : export_of 0 p.exports ≡ Some first
  pub first_pinned : has_number 0 p.pinned ≡ true
  pub pinned : AllByRecursion (λ n. is_some (export_of n p.exports) ≡ true) p.pinned
  pub held : AllByRecursion
      (λ e. AllByRecursion (λ r. is_some (place_of r p.exports.in_force) ≡ true) (foreign_in k e.1.value)) got
  pub no_other : AllByRecursion (λ e. (has_number e.0 p.pinned || is_held k got e.1) ≡ true) p.exports.in_force

-- The exports are among all references that were ever given numbers, each under its own; and the next number is the next
-- of these.
pub record AreAmongGiven (given : List Plain) (x : ExportTable) : Type 0 where
  pub next : length given ≡ x.next
  pub in_force : AllByRecursion (λ e. slice_get given e.0 ≡ Some e.1) x.in_force
