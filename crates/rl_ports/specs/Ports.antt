-- What a connection names by numbers of its own: references that it was told of, by the numbers of its exports, and its
-- assertions, by inbound handles. A reference is its value `[actor entity caveat ..]`. Syndicate Protocol, "wire
-- references"; the release of exports and the limits are this server's own.
use Rattle.std.specs.Prelude.{◌≡◌, ◌<◌, ℕ, ◌+◌, ◌-◌, ◌^◌, ◌==◌, ◌||◌, min, List, [], ◌∷◌, ◌++◌, length, filter}
use Rattle.std.specs.Prelude.{Bool, true, false, is_some, nat_lt, Option, Some, None, unwrap_or, if◌then◌else◌}
use Rattle.std.specs.List.{AllByRecursion, list_any}
use Rattle.std.specs.List.Sorted.{IsStrictlySortedBy}
use Rattle.std.specs.Map.{lookup, remove_entry, keys_of, values_of}
use Rattle.std.specs.BTreeMap.{insert_entry, is_at}
use Rattle.std.specs.Ordering.{nat_cmp}
use Rattle.pv_value.specs.Weight.{weight}
use Rattle.pv_value.specs.Plain.{Plain}
use Rattle.pv_words.specs.Parts.{same}
use Rattle.rl_packet.specs.declared.packets.Dialect.{Dialect}
use Rattle.rl_ports.specs.Limits.{most_exports, most_exports_weight}
pub use Rattle.rl_ports.specs.declared.ports.Inbound.{Inbound}
pub use Rattle.rl_ports.specs.declared.ports.Inbound.TheVariants.{Row, Refused}
pub use Rattle.rl_ports.specs.declared.ports.PortsFault.{PortsFault}
pub use Rattle.rl_ports.specs.declared.ports.PortsFault.TheVariants.{Exports, Weight, NoMemory}

-- the exports in force by their numbers, ascending, each reference once; and the number of the next one, which is above
-- all that were ever given
pub record ExportTable : Type 0 where
  pub in_force : List (ℕ × Plain)
  pub next : ℕ

-- The exports; the numbers of those that are pinned; which numbers each held row mentions, by its handle; what each
-- inbound handle in use stands for; and the dialect, where one is fixed.
pub record PortsState : Type 0 where
  pub exports : ExportTable
  pub pinned : List ℕ
  pub notes : List (ℕ × List ℕ)
  pub handles : List (ℕ × Inbound)
  pub dialect : Option Dialect

-- export 0 is the reference to the connection's first object, and is pinned
abbrev pub ports_to : Plain → PortsState
ports_to first = record {
  exports = record { in_force = (0, first) ∷ []; next = 1 };
  pinned = 0 ∷ [];
  notes = [];
  handles = [];
  dialect = None;
}

-- ---- the dialect

-- the first of two that is there
abbrev pub first_fixed : Option Dialect → Option Dialect → Option Dialect
first_fixed (Some d) e = Some d
first_fixed None e = e

-- a turn that has a dialect gives it to a connection that has none
abbrev pub speaking : Option Dialect → PortsState → PortsState
speaking d p = record p { dialect = first_fixed p.dialect d }

-- ---- handles

-- what a handle stands for, where it is in use
abbrev pub inbound_of : ℕ → PortsState → Option Inbound
inbound_of h p = lookup (is_at (nat_cmp h)) p.handles

abbrev pub is_in_use : ℕ → PortsState → Bool
is_in_use h p = is_some (inbound_of h p)

abbrev pub taken_into_use : ℕ → Inbound → PortsState → PortsState
taken_into_use h what p = record p { handles = insert_entry nat_cmp p.handles h what }

abbrev pub freed : ℕ → PortsState → PortsState
freed h p = record p { handles = remove_entry (is_at (nat_cmp h)) p.handles }

-- ---- exports

-- the numbers ascend, each of them below the next one, and each can stand in a value
pub record AreNumbered (x : ExportTable) : Type 0 where
  pub ascending : IsStrictlySortedBy nat_cmp (keys_of x.in_force)
  pub given : AllByRecursion (λ n. n < x.next) (keys_of x.in_force)
  pub few : x.next < 2 ^ 63

-- the export in force under this number
abbrev pub export_of : ℕ → ExportTable → Option Plain
export_of n x = lookup (is_at (nat_cmp n)) x.in_force

-- what stands under a number: an export in force, one that was released, or none that ever was
pub data Standing : Type 0 where
  current : (r : Plain) → Standing
  released : Standing
  never : Standing

abbrev pub standing_of : Option Plain → Bool → Standing
standing_of (Some r) issued = current r
standing_of None true = released
standing_of None false = never

-- each number below the next one was given
abbrev pub standing : ℕ → ExportTable → Standing
standing n x = standing_of (export_of n x) (nat_lt n x.next)

-- the number of an export, where it is one
abbrev pub place_of : Plain → List (ℕ × Plain) → Option ℕ
place_of r [] = None
place_of r (x ∷ xs) = if same r x.1 then Some x.0 else place_of r xs

-- with one export more, which has the next number
abbrev pub with_export : Plain → ExportTable → ExportTable
with_export r x = record { in_force = x.in_force ++ (x.next, r) ∷ []; next = x.next + 1 }

-- the same, where it isn't there
abbrev pub exported : Plain → ExportTable → ExportTable
exported r x = if is_some (place_of r x.in_force) then x else with_export r x

-- the number that an export has from then on
abbrev pub number_of : Plain → ExportTable → ℕ
number_of r x = unwrap_or (place_of r x.in_force) x.next

abbrev pub weight_of : List Plain → ℕ
weight_of [] = 0
weight_of (x ∷ xs) = weight x + weight_of xs

-- a weight as it is told: it stops at the greatest 64-bit number
abbrev pub told : ℕ → ℕ
told n = min n (2 ^ 64 - 1)

-- at most 4,096 exports in force, export 0 among them, which weigh at most 4,194,304 together
abbrev pub export_fault : List Plain → Option PortsFault
export_fault xs =
    if nat_lt most_exports (length xs) then Some (Exports (length xs))
    else if nat_lt most_exports_weight (told (weight_of xs)) then Some (Weight (told (weight_of xs))) else None

-- why an export more is refused: what is there already is never refused
abbrev pub fault_at : Plain → ExportTable → Option PortsFault
fault_at r x = if is_some (place_of r x.in_force) then None else export_fault (values_of x.in_force ++ r ∷ [])

abbrev pub with_exports : ExportTable → PortsState → PortsState
with_exports x p = record p { exports = x }

-- the fault is why; where memory ran out, nothing is said
abbrev pub IsWhy : Option PortsFault → PortsFault → Type 0
IsWhy why NoMemory = Unit {0}
IsWhy why f = why ≡ Some f

-- ---- the release of exports

-- whether a number is among these
abbrev pub has_number : ℕ → List ℕ → Bool
has_number n ns = list_any (λ m. m == n) ns

-- whether the note of a held row has the number
abbrev pub is_mentioned : ℕ → List (ℕ × List ℕ) → Bool
is_mentioned n notes = list_any (λ e. has_number n e.1) notes

-- the held row of this handle mentions these numbers, and no others
abbrev pub noted : ℕ → List ℕ → PortsState → PortsState
noted h oids p = record p { notes = insert_entry nat_cmp p.notes h oids }

-- there is no such row any more
abbrev pub forgotten : ℕ → PortsState → PortsState
forgotten h p = record p { notes = remove_entry (is_at (nat_cmp h)) p.notes }

-- those of these numbers that are in force are pinned too
abbrev pub pinned_with : List ℕ → PortsState → PortsState
pinned_with oids p = record p {
  pinned = filter (λ n. has_number n p.pinned || has_number n oids) (keys_of p.exports.in_force);
}

-- an export stays that is pinned, or that a held row mentions
abbrev pub stays : PortsState → ℕ → Bool
stays p n = has_number n p.pinned || is_mentioned n p.notes

-- all others are released
abbrev pub swept : PortsState → PortsState
swept p = record p {
  exports = record p.exports { in_force = filter (λ e. stays p e.0) p.exports.in_force };
}

-- each number in a note was given
abbrev pub AreGiven : ℕ → List ℕ → Type 0
AreGiven next ns = AllByRecursion (λ n. n < next) ns

abbrev pub NotesAreGiven : PortsState → Type 0
NotesAreGiven p = AllByRecursion (λ e. AreGiven p.exports.next e.1) p.notes
