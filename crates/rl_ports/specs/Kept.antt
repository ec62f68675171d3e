-- How exports are kept: in the order of their numbers, each with its pin and how often notes mention it; what they weigh
-- together; and a map that has each reference's number.
use Rattle.std.specs.Prelude.{◌≡◌, ℕ, ◌+◌, ◌-◌, ◌<◌, ◌≤◌, ◌==◌, ◌||◌, ◌&&◌, not, List, [], ◌∷◌, length, map, filter}
use Rattle.std.specs.Prelude.{nat_lt, nat_le, Bool, true, false, Option, Some, None, if◌then◌else◌}
use Rattle.std.specs.BTreeMap.{is_at}
use Rattle.std.specs.List.{AllByRecursion, list_any, sum_by}
use Rattle.std.specs.Map.{lookup, keys_of, values_of}
use Rattle.std.specs.Ordering.{nat_cmp}
use Rattle.pv_value.specs.Plain.{Plain}
use Rattle.pv_value.specs.Order.{order}
use Rattle.rl_ports.specs.Limits.{most_exports, most_exports_weight}
use Rattle.rl_ports.specs.Ports.{ExportTable, AreNumbered, PortsFault, Exports, Weight, place_of, weight_of, told}
use Rattle.rl_ports.specs.Ports.{has_number, AreGiven}
pub use Rattle.rl_ports.specs.declared.marking.Export.{Export}

-- what is kept, and the number of the next export
pub record Listed : Type 0 where
  pub kept : List (ℕ × Export)
  pub next : ℕ

abbrev pub shown : List (ℕ × Export) → List (ℕ × Plain)
shown kept = map (λ e. (e.0, e.1.reference)) kept

abbrev pub table_of : Listed → ExportTable
table_of x = record { in_force = shown x.kept; next = x.next }

-- the numbers of those that are pinned
abbrev pub pins : List (ℕ × Export) → List ℕ
pins kept = keys_of (filter (λ e. e.1.pinned) kept)

abbrev pub new_export : Bool → Plain → Export
new_export pinned r = record { reference = r; pinned = pinned; mentions = 0 }

-- ---- the map of numbers, the sum and the limits

-- the number that the map has at a reference
abbrev pub number_at : Plain → List (Plain × ℕ) → Option ℕ
number_at r numbers = lookup (is_at (order r)) numbers

-- no reference stands twice
abbrev pub AreOnce : List (ℕ × Plain) → Type 0
AreOnce [] = Unit {0}
AreOnce (x ∷ xs) = (place_of x.1 xs ≡ None) × AreOnce xs

pub record IsKept (x : ExportTable) (numbers : List (Plain × ℕ)) (sum : ℕ) : Type 0 where
  pub few : length x.in_force ≤ most_exports
  pub once : AreOnce x.in_force
  pub order : AreNumbered x
  pub numbered : (r : Plain) → number_at r numbers ≡ place_of r x.in_force
  pub sum_is : sum ≡ told (weight_of (values_of x.in_force))
  -- the first one weighs what it does, and none is put behind it where they would be too heavy
  pub light : 1 < length x.in_force → weight_of (values_of x.in_force) ≤ most_exports_weight

-- export 0 is there, and is pinned
abbrev pub IsFirstPinned : List (ℕ × Export) → Type 0
IsFirstPinned [] = ⊥
IsFirstPinned (e ∷ es) = (e.0 ≡ 0) × (e.1.pinned ≡ true)

-- why so many exports, of this weight, are too many or too heavy
abbrev pub fault_of : ℕ → ℕ → Option PortsFault
fault_of count sum =
    if nat_lt most_exports count then Some (Exports count)
    else if nat_lt most_exports_weight sum then Some (Weight sum) else None

-- ---- pins and mentions

-- how often a number stands among these
abbrev pub times : ℕ → List ℕ → ℕ
times n [] = 0
times n (m ∷ ms) = (if m == n then 1 else 0) + times n ms

-- what f makes of the export of this number
abbrev pub at_number : (Export → Export) → ℕ → ℕ × Export → ℕ × Export
at_number f n e = (e.0, if n == e.0 then f e.1 else e.1)

abbrev pub at_numbers : (Export → Export) → List ℕ → List (ℕ × Export) → List (ℕ × Export)
at_numbers f [] kept = kept
at_numbers f (n ∷ ns) kept = at_numbers f ns (map (at_number f n) kept)

abbrev pub raised : Export → Export
raised e = record e { mentions = e.mentions + 1 }

abbrev pub lowered : Export → Export
lowered e = record e { mentions = e.mentions - 1 }

abbrev pub with_pin : Export → Export
with_pin e = record e { pinned = true }

-- an export that goes: it isn't pinned, and no note mentions it
abbrev pub is_idle : Export → Bool
is_idle e = not e.pinned && e.mentions == 0

abbrev pub is_idle_where : Option Export → Bool
is_idle_where None = false
is_idle_where (Some e) = is_idle e

-- without those that are idle, of the numbers that pass the test
abbrev pub released_where : (ℕ → Bool) → List (ℕ × Export) → List (ℕ × Export)
released_where test kept = filter (λ e. not (test e.0 && is_idle e.1)) kept

-- ---- notes

abbrev pub note_of : ℕ → List (ℕ × List ℕ) → Option (List ℕ)
note_of h notes = lookup (is_at (nat_cmp h)) notes

-- how often notes mention a number, each of them once at most
abbrev pub mentions : ℕ → List (ℕ × List ℕ) → ℕ
mentions n notes = sum_by (times n) (values_of notes)

-- whether the number is one that may be idle: it came since the last sweep, or a note went that mentioned it
abbrev pub is_left : ℕ → List (List ℕ) → ℕ → Bool
is_left settled dropped n = nat_le settled n || list_any (has_number n) dropped

-- Each export has the count of the notes that mention it; notes have numbers that were given, each once; those that are
-- idle are known; and there is room for each note among those that went.
pub record AreCounted (x : Listed) (notes : List (ℕ × List ℕ)) (settled : ℕ) (dropped : List (List ℕ)) (room : ℕ)
    : Type 0 where
  pub counted : AllByRecursion (λ e. e.1.mentions ≡ mentions e.0 notes) x.kept
  pub given : AllByRecursion (λ e. AreGiven x.next e.1) notes
  pub once : AllByRecursion (λ e. (n : ℕ) → times n e.1 ≤ 1) notes
  pub left : AllByRecursion (λ e. is_idle e.1 ≡ true → is_left settled dropped e.0 ≡ true) x.kept
  pub within : settled ≤ x.next
  pub roomy : length dropped + length notes ≤ room
