-- How rows are kept: beside them stands how many have each value.
use Rattle.std.specs.Prelude.{◌≡◌, ℕ, zero, suc, List, [], ◌∷◌, Option, Some, None, if◌then◌else◌}
use Rattle.std.specs.BTreeMap.{is_at}
use Rattle.std.specs.Map.{lookup, values_of}
use Rattle.pv_value.specs.Plain.{Plain}
use Rattle.pv_value.specs.Order.{order}
use Rattle.pv_words.specs.Parts.{same}

-- how often a value stands in a list
abbrev pub times : Plain → List Plain → ℕ
times v [] = zero
times v (x ∷ xs) = if same v x then suc (times v xs) else times v xs

-- a count as it is kept: 0 isn't
abbrev pub kept : ℕ → Option ℕ
kept zero = None
kept (suc n) = Some (suc n)

-- the count that is kept under a value
abbrev pub count_at : Plain → List (Plain × ℕ) → Option ℕ
count_at v counts = lookup (is_at (order v)) counts

-- under each value stands exactly the number of the rows that have it, and nothing under one that no row has
abbrev pub AreCounted : List (ℕ × Plain) → List (Plain × ℕ) → Type 0
AreCounted rows counts = (v : Plain) → count_at v counts ≡ kept (times v (values_of rows))
