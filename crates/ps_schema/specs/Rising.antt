-- Ranks of names, which don't fall along ways: a name from which they rise at once doesn't lead back to itself.
use Rattle.std.specs.Prelude.{◌≡◌, ◌+◌, ◌≤◌, ℕ, Bool, true, List, Option, Some, None, get_or}
use Rattle.ps_schema.specs.Places.{place_of}
use Rattle.ps_schema.specs.Schemas.{leads}
use Rattle.ps_schema.specs.declared.Definition.{Definition}

abbrev pub rank_at : List ℕ → Option ℕ → ℕ
rank_at ranks None = 0
rank_at ranks (Some i) = get_or ranks i 0

-- the rank of a name, by the ranks of all definitions
abbrev pub rank : List Definition → List ℕ → List ℕ → ℕ
rank ds ranks a = rank_at ranks (place_of ds a)

-- all these names have at least this rank
abbrev pub AreAbove : List Definition → List ℕ → ℕ → (List ℕ → Bool) → Type 0
AreAbove ds ranks least asked = (b : List ℕ) → asked b ≡ true → least ≤ rank ds ranks b

-- the names to which the name leads at once are higher by so much
abbrev pub Rises : List Definition → List ℕ → ℕ → List ℕ → Type 0
Rises ds ranks by a = AreAbove ds ranks (rank ds ranks a + by) (leads ds a)
