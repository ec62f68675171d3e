-- What an input holds: values one behind another, to its end or to where it goes on with none.
use Rattle.std.specs.Prelude.{◌≢◌, ℕ, Bool, true, false, List, []}
use Rattle.pv_value.specs.Plain.{Plain}
use Rattle.pv_read.specs.Leading.{LeadsOver}
use Rattle.pv_binary.specs.Reads.{Leads}

-- the bytes are these values
abbrev pub AreValues : List ℕ → List Plain → Type 0
AreValues bytes vs = LeadsOver Leads bytes vs []

-- bytes are left that begin with no value
abbrev pub BeginNone : List ℕ → Type 0
BeginNone bytes = (bytes ≢ []) × ((v : Plain) (more : List ℕ) → Leads bytes v more → ⊥)

-- after these values bytes are left that begin with none
abbrev pub StopAfter : List ℕ → List Plain → Type 0
StopAfter bytes vs = (rest : List ℕ) × LeadsOver Leads bytes vs rest × BeginNone rest

-- the values up to the end of the bytes, or to where these go on with none
abbrev pub AreRead : List ℕ → List Plain → Bool → Type 0
AreRead bytes vs true = AreValues bytes vs
AreRead bytes vs false = StopAfter bytes vs
