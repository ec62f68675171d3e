-- What an input in text holds: values one behind another, to its end or to where reading it stops.
use Rattle.std.specs.Prelude.{ℕ, Bool, true, false, List, length}
use Rattle.pv_value.specs.Plain.{Plain}
use Rattle.pv_read.specs.Leading.{LeadsOver}
use Rattle.pv_text.specs.OneWay.{HasFault}
use Rattle.pv_text.specs.Reads.{LeadsTo, AreValues}

-- of a text of so many bytes these are the last; a value is due in them, and they begin with none
abbrev pub BeginNoText : ℕ → List ℕ → Type 0
BeginNoText total bytes = HasFault total bytes × ((v : Plain) (more : List ℕ) → LeadsTo bytes v more → ⊥)

-- after these values reading stops
abbrev pub TextStopsAfter : List ℕ → List Plain → Type 0
TextStopsAfter text vs = (rest : List ℕ) × LeadsOver LeadsTo text vs rest × BeginNoText (length text) rest

-- the values up to the end of the text, or to where reading stops
abbrev pub AreTextRead : List ℕ → List Plain → Bool → Type 0
AreTextRead text vs true = AreValues text vs
AreTextRead text vs false = TextStopsAfter text vs
