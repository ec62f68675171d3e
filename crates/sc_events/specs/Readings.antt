-- What is read of an input, in either form.
use Rattle.std.specs.Prelude.{◌≡◌, ℕ, ◌⊎◌, Bool, false, List, []}
use Rattle.std.specs.Str.{IsUtf8}
use Rattle.pv_value.specs.Plain.{Plain}
use Rattle.sc_events.specs.declared.inputs.Form.{Form}
use Rattle.sc_events.specs.declared.inputs.Form.TheVariants.{Binary, Text}
use Rattle.sc_events.specs.Inputs.{AreRead}
use Rattle.sc_events.specs.TextInputs.{AreTextRead}

-- no value is read of what isn't UTF-8
abbrev pub IsNoText : List ℕ → List Plain → Bool → Type 0
IsNoText text vs whole = (IsUtf8 text → ⊥) × (vs ≡ []) × (whole ≡ false)

-- the values up to the end of the input, or to where it goes on with none
abbrev pub AreReadAs : Form → List ℕ → List Plain → Bool → Type 0
AreReadAs Binary bytes vs whole = AreRead bytes vs whole
AreReadAs Text text vs whole = (IsUtf8 text × AreTextRead text vs whole) ⊎ IsNoText text vs whole
