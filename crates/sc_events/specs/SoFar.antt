-- How far an input is read: the values so far, and what is left behind them.
use Rattle.std.specs.Prelude.{◌≡◌, ℕ, true, Option, Some, None, List, [], ◌∷◌, ◌++◌, length}
use Rattle.std.specs.Str.{IsUtf8}
use Rattle.pv_value.specs.Plain.{Plain}
use Rattle.pv_read.specs.Leading.{LeadsOver}
use Rattle.pv_binary.specs.Reads.{Leads}
use Rattle.pv_text.specs.Reads.{LeadsTo, IsNext}
use Rattle.sc_events.specs.declared.inputs.Form.{Form}
use Rattle.sc_events.specs.declared.inputs.Form.TheVariants as form
use Rattle.sc_events.specs.declared.inputs.Reading.{Reading}
use Rattle.sc_events.specs.declared.inputs.Reading.TheVariants.{Binary, Text, NoText}
use Rattle.sc_events.specs.declared.inputs.Values.{Values}
use Rattle.sc_events.specs.Inputs.{BeginNone}
use Rattle.sc_events.specs.TextInputs.{BeginNoText}
use Rattle.sc_events.specs.Readings.{AreReadAs}

abbrev pub form_of : Reading → Form
form_of Binary = form.Binary
form_of Text = form.Text
form_of NoText = form.Text

-- the values lead over the bytes to the rest; what is to be text and isn't UTF-8 has none
abbrev pub AreReadTo : Reading → List ℕ → List Plain → List ℕ → Type 0
AreReadTo Binary bytes vs rest = LeadsOver Leads bytes vs rest
AreReadTo Text bytes vs rest = IsUtf8 bytes × LeadsOver LeadsTo bytes vs rest
AreReadTo NoText bytes vs rest = (IsUtf8 bytes → ⊥) × (vs ≡ [])

-- of the input in this form these values are read, and the others are still to be read
pub record AreSoFar (f : Form) (bytes : List ℕ) (vs : List Plain) (values : Values) : Type 0 where
  pub form : form_of values.reading ≡ f
  pub total : values.total ≡ length bytes
  pub read : AreReadTo values.reading bytes vs values.rest.now

-- how many bytes are still to be read
abbrev pub left : Values → ℕ
left values = length values.rest.now

-- one value more is read; or these were all
abbrev pub GoOn : Form → List ℕ → List Plain → Option Plain → Values → Type 0
GoOn f bytes vs (Some v) now = AreSoFar f bytes (vs ++ v ∷ []) now
GoOn f bytes vs None now = AreReadAs f bytes vs true

-- ---- what is next in the bytes that are left

abbrev pub IsNextValue : List ℕ → Option (Plain × List ℕ) → Type 0
IsNextValue rest None = rest ≡ []
IsNextValue rest (Some x) = Leads rest x.0 x.1

abbrev pub IsNextAs : Reading → List ℕ → Option (Plain × List ℕ) → Type 0
IsNextAs Binary rest o = IsNextValue rest o
IsNextAs Text rest o = IsNext rest o
IsNextAs NoText rest o = ⊥

-- of an input of so many bytes these are left, and they begin with no value
abbrev pub StopAs : Reading → ℕ → List ℕ → Type 0
StopAs Binary total rest = BeginNone rest
StopAs Text total rest = BeginNoText total rest
StopAs NoText total rest = Unit {0}
