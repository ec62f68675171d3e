-- The forms in which values are written, and what else is made of a value.
use Rattle.std.specs.Prelude.{◌≡◌, ℕ, ◌++◌, List, [], ◌∷◌, Bool, true, false, codes}
use Rattle.std.specs.List.{flat_map}
use Rattle.pv_value.specs.Plain.{Plain}
use Rattle.pv_binary.specs.Written.{written}
use Rattle.pv_canon.specs.Canonical.{canonical}
use Rattle.pv_print.specs.Lines.{line}
use Rattle.ps_schema.specs.declared.Definition.{Definition}
use Rattle.ps_schema.specs.Names.{knows}
use Rattle.ps_schema.specs.Conforms.{conforms}
use Rattle.dsd_top.specs.declared.forms.Form.{Form}
use Rattle.dsd_top.specs.declared.forms.Form.TheVariants.{Written, Canonical, Printed}
use Rattle.dsd_top.specs.declared.forms.Each.{Each}
use Rattle.dsd_top.specs.declared.forms.Each.TheVariants.{In, Verdict}

-- a printed value stands on a line of its own
abbrev pub in_form : Form → Plain → List ℕ
in_form Written v = written v
in_form Canonical v = canonical v
in_form Printed v = line v

-- whether a value conforms, on a line
abbrev pub verdict : Bool → List ℕ
verdict true = codes "yes" ++ 10 ∷ []
verdict false = codes "no" ++ 10 ∷ []

-- whether the value conforms to what the name stands for, on a line
abbrev pub verdict_by : List Definition → List ℕ → Plain → List ℕ
verdict_by ds name v = verdict (conforms ds name v)

-- what is made of each value
abbrev pub made_of : Each → Plain → List ℕ
made_of (In form) = in_form form
made_of (Verdict schema name) = verdict_by schema.now name.now

-- the schema that judges knows the name
abbrev pub IsKnown : Each → Type 0
IsKnown (In form) = Unit {0}
IsKnown (Verdict schema name) = knows schema.now name.now ≡ true

-- what is made of values, one behind another
abbrev pub made_of_all : (Plain → List ℕ) → List Plain → List ℕ
made_of_all make vs = flat_map make vs
