-- Laws of the definitions.
use Rattle.std.specs.Prelude.{◌≡◌, ℕ, Bool, false, List, [], ◌∷◌, ◌++◌, Some}
use Rattle.pv_value.specs.Plain.{Plain}
use Rattle.sr_caveat.specs.Patterns.{attenuate, binding, constant, record_from, sequence_from, dictionary_of}
use Rattle.sr_caveat.specs.Patterns.{Template, Templates, no_templates, then_template}
use Rattle.sr_caveat.specs.Patterns.{Caveat, rewrite, one_of, reject, guard}
use Rattle.sr_caveat.specs.Patterns.{Caveats, no_caveats, then_caveat, Rewrites, no_rewrites, then_rewrite}
use Rattle.sr_caveat.specs.Written.{caveat_of}
use Rattle.sr_caveat.specs.Caps.{Cap, cap_of, cap_value, IsReadBack}

-- ---- guards

-- the names of the guards in a caveat, those inside `attenuate` of its templates among them
abbrev mutual
  pub guards_in_template : Template → List (List ℕ)
  guards_in_template (attenuate t cs) = guards_in_template t ++ guards_in_caveats cs
  guards_in_template (binding n) = []
  guards_in_template (constant v) = []
  guards_in_template (record_from l ts) = guards_in_templates ts
  guards_in_template (sequence_from ts) = guards_in_templates ts
  guards_in_template (dictionary_of ks ts) = guards_in_templates ts

  pub guards_in_templates : Templates → List (List ℕ)
  guards_in_templates no_templates = []
  guards_in_templates (then_template t ts) = guards_in_template t ++ guards_in_templates ts

  pub guards_in : Caveat → List (List ℕ)
  guards_in (rewrite p t) = guards_in_template t
  guards_in (one_of rs) = guards_in_rewrites rs
  guards_in (reject p) = []
  guards_in (guard name) = name ∷ []

  pub guards_in_caveats : Caveats → List (List ℕ)
  guards_in_caveats no_caveats = []
  guards_in_caveats (then_caveat c cs) = guards_in c ++ guards_in_caveats cs

  pub guards_in_rewrites : Rewrites → List (List ℕ)
  guards_in_rewrites no_rewrites = []
  guards_in_rewrites (then_rewrite p t rs) = guards_in_template t ++ guards_in_rewrites rs

-- what was read from the wire holds no guard
abbrev pub NoGuardFromTheWire : Type 0
NoGuardFromTheWire = (v : Plain) → guards_in (caveat_of false v) ≡ []

-- ---- references

-- a caveat that was read is read back from its value
abbrev pub CaveatsAreReadBack : Type 0
CaveatsAreReadBack = (own : Bool) (v : Plain) → IsReadBack (caveat_of own v)

-- a value that is read as a reference is the value of it. That a reference is read from its value is what `to_value` of
-- a reference says
abbrev pub CapsAreTheirValues : Type 0
CapsAreTheirValues = (v : Plain) (c : Cap) → cap_of v ≡ Some c → v ≡ cap_value c
