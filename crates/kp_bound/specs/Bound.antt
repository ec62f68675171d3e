-- The bindings of records.
use Rattle.std.specs.Prelude.{◌≡◌, ℕ, false, List, [], ◌∷◌, map, codes}
use Rattle.pv_value.specs.Plain.{Plain, plains, sequence}
use Rattle.pv_words.specs.Words.{labelled, number}
use Rattle.sr_caveat.specs.Caps.{Cap}
use Rattle.sr_caveat.specs.Written.{caveat_of}
use Rattle.gk_sturdy.specs.declared.bound.Binding.{Binding}
use Rattle.kp_keeper.specs.declared.records.Record.{Record}
use Rattle.kp_bound.specs.Spelled.{Parts, IsRecordOf, AreEach}

-- the reference to a dataspace itself with these caveats, of which a guard is unknown
abbrev pub cap_to : ℕ → List Plain → Cap
cap_to space cs = record { actor = space; entity = 0; caveats = map (caveat_of false) cs }

-- the binding of a record of these parts
abbrev pub binding_with : Record → Parts → Binding
binding_with r p = record { oid = p.oid; key = r.key; cap = cap_to r.space p.caveats }

abbrev pub IsBindingOf : Record → Binding → Type 0
IsBindingOf r b = (p : Parts) × IsRecordOf r p × (b ≡ binding_with r p)

-- one binding for each record, in order
abbrev pub AreBindingsOf : List Record → List Binding → Type 0
AreBindingsOf rs bs = AreEach IsBindingOf rs bs

-- what is shown of a record of these parts, without its key: `<binding oid space [caveat ..]>`
abbrev pub shown_with : Record → Parts → Plain
shown_with r p = labelled (codes "binding") (p.oid ∷ number r.space ∷ sequence (plains p.caveats) ∷ [])

abbrev pub IsShownOf : Record → Plain → Type 0
IsShownOf r v = (p : Parts) × IsRecordOf r p × (v ≡ shown_with r p)

-- one value for each record, in order
abbrev pub AreShownOf : List Record → List Plain → Type 0
AreShownOf rs vs = AreEach IsShownOf rs vs
