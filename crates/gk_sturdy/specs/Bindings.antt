-- What oids stand for: a key, under which references to them are signed, and the reference that these give.
use Rattle.std.specs.Prelude.{◌≡◌, List, [], ◌∷◌, ◌++◌, Bool, Option, Some, None, is_some, if◌then◌else◌}
use Rattle.pv_value.specs.Plain.{Plain}
use Rattle.pv_words.specs.Parts.{same}
pub use Rattle.gk_sturdy.specs.declared.bound.Binding.{Binding}

-- the binding of an oid, where it has one
abbrev pub binding_for : Plain → List Binding → Option Binding
binding_for oid [] = None
binding_for oid (b ∷ bs) = if same oid b.oid then Some b else binding_for oid bs

-- whether an oid has a binding
abbrev pub bound : Plain → List Binding → Bool
bound oid bs = is_some (binding_for oid bs)

-- with one binding more, behind the others, where its oid has none
abbrev pub with_binding : Binding → List Binding → List Binding
with_binding b bs = if bound b.oid bs then bs else bs ++ b ∷ []

-- no oid has two bindings
abbrev pub AreBoundOnce : List Binding → Type 0
AreBoundOnce [] = Unit {0}
AreBoundOnce (b ∷ bs) = (binding_for b.oid bs ≡ None) × AreBoundOnce bs
