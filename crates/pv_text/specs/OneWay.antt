-- The last bytes of a text are a gap alone, or begin a value, or stop at one fault, and only one of the three.
use Rattle.std.specs.Prelude.{◌≡◌, ◌⊎◌, ℕ, false, List}
use Rattle.pv_value.specs.Plain.{Plain}
use Rattle.pv_read.specs.Results.{Fault}
use Rattle.pv_lex.specs.declared.faults.TextKind.{TextKind}
use Rattle.pv_lex.specs.Gaps.{IsLastGap}
use Rattle.pv_text.specs.Reads.{LeadsTo, NextStops}

abbrev pub HasValue : List ℕ → Type 0
HasValue bytes = (v : Plain) × (rest : List ℕ) × LeadsTo bytes v rest

abbrev pub HasFault : ℕ → List ℕ → Type 0
HasFault total bytes = (f : Fault TextKind) × NextStops total bytes f

abbrev pub IsOneOfThree : ℕ → List ℕ → Type 0
IsOneOfThree total bytes = IsLastGap false bytes ⊎ (HasValue bytes ⊎ HasFault total bytes)

-- no two of the three hold
pub record ExcludeOneAnother (total : ℕ) (bytes : List ℕ) : Type 0 where
  pub end_and_value : IsLastGap false bytes → HasValue bytes → ⊥
  pub end_and_fault : IsLastGap false bytes → HasFault total bytes → ⊥
  pub value_and_fault : HasValue bytes → HasFault total bytes → ⊥

-- there is one value before one rest, and one fault at one place
pub record AreUnique (total : ℕ) (bytes : List ℕ) : Type 0 where
  pub value : (v w : Plain) (r s : List ℕ) → LeadsTo bytes v r → LeadsTo bytes w s → (v ≡ w) × (r ≡ s)
  pub fault : (f g : Fault TextKind) → NextStops total bytes f → NextStops total bytes g → f ≡ g

abbrev pub OneWayHolds : ℕ → List ℕ → Type 0
OneWayHolds total bytes = IsOneOfThree total bytes × ExcludeOneAnother total bytes × AreUnique total bytes
