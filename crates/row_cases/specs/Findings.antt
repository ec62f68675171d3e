-- What came of cases, and of one case more.
use Rattle.std.specs.Prelude.{◌≡◌, ℕ, ◌+◌, ◌-◌, ◌^◌, Bool, true, false, List, [], ◌∷◌, ◌++◌, length, count_by, min}
use Rattle.std.specs.Prelude.{◌⊎◌}
use Rattle.std.specs.declared.string.String.{String}
use Rattle.std.specs.declared.alloc.Global.{Global}
use Rattle.row_cases.specs.declared.tally.Findings.{Findings}

-- the sum, at most the greatest u64
abbrev pub capped_sum : ℕ → ℕ → ℕ
capped_sum a b = min (a + b) (2 ^ 64 - 1)

-- one case more has passed
abbrev pub HasPassed : Findings → Findings → Type 0
HasPassed old new =
    (new.passed ≡ capped_sum old.passed 1) × (new.differences.items ≡ old.differences.items)

-- one case more differs, as this line says
abbrev pub Differs : Findings → Findings → String Global → Type 0
Differs old new line =
    (new.passed ≡ old.passed) × (new.differences.items ≡ old.differences.items ++ line ∷ [])

-- what is noted of what may be a case: nothing, where it is none; that it passed, where it holds; or one more
-- difference
abbrev pub IsNoted : Bool → Type 0 → Findings → Findings → Type 0
IsNoted is_case Holds old new =
    ((is_case ≡ false) × Holds × (new ≡ old))
    ⊎ (((is_case ≡ true) × Holds × HasPassed old new)
    ⊎ ((is_case ≡ true) × (s : String Global) × Differs old new s))

-- each case is counted, and where nothing differs this holds
pub record AreJudged {X : Type 0} (is_case : X → Bool) (xs : List X) (Hold : Type 0) (found : Findings) : Type 0 where
  pub counted : found.passed + length found.differences.items ≡ count_by is_case xs
  pub holding : found.differences.items ≡ [] → Hold
