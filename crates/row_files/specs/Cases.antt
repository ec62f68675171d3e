-- The cases of rows of steps: `ASKED => WANTED`, or `N times ASKED => WANTED`.
use Rattle.std.specs.Prelude.{◌≡◌, ℕ, ◌<◌, List, [], ◌∷◌, codes, None, Ok, ◌⊎◌}
use Rattle.std.specs.Str.Parse.{ParsesUnsigned}
use Rattle.std.specs.Str.Pattern.{FindsText, SplitsAroundMatch}
use Rattle.pv_value.specs.Plain.{Plain}
use Rattle.pv_text.specs.Reads.{AreValuesOf}
use Rattle.row_cases.specs.Forms.{IsIn}
use Rattle.row_cases.specs.declared.faults.Fault.{Fault}
use Rattle.row_cases.specs.declared.spelling.Form.TheVariants.{Text}
use Rattle.row_files.specs.declared.cases.Case.{Case}

-- the one value that a text is, once its repetitions and escapes are read
abbrev pub IsValueIn : List ℕ → Plain → Type 0
IsValueIn text v = (bytes : List ℕ) × IsIn Text text bytes × AreValuesOf bytes (v ∷ [])

-- these stand before and behind the first ` times `
abbrev pub AreAroundTimes : List ℕ → List ℕ → List ℕ → Type 0
AreAroundTimes text count rest = SplitsAroundMatch (FindsText (codes " times ")) text count rest

-- the number that a text is, in decimal digits
abbrev pub IsCount : List ℕ → ℕ → Type 0
IsCount text n = ParsesUnsigned {E = Fault} 32 10 text (Ok n)

-- how often it is done or asked, and the rest of the text: once, where no number says it
abbrev pub IsTimes : List ℕ → ℕ → List ℕ → Type 0
IsTimes text times rest =
    ((count : List ℕ) × AreAroundTimes text count rest × IsCount count times × (0 < times))
    ⊎ ((times ≡ 1) × (rest ≡ text)
    × (FindsText (codes " times ") text None
    ⊎ ((count : List ℕ) × (behind : List ℕ) × AreAroundTimes text count behind
    × ((n : ℕ) → IsCount count n → 0 < n → ⊥))))

abbrev pub IsCase : List ℕ → Case → Type 0
IsCase line case =
    (asked : List ℕ) × (wanted : List ℕ) × (text : List ℕ)
    × SplitsAroundMatch (FindsText (codes "=>")) line asked wanted × IsTimes asked case.times text
    × IsValueIn text case.asked × IsValueIn wanted case.wanted
