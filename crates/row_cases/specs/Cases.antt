-- The cases of a table: the lines of its text that are neither empty nor comments, and when one passes.
use Rattle.std.specs.Prelude.{◌≡◌, ℕ, ◌==◌, ◌&&◌, ◌++◌, not, Bool, true, List, length, codes, nat_eq, All}
use Rattle.std.specs.Prelude.{IsSomeAnd}
use Rattle.std.specs.Fmt.{decimal}
use Rattle.std.specs.List.{slice_split, starts_with}
use Rattle.std.specs.Str.{bytes_eq}
use Rattle.std.specs.Str.Pattern.{FindsText, FindsCharPrefix, FindsCharSuffix, SplitsAroundMatch, IsTrimMatches}
use Rattle.row_cases.specs.Answers.{IsSameAnswer}
use Rattle.row_cases.specs.Findings.{IsNoted}
use Rattle.row_cases.specs.Forms.{IsIn}
use Rattle.row_cases.specs.Tables.{table_named, given_form, IsWanted, Gives}
use Rattle.row_cases.specs.declared.codecs.Answer.{Answer}
use Rattle.row_cases.specs.declared.tables.Table.{Table}
use Rattle.row_cases.specs.declared.tally.Findings.{Findings}

-- the lines of a text, which line feeds part
abbrev pub lines_of : List ℕ → List (List ℕ)
lines_of text = slice_split (λ b. b == 10) text

-- whether a line is neither empty nor a comment
abbrev pub is_case : List ℕ → Bool
is_case line = not (length line == 0) && (not (starts_with nat_eq line (codes "# ")) && not (bytes_eq line (codes "#")))

-- the text without the blanks at its ends
abbrev pub IsTrimmed : List ℕ → List ℕ → Type 0
IsTrimmed text rest = IsTrimMatches (FindsCharPrefix 32) (FindsCharSuffix 32) text rest

-- these stand before and behind the line's first arrow, without the blanks round them
abbrev pub AreSides : List ℕ → List ℕ → List ℕ → Type 0
AreSides line given wanted =
    (front : List ℕ) × (back : List ℕ) × SplitsAroundMatch (FindsText (codes "=>")) line front back
    × IsTrimmed front given × IsTrimmed back wanted

-- what the call answers of what is given is what is wanted
abbrev pub SidesPass : Table → List ℕ → List ℕ → Type 0
SidesPass table given wanted =
    (bytes : List ℕ) × (due : Answer) × (answer : Answer) × IsIn (given_form table) given bytes
    × IsWanted table wanted due × Gives table bytes answer × IsSameAnswer due answer

abbrev pub Passes : Table → List ℕ → Type 0
Passes table line = (given : List ℕ) × (wanted : List ℕ) × AreSides line given wanted × SidesPass table given wanted

-- where it is a case, it passes
abbrev pub LinePasses : Table → List ℕ → Type 0
LinePasses table line = is_case line ≡ true → Passes table line

-- the cases of the table of this name pass
abbrev pub TableHolds : List ℕ → List ℕ → Type 0
TableHolds name text = IsSomeAnd (table_named name) (λ table. All (LinePasses table) (lines_of text))

-- what is noted of a line
abbrev pub IsJudged : Table → List ℕ → Findings → Findings → Type 0
IsJudged table line old new = IsNoted (is_case line) (LinePasses table line) old new

-- what is told of a case that doesn't: its place, its line, and why
abbrev pub case_told : ℕ → List ℕ → List ℕ → List ℕ
case_told place line why = decimal place ++ (codes ": " ++ (line ++ (codes ": " ++ why)))
