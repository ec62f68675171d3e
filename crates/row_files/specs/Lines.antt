-- What the lines of files of rows are.
use Rattle.std.specs.Prelude.{◌≡◌, ℕ, ◌==◌, ◌||◌, ◌&&◌, not, ◌++◌, ◌∷◌, Bool, true, false, nat_eq, List, [], length}
use Rattle.std.specs.Prelude.{drop, codes, if◌then◌else◌, slice_index}
use Rattle.std.specs.List.{slice_split, before_first, after_first, filter, starts_with}
pub use Rattle.row_cases.specs.Cases.{lines_of}
use Rattle.row_files.specs.declared.cases.Line.{Line as CaseLine}
use Rattle.row_files.specs.declared.cases.Line.TheVariants as steps
use Rattle.row_files.specs.declared.sections.Line.{Line as SectionLine}
use Rattle.row_files.specs.declared.sections.Line.TheVariants as rows

-- whether a line is empty, or a comment
abbrev pub is_left_out : List ℕ → Bool
is_left_out line = (length line == 0) || (slice_index line 0 == 35)

-- ---- words

-- what stands before and behind the first blank: all and nothing, where there is none
abbrev pub first_word : List ℕ → List ℕ
first_word text = before_first (λ b. b == 32) text

abbrev pub behind_word : List ℕ → List ℕ
behind_word text = after_first (λ b. b == 32) text

-- what blanks part, but for nothing
abbrev pub is_something : List ℕ → Bool
is_something [] = false
is_something (b ∷ bs) = true

abbrev pub words_in : List ℕ → List (List ℕ)
words_in text = filter is_something (slice_split (λ b. b == 32) text)

-- the text without a blank before it
abbrev pub without_blank : List ℕ → List ℕ
without_blank text = if slice_index text 0 == 32 then drop 1 text else text

-- a line of a body without its bar, and without a blank behind that
abbrev pub behind_bar : List ℕ → List ℕ
behind_bar line = without_blank (drop 1 line)

-- ---- files of steps

-- whether a line begins a row, or is a case
abbrev pub begins_row : List ℕ → Bool
begins_row line = not (is_left_out line) && starts_with nat_eq line (codes "row ")

abbrev pub is_case_line : List ℕ → Bool
is_case_line line = not (is_left_out line) && not (starts_with nat_eq line (codes "row "))

-- nothing; a row, which it begins, and its name; or a case
abbrev pub IsCaseLine : List ℕ → CaseLine → Type 0
IsCaseLine line steps.Nothing = is_left_out line ≡ true
IsCaseLine line (steps.Row name) = (begins_row line ≡ true) × (line ≡ codes "row " ++ name.now)
IsCaseLine line (steps.Case text) = (is_case_line line ≡ true) × (text.now ≡ line)

-- ---- files of rows

-- nothing; a line of a body, behind its bar; or a keyword, and what stands behind it
abbrev pub IsSectionLine : List ℕ → SectionLine → Type 0
IsSectionLine line rows.Nothing = is_left_out line ≡ true
IsSectionLine line (rows.More text) =
    (is_left_out line ≡ false) × ((slice_index line 0 == 124) ≡ true) × (text.now ≡ behind_bar line)
IsSectionLine line (rows.Says keyword rest) =
    (is_left_out line ≡ false) × ((slice_index line 0 == 124) ≡ false) × (keyword.now ≡ first_word line)
    × (rest.now ≡ behind_word line)
