-- The sections of a file of rows, line by line: each line that is neither empty nor a comment is a keyword, which
-- begins a section, or a line of the body of the section before it. A line of a body before the first keyword is
-- refused.
use Rattle.std.specs.Prelude.{◌≡◌, ℕ, ◌+◌, ◌==◌, ◌++◌, List, [], ◌∷◌, if◌then◌else◌, slice_index, string_bytes}
use Rattle.std.specs.Prelude.{Option, Some, None}
use Rattle.std.specs.Option.{option_map, option_and_then}
use Rattle.row_files.specs.Lines.{lines_of, is_left_out, first_word, behind_word, behind_bar}
use Rattle.row_files.specs.declared.sections.Section.{Section}

pub record SectionTold : Type 0 where
  pub line : ℕ
  pub keyword : List ℕ
  pub rest : List ℕ
  pub body : List ℕ

abbrev pub section_told : Section → SectionTold
section_told s =
    record { line = s.line; keyword = string_bytes s.keyword; rest = string_bytes s.rest; body = string_bytes s.body }

-- the sections with more in the body of the last; none, where no section has begun
abbrev pub with_more : List ℕ → List SectionTold → Option (List SectionTold)
with_more text [] = None
with_more text (s ∷ []) = Some (record s { body = s.body ++ text } ∷ [])
with_more text (s ∷ t ∷ ss) = option_map (λ more. s ∷ more) (with_more text (t ∷ ss))

-- a section that begins at this place, the line's, counted from 1
abbrev pub section_at : ℕ → List ℕ → SectionTold
section_at place line = record { line = place; keyword = first_word line; rest = behind_word line; body = [] }

-- the sections with a line more; none, where it is one of a body and no section has begun
abbrev pub with_line : ℕ → List ℕ → List SectionTold → Option (List SectionTold)
with_line place line ss =
    if is_left_out line then Some ss
    else (if slice_index line 0 == 124 then with_more (behind_bar line ++ 10 ∷ []) ss
    else Some (ss ++ section_at place line ∷ []))

-- the sections with the lines from this place on
abbrev pub with_lines : ℕ → List (List ℕ) → List SectionTold → Option (List SectionTold)
with_lines place [] ss = Some ss
with_lines place (line ∷ lines) ss = option_and_then (with_lines (place + 1) lines) (with_line place line ss)

-- the sections of a text, where no line of a body stands before the first keyword
abbrev pub AreSections : List ℕ → List SectionTold → Type 0
AreSections text ss = with_lines 1 (lines_of text) [] ≡ Some ss
