-- What the sections of a row say. A row says its words, its status and how its input and its output fail at most once;
-- a body stands only below a form of bytes; and no section stands before the first row.
use Rattle.std.specs.Prelude.{◌≡◌, ◌≢◌, ℕ, ◌==◌, ◌++◌, List, [], ◌∷◌, map, replicate, codes, Some, Ok, ◌⊎◌}
use Rattle.std.specs.Prelude.{true, false}
use Rattle.std.specs.Prelude.{nat_lt, length, if◌then◌else◌, string_bytes}
use Rattle.std.specs.List.{FoldsTo, position_or_len, slice_split}
use Rattle.std.specs.Str.Parse.{ParsesUnsigned}
use Rattle.std.specs.Str.Pattern.{FindsChar, SplitsAroundMatch}
use Rattle.row_cases.specs.Forms.{form_named, IsIn, IsEscaped}
use Rattle.row_cases.specs.declared.faults.Fault.{Fault}
use Rattle.row_cases.specs.declared.spelling.Form.{Form}
use Rattle.row_files.specs.Lines.{first_word, behind_word}
use Rattle.row_files.specs.Sections.{SectionTold, AreSections}
use Rattle.row_files.specs.declared.rows.Row.{Row}
use Rattle.row_files.specs.declared.rows.RowFile.{RowFile}
use Rattle.row_files.specs.declared.rows.Said.{Said}

-- ---- what stands in a section

-- the number that a text is, in a radix and below 2 to so many bits
abbrev pub IsNumeralOf : ℕ → ℕ → List ℕ → ℕ → Type 0
IsNumeralOf bits radix text n = ParsesUnsigned {E = Fault} bits radix text (Ok n)

abbrev pub IsNumber : List ℕ → ℕ → Type 0
IsNumber text n = IsNumeralOf 64 10 text n

-- what a text between two blanks adds to numbers, or to words: nothing, where it is empty
abbrev pub AddsNumber : List ℕ → List ℕ → List ℕ → Type 0
AddsNumber old text new =
    ((text ≡ []) × (new ≡ old)) ⊎ ((text ≢ []) × (n : ℕ) × IsNumber text n × (new ≡ old ++ n ∷ []))

abbrev pub AddsWord : List (List ℕ) → List ℕ → List (List ℕ) → Type 0
AddsWord old text new =
    ((text ≡ []) × (new ≡ old)) ⊎ ((text ≢ []) × (w : List ℕ) × IsEscaped text w × (new ≡ old ++ w ∷ []))

-- the numbers, or the words, that blanks part
abbrev pub AreNumbers : List ℕ → List ℕ → Type 0
AreNumbers text ns = FoldsTo AddsNumber [] (slice_split (λ b. b == 32) text) ns

abbrev pub AreWords : List ℕ → List (List ℕ) → Type 0
AreWords text ws = FoldsTo AddsWord [] (slice_split (λ b. b == 32) text) ws

-- what stands behind the first word of a line, or the body where there is but a word
abbrev pub behind_form : List ℕ → List ℕ → List ℕ
behind_form rest body = if nat_lt (position_or_len (λ b. b == 32) rest) (length rest) then behind_word rest else body

-- the bytes of a form and what follows it, on its line or in a body
abbrev pub AreWrittenIn : List ℕ → List ℕ → List ℕ → Type 0
AreWrittenIn rest body bytes =
    (form : Form) × (form_named (first_word rest) ≡ Some form) × IsIn form (behind_form rest body) bytes

-- a number and a byte in hexadecimal: the byte so often
abbrev pub AreTimes : List ℕ → List ℕ → Type 0
AreTimes text bytes =
    (count : List ℕ) × (digits : List ℕ) × (n : ℕ) × (byte : ℕ) × SplitsAroundMatch (FindsChar 32) text count digits
    × IsNumber count n × IsNumeralOf 8 16 digits byte × (bytes ≡ replicate n byte)

-- ---- rows

pub record RowTold : Type 0 where
  pub line : ℕ
  pub name : List ℕ
  pub words : List (List ℕ)
  pub input : List ℕ
  pub piece : ℕ
  pub takes : List ℕ
  pub room : ℕ
  pub puts : List ℕ
  pub files : List (List ℕ × List ℕ)
  pub status : ℕ
  pub error : List ℕ
  pub output : List ℕ
  pub said : Said

-- a file's name, and what it holds
abbrev pub file_told : RowFile → List ℕ × List ℕ
file_told file = (string_bytes file.name, file.bytes.items)

abbrev pub row_told : Row → RowTold
row_told r = record {
  line = r.place;
  name = string_bytes r.name;
  words = map string_bytes r.words.items;
  input = r.input.items;
  piece = r.piece;
  takes = r.takes.items;
  room = r.room;
  puts = r.puts.items;
  files = map file_told r.files.items;
  status = r.wanted.status;
  error = r.wanted.line.items;
  output = r.wanted.output.items;
  said = r.said;
}

-- nothing of what a row may say but once was said
abbrev pub nothing_said : Said
nothing_said =
    record { words = false; pieces = false; takes = false; room = false; puts = false; status = false }

-- a row of which nothing else is said: 255 is a status that never comes
abbrev pub empty_row : ℕ → List ℕ → RowTold
empty_row place name = record {
  line = place;
  name = name;
  words = [];
  input = [];
  piece = 100;
  takes = [];
  room = 1048576;
  puts = [];
  files = [];
  status = 255;
  error = [];
  output = [];
  said = nothing_said;
}

-- a body stands below a form that is alone on its line, and nowhere else
abbrev pub IsPlaced : List ℕ → List ℕ → Type 0
IsPlaced rest body = (body ≡ []) ⊎ ((form : Form) × (form_named rest ≡ Some form))

-- the words, which are said once and have no body
abbrev pub TakesWords : List ℕ → List ℕ → RowTold → RowTold → Type 0
TakesWords rest body old new =
    (ws : List (List ℕ)) × (body ≡ []) × AreWords rest ws × (old.said.words ≡ false)
    × (new ≡ record old { words = ws; said = record old.said { words = true } })

-- what may be said but once: how many bytes a take gives, which takes fail, the room, and which puts fail
abbrev pub SaysPiece : ℕ → RowTold → RowTold → Type 0
SaysPiece n old new =
    (old.said.pieces ≡ false) × (new ≡ record old { piece = n; said = record old.said { pieces = true } })

abbrev pub SaysTakes : List ℕ → RowTold → RowTold → Type 0
SaysTakes ns old new =
    (old.said.takes ≡ false) × (new ≡ record old { takes = ns; said = record old.said { takes = true } })

abbrev pub SaysRoom : ℕ → RowTold → RowTold → Type 0
SaysRoom n old new =
    (old.said.room ≡ false) × (new ≡ record old { room = n; said = record old.said { room = true } })

abbrev pub SaysPuts : List ℕ → RowTold → RowTold → Type 0
SaysPuts ns old new =
    (old.said.puts ≡ false) × (new ≡ record old { puts = ns; said = record old.said { puts = true } })

-- `pieces N` or `fails at N ..`, each said once, `times N HH`, or a form and bytes in it
abbrev pub TakesInput : List ℕ → List ℕ → RowTold → RowTold → Type 0
TakesInput rest body old new =
    ((text : List ℕ) × (n : ℕ) × (rest ≡ codes "pieces " ++ text) × IsNumber text n × SaysPiece n old new)
    ⊎ (((text : List ℕ) × (ns : List ℕ) × (rest ≡ codes "fails at " ++ text) × AreNumbers text ns × SaysTakes ns old new)
    ⊎ (((text : List ℕ) × (bytes : List ℕ) × (rest ≡ codes "times " ++ text) × AreTimes text bytes
    × (new ≡ record old { input = old.input ++ bytes }))
    ⊎ ((bytes : List ℕ) × AreWrittenIn rest body bytes × (new ≡ record old { input = old.input ++ bytes }))))

-- `room N` or `fails at N ..`, each said once, or a form and bytes in it
abbrev pub TakesOutput : List ℕ → List ℕ → RowTold → RowTold → Type 0
TakesOutput rest body old new =
    ((text : List ℕ) × (n : ℕ) × (rest ≡ codes "room " ++ text) × IsNumber text n × SaysRoom n old new)
    ⊎ (((text : List ℕ) × (ns : List ℕ) × (rest ≡ codes "fails at " ++ text) × AreNumbers text ns × SaysPuts ns old new)
    ⊎ ((bytes : List ℕ) × AreWrittenIn rest body bytes × (new ≡ record old { output = old.output ++ bytes })))

-- the line on standard error, with its line feed; none where it is empty
abbrev pub with_end : List ℕ → List ℕ
with_end [] = []
with_end (b ∷ bs) = b ∷ (bs ++ 10 ∷ [])

-- a status, and the line that is written with it, which are said once and have no body
abbrev pub TakesStatus : List ℕ → List ℕ → RowTold → RowTold → Type 0
TakesStatus rest body old new =
    (n : ℕ) × (body ≡ []) × IsNumeralOf 8 10 (first_word rest) n × (old.said.status ≡ false)
    × (new ≡ record old {
      status = n;
      error = with_end (behind_word rest);
      said = record old.said { status = true };
    })

-- a file: its name, and a form and bytes in it
abbrev pub TakesFile : List ℕ → List ℕ → RowTold → RowTold → Type 0
TakesFile rest body old new =
    (bytes : List ℕ) × IsPlaced (behind_word rest) body × AreWrittenIn (behind_word rest) body bytes
    × (new ≡ record old { files = old.files ++ (first_word rest, bytes) ∷ [] })

-- what a section says, by its keyword
abbrev pub Takes : SectionTold → RowTold → RowTold → Type 0
Takes s old new =
    ((s.keyword ≡ codes "words") × TakesWords s.rest s.body old new)
    ⊎ (((s.keyword ≡ codes "input") × IsPlaced s.rest s.body × TakesInput s.rest s.body old new)
    ⊎ (((s.keyword ≡ codes "output") × IsPlaced s.rest s.body × TakesOutput s.rest s.body old new)
    ⊎ (((s.keyword ≡ codes "status") × TakesStatus s.rest s.body old new)
    ⊎ ((s.keyword ≡ codes "file") × TakesFile s.rest s.body old new))))

-- a section more: a row that it begins, which has no body, or what it says of the last
abbrev pub TakesLast : SectionTold → List RowTold → List RowTold → Type 0
TakesLast s old new =
    (front : List RowTold) × (last : RowTold) × (now : RowTold) × (old ≡ front ++ last ∷ []) × Takes s last now
    × (new ≡ front ++ now ∷ [])

abbrev pub AddsSection : List RowTold → SectionTold → List RowTold → Type 0
AddsSection old s new =
    ((s.keyword ≡ codes "row") × (s.body ≡ []) × (new ≡ old ++ empty_row s.line s.rest ∷ [])) ⊎ TakesLast s old new

-- the rows of sections
abbrev pub AreRows : List SectionTold → List RowTold → Type 0
AreRows ss rows = FoldsTo AddsSection [] ss rows

-- the rows of a text
abbrev pub AreRowsIn : List ℕ → List RowTold → Type 0
AreRowsIn text rows = (ss : List SectionTold) × AreSections text ss × AreRows ss rows
