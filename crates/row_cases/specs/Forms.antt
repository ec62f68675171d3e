-- How bytes are written: the forms by their names, and what a body in each stands for.
use Rattle.std.specs.Prelude.{◌≡◌, ℕ, ◌==◌, ◌++◌, List, [], ◌∷◌, take, drop, Bool, true, false, Option, Some, None, Ok}
use Rattle.std.specs.Prelude.{if◌then◌else◌, codes}
use Rattle.std.specs.List.{slice_split, repeat}
use Rattle.std.specs.Str.{bytes_eq}
use Rattle.std.specs.Str.Parse.{ParsesUnsigned}
use Rattle.std.specs.Str.Pattern.{FindsText, FindsChar, SplitsAroundMatch}
use Rattle.hex.specs.Hex.{decode_of, encode_lower}
use Rattle.row_cases.specs.Calls.{AreWritten}
use Rattle.row_cases.specs.declared.faults.Fault.{Fault}
use Rattle.row_cases.specs.declared.spelling.Form.{Form}
use Rattle.row_cases.specs.declared.spelling.Form.TheVariants.{Text, Hex, Values}
use Rattle.row_cases.specs.declared.spelling.Marked.{Marked}
use Rattle.row_cases.specs.declared.spelling.Marked.TheVariants.{Repetition, Packet}

-- the form that a word names
abbrev pub form_named : List ℕ → Option Form
form_named word =
    if bytes_eq word (codes "text") then Some Text
    else (if bytes_eq word (codes "hex") then Some Hex
    else (if bytes_eq word (codes "values") then Some Values
    else None))

-- ---- parts

-- each part stands for bytes by Is, and the bytes are these, one behind another
abbrev pub PartByPart : (List ℕ → List ℕ → Type 0) → List (List ℕ) → List ℕ → Type 0
PartByPart Is [] bytes = bytes ≡ []
PartByPart Is (part ∷ parts) bytes =
    (b : List ℕ) × (rest : List ℕ) × Is part b × PartByPart Is parts rest × (bytes ≡ b ++ rest)

-- pairs of hexadecimal digits, between which blanks don't count
abbrev pub ArePair : List ℕ → List ℕ → Type 0
ArePair digits bytes = decode_of digits ≡ Ok bytes

abbrev pub AreDigits : List ℕ → List ℕ → Type 0
AreDigits line bytes = PartByPart ArePair (slice_split (λ b. b == 32) line) bytes

-- lines of such pairs
abbrev pub AreLines : List ℕ → List ℕ → Type 0
AreLines body bytes = PartByPart AreDigits (slice_split (λ b. b == 10) body) bytes

-- what stands behind a percent sign: two digits of a byte, and what follows them
abbrev pub IsEscape : List ℕ → List ℕ → Type 0
IsEscape part bytes = (byte : List ℕ) × AreDigits (take 2 part) byte × (bytes ≡ byte ++ drop 2 part)

-- a part between percent signs: before the first it stands for itself
abbrev pub IsPart : Bool → List ℕ → List ℕ → Type 0
IsPart false part bytes = bytes ≡ part
IsPart true part bytes = IsEscape part bytes

-- the parts between percent signs: the first stands for itself
abbrev pub AreEscaped : List (List ℕ) → List ℕ → Type 0
AreEscaped [] bytes = bytes ≡ []
AreEscaped (first ∷ parts) bytes = (rest : List ℕ) × PartByPart IsEscape parts rest × (bytes ≡ first ++ rest)

-- a text with a byte HH for each %HH
abbrev pub IsEscaped : List ℕ → List ℕ → Type 0
IsEscaped body bytes = AreEscaped (slice_split (λ b. b == 37) body) bytes

-- ---- marks

-- N and a text behind a blank: the text so often, which opens no repetition
abbrev pub IsRepetition : List ℕ → List ℕ → Type 0
IsRepetition inside shown =
    (count : List ℕ) × (text : List ℕ) × (n : ℕ) × SplitsAroundMatch (FindsChar 32) inside count text
    × FindsText (codes "%(") text None × ParsesUnsigned {E = Fault} 32 10 count (Ok n) × (shown ≡ repeat n text)

-- values: their written spellings as a byte string in hexadecimal
abbrev pub IsPacked : List ℕ → List ℕ → Type 0
IsPacked inside shown =
    (text : List ℕ) × (bytes : List ℕ) × IsEscaped inside text × AreWritten text bytes
    × (shown ≡ codes "#x\"" ++ (encode_lower bytes ++ codes "\""))

abbrev pub opening : Marked → List ℕ
opening Repetition = codes "%("
opening Packet = codes "%["

abbrev pub closing : Marked → List ℕ
closing Repetition = codes "%)"
closing Packet = codes "%]"

-- what stands for what is between two marks
abbrev pub IsShown : Marked → List ℕ → List ℕ → Type 0
IsShown Repetition inside shown = IsRepetition inside shown
IsShown Packet inside shown = IsPacked inside shown

-- what stands between the opening and the next closing is shown so, and what follows that likewise
pub data IsExpanded (marked : Marked) : List ℕ → List ℕ → Type 0 where
  unopened : (body : List ℕ) → FindsText (opening marked) body None → IsExpanded marked body body
  opened : (body front behind inside after shown expanded : List ℕ)
      → SplitsAroundMatch (FindsText (opening marked)) body front behind
      → SplitsAroundMatch (FindsText (closing marked)) behind inside after
      → IsShown marked inside shown → IsExpanded marked after expanded
      → IsExpanded marked body (front ++ (shown ++ expanded))

-- ---- bodies

-- by the form, where repetitions and packets are written out
abbrev pub IsPlainly : Form → List ℕ → List ℕ → Type 0
IsPlainly Text body bytes = IsEscaped body bytes
IsPlainly Hex body bytes = AreLines body bytes
IsPlainly Values body bytes = (text : List ℕ) × IsEscaped body text × AreWritten text bytes

-- the bytes that are written so
abbrev pub IsIn : Form → List ℕ → List ℕ → Type 0
IsIn form body bytes =
    (repeated : List ℕ) × (packed : List ℕ)
    × IsExpanded Repetition body repeated × IsExpanded Packet repeated packed × IsPlainly form packed bytes
