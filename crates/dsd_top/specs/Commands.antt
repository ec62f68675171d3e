-- The program's words, and what they ask for.
use Rattle.std.specs.Prelude.{◌≡◌, ℕ, ◌-◌, ◌^◌, ◌==◌, List, [], ◌∷◌, ◌++◌, length, codes, Bool, false, ◌&&◌}
use Rattle.std.specs.Prelude.{nat_eq, nat_le, Option, Some, None, if◌then◌else◌}
use Rattle.std.specs.List.{flat_map, starts_with}
use Rattle.std.specs.Str.{bytes_eq}
use Rattle.dsd_top.specs.Limits.{most_caveats}
pub use Rattle.dsd_top.specs.Asked.{texts, Checking, Minting}
use Rattle.dsd_top.specs.Loading.{IsLoadLine}
use Rattle.dsd_top.specs.Minting.{IsReferenceLine}
use Rattle.dsd_top.specs.Numbers.{number_within}
use Rattle.dsd_top.specs.declared.words.Making.TheVariants.{Run, RunText, CanonicalForms, Printed, Written}
use Rattle.dsd_top.specs.declared.words.Command.{Command}
use Rattle.dsd_top.specs.declared.words.Command.TheVariants.{Make, Check}
use Rattle.dsd_top.specs.declared.words.Notice.{Notice}
use Rattle.dsd_top.specs.declared.words.Notice.TheVariants.{Usage, Version, Reference, Load}
use Rattle.dsd_top.specs.declared.words.Request.{Request}
use Rattle.dsd_top.specs.declared.words.Request.TheVariants.{Do, Tell}
use Rattle.sc_load.specs.Limits.{most_items}

-- what one word asks for
abbrev pub named : List ℕ → Option Request
named w =
    if bytes_eq w (codes "run") then Some (Do (Make Run))
    else (if bytes_eq w (codes "canon") then Some (Do (Make CanonicalForms))
    else (if bytes_eq w (codes "text") then Some (Do (Make Printed))
    else (if bytes_eq w (codes "binary") then Some (Do (Make Written))
    else (if bytes_eq w (codes "--help") then Some (Tell Usage)
    else (if bytes_eq w (codes "--version") then Some (Tell Version)
    else None)))))

-- what two words ask for
abbrev pub named_with : List ℕ → List ℕ → Option Request
named_with w option =
    if bytes_eq w (codes "run") && bytes_eq option (codes "--text") then Some (Do (Make RunText)) else None

-- what `load` asks for, by its two numbers
abbrev pub load_by : Option ℕ → Option ℕ → Option Request
load_by (Some n) (Some m) = Some (Tell (Load (record { start = n; count = m })))
load_by n m = None

-- what a word asks for before two others and these: `check FILE NAME`, `mint OID KEY` and at most 32 caveats, or
-- `load START N` with N from 1 to 20,000
abbrev pub named_before : List ℕ → List ℕ → List ℕ → List (List ℕ) → Option Request
named_before w x y ws =
    if bytes_eq w (codes "check") && (length ws == 0) then Some (Do (Check (record { file = x; name = y })))
    else (if bytes_eq w (codes "mint") && nat_le (length ws) most_caveats
    then Some (Tell (Reference (record { oid = x; key = y; caveats = ws })))
    else (if bytes_eq w (codes "load") && (length ws == 0)
    then load_by (number_within 0 (2 ^ 64 - 1) x) (number_within 1 most_items y)
    else None))

-- what the words ask for
abbrev pub request_of : List (List ℕ) → Option Request
request_of [] = None
request_of (w ∷ []) = named w
request_of (w ∷ x ∷ []) = named_with w x
request_of (w ∷ x ∷ y ∷ ws) = named_before w x y ws

-- the command that a request is, and the notice
abbrev pub made_by : Option Request → Option Command
made_by None = None
made_by (Some (Do c)) = Some c
made_by (Some (Tell n)) = None

abbrev pub told_by : Option Request → Option Notice
told_by None = None
told_by (Some (Do c)) = None
told_by (Some (Tell n)) = Some n

-- the command of the words, where they ask for what is made of the input
abbrev pub command_of : List (List ℕ) → Option Command
command_of words = made_by (request_of words)

-- the notice of the words, where they ask for one
abbrev pub notice_of : List (List ℕ) → Option Notice
notice_of words = told_by (request_of words)

-- ---- notices

-- lines, each with its end
abbrev pub lines_of : List (List ℕ) → List ℕ
lines_of ls = flat_map (λ l. l ++ 10 ∷ []) ls

unfoldable pub usage : List ℕ
usage = lines_of (
    codes "usage: dsd WORD, from standard input to standard output"
    ∷ codes "  run           the report of a script's run, in binary"
    ∷ codes "  run --text    the same of a script in text, in text"
    ∷ codes "  canon         binary values, each in its canonical form"
    ∷ codes "  text          binary values, each printed on a line"
    ∷ codes "  binary        text values, each in its written binary spelling"
    ∷ codes "  check FILE NAME"
    ∷ codes "                of each text value, whether it conforms to the schema's NAME"
    ∷ codes "  mint OID KEY CAVEAT.."
    ∷ codes "                the signed reference, from no input"
    ∷ codes "  load START N"
    ∷ codes "                a run of a generated script: holdings, and the sum of what they capture"
    ∷ codes "  serve ADDR CONFIG WORKERS CONNECTIONS"
    ∷ codes "                serves so many links at the address, from no input"
    ∷ codes "  query ADDR REF PATTERN N"
    ∷ codes "                what matches the pattern there, as it comes and goes: N lines, from no input"
    ∷ codes "  bindings FILE add OID KEY SPACE CAVEAT.."
    ∷ codes "                keeps a binding in the file: its signed reference, from no input"
    ∷ codes "  bindings FILE list"
    ∷ codes "                the bindings that the file keeps, from no input"
    ∷ codes "  bindings FILE revoke OID"
    ∷ codes "                keeps the binding no longer, from no input"
    ∷ codes "  serve-kept ADDR FILE WORKERS CONNECTIONS"
    ∷ codes "                the same by the bindings that the file keeps, from no input"
    ∷ codes "  --help        these lines"
    ∷ codes "  --version     the version"
    ∷ []
    )

unfoldable pub version : List ℕ
version = lines_of (codes "dsd 0.1.0" ∷ [])

-- the text that a notice tells: of a reference none, where the words for it are no key and values, and of a load none,
-- where its script stops
abbrev pub IsTextOf : Notice → List ℕ → Type 0
IsTextOf Usage text = text ≡ usage
IsTextOf Version text = text ≡ version
IsTextOf (Reference m) text = IsReferenceLine m text
IsTextOf (Load l) text = IsLoadLine l text

abbrev pub HasText : Notice → Type 0
HasText n = (text : List ℕ) × IsTextOf n text

-- ---- the table

-- the words for a notice are right: those for a reference give one
abbrev pub IsRightlyAsked : Notice → Type 0
IsRightlyAsked (Reference m) = HasText (Reference m)
IsRightlyAsked n = Unit {0}

-- a request can be met
abbrev pub IsOfTable : Option Request → Type 0
IsOfTable None = ⊥
IsOfTable (Some (Do c)) = Unit {0}
IsOfTable (Some (Tell n)) = IsRightlyAsked n

-- the words are of the table
abbrev pub AreOfTable : List (List ℕ) → Type 0
AreOfTable words = IsOfTable (request_of words)

-- whether the first word begins with "serve"
abbrev pub is_serve : List (List ℕ) → Bool
is_serve [] = false
is_serve (w ∷ ws) = starts_with nat_eq w (codes "serve")
