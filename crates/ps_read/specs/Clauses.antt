-- The definitions that a list of values writes, or the place of the first value that can't stand where it stands.
-- Preserves Schema, section "Concrete (textual) syntax".
use Rattle.std.specs.Prelude.{ℕ, ◌+◌, List, [], ◌∷◌, length, Option, Some, None, Result, Ok, Err, codes}
use Rattle.std.specs.Prelude.{pos, is_some, if◌then◌else◌}
use Rattle.pv_value.specs.Plain.{Plain, integer, symbol}
use Rattle.pv_words.specs.Parts.{same}
use Rattle.ps_schema.specs.Patterns.{PlainPattern, one_of, all_of, patterns}
use Rattle.ps_schema.specs.declared.Definition.{Definition}
use Rattle.ps_read.specs.Names.{is_name}
use Rattle.ps_read.specs.Pieces.{pieces}
use Rattle.ps_read.specs.Written.{is_sign, pattern_of, is_supported}
use Rattle.ps_read.specs.declared.faults.Misfit.{Misfit}
use Rattle.ps_read.specs.declared.faults.Misfit.TheVariants.{BadSchema, NotSupported}

-- ---- what stands behind `=`

-- the pattern that must stand at n
abbrev pub judged : ℕ → Option PlainPattern → Result PlainPattern Misfit
judged n (Some p) = if is_supported p then Ok p else Err (NotSupported n)
judged n None = Err (BadSchema n)

abbrev pub pattern_at : ℕ → Plain → Result PlainPattern Misfit
pattern_at n v = judged n (pattern_of v)

abbrev pub first_and : Result PlainPattern Misfit → Result (List PlainPattern) Misfit
    → Result (List PlainPattern) Misfit
first_and (Err m) r = Err m
first_and (Ok p) (Ok ps) = Ok (p ∷ ps)
first_and (Ok p) (Err m) = Err m

-- patterns from n on, with this sign between each two
abbrev pub with_signs : List ℕ → ℕ → List Plain → Result (List PlainPattern) Misfit
with_signs w n [] = Err (BadSchema n)
with_signs w n (v ∷ []) = first_and (pattern_at n v) (Ok [])
with_signs w n (v ∷ s ∷ vs) =
    first_and (pattern_at n v) (if is_sign w s then with_signs w (n + 2) vs else Err (BadSchema (n + 1)))

abbrev pub one_among : Result (List PlainPattern) Misfit → Result PlainPattern Misfit
one_among (Ok ps) = Ok (one_of (patterns ps))
one_among (Err m) = Err m

abbrev pub all_among : Result (List PlainPattern) Misfit → Result PlainPattern Misfit
all_among (Ok ps) = Ok (all_of (patterns ps))
all_among (Err m) = Err m

-- `P`, `P / Q ..` or `P & Q ..`
abbrev pub meaning : ℕ → List Plain → Result PlainPattern Misfit
meaning n [] = Err (BadSchema n)
meaning n (v ∷ []) = pattern_at n v
meaning n (v ∷ s ∷ vs) =
    if is_sign (codes "/") s then one_among (with_signs (codes "/") n (v ∷ s ∷ vs))
    else all_among (with_signs (codes "&") n (v ∷ s ∷ vs))

-- ---- a clause, without its `.`

abbrev pub name_in : Plain → Option (List ℕ)
name_in (symbol s) = if is_name s then Some s else None
name_in v = None

-- why the value at n, with no `=` behind it, begins no clause: behind a name `=` is due
abbrev pub undefined : ℕ → Plain → Misfit
undefined n v = if is_some (name_in v) then BadSchema (n + 1) else BadSchema n

-- the same, with another value behind it: `include v` is not supported
abbrev pub unfit : ℕ → Plain → Misfit
unfit n v = if is_sign (codes "include") v then NotSupported n else undefined n v

abbrev pub definition : ℕ → Option (List ℕ) → Result PlainPattern Misfit → Result (Option Definition) Misfit
definition n (Some a) (Ok p) = Ok (Some (record { name = a; pattern = p }))
definition n (Some a) (Err m) = Err m
definition n None r = Err (BadSchema n)

-- nothing more may stand
abbrev pub at_end : ℕ → List Plain → Result (Option Definition) Misfit
at_end n [] = Ok None
at_end n (v ∷ vs) = Err (BadSchema n)

-- what the clause that begins at n defines: a name, or nothing where it is `embeddedType v`
abbrev pub clause_of : ℕ → List Plain → Result (Option Definition) Misfit
clause_of n [] = Err (BadSchema n)
clause_of n (v ∷ []) = Err (undefined n v)
clause_of n (v ∷ w ∷ vs) =
    if is_sign (codes "=") w then definition n (name_in v) (meaning (n + 2) vs)
    else (if is_sign (codes "embeddedType") v then at_end (n + 2) vs else Err (unfit n v))

-- ---- all clauses

abbrev pub Definitions : Type 0
Definitions = Result (List Definition) Misfit

abbrev pub defined : Result (Option Definition) Misfit → Definitions → Definitions
defined (Err m) r = Err m
defined (Ok (Some d)) (Ok ds) = Ok (d ∷ ds)
defined (Ok (Some d)) (Err m) = Err m
defined (Ok None) r = r

-- a clause whose `.` is missing: what can't stand in it, or the end
abbrev pub ends_at : ℕ → Result (Option Definition) Misfit → Definitions
ends_at n (Err m) = Err m
ends_at n (Ok d) = Err (BadSchema n)

abbrev pub unended : ℕ → List Plain → Definitions
unended n [] = Ok []
unended n (v ∷ vs) = ends_at (n + length (v ∷ vs)) (clause_of n (v ∷ vs))

-- a clause that begins at n, by those behind it and what they define
abbrev pub before_others : ℕ → List Plain → List (List Plain) → Definitions → Definitions
before_others n c [] r = unended n c
before_others n c (d ∷ ds) r = defined (clause_of n c) r

-- clauses from n on, of which the last has no `.`
abbrev pub clauses : ℕ → List (List Plain) → Definitions
clauses n [] = Ok []
clauses n (c ∷ cs) = before_others n c cs (clauses (n + length c + 1) cs)

-- ---- `version 1 .`, and clauses

abbrev pub nothing_at : ℕ → List Plain → Option Misfit
nothing_at n [] = None
nothing_at n (v ∷ vs) = Some (BadSchema n)

abbrev pub number_at : List Plain → Option Misfit
number_at [] = Some (BadSchema 1)
number_at (v ∷ vs) = if same v (integer (pos 1)) then nothing_at 2 vs else Some (BadSchema 1)

-- what can't stand in the first clause
abbrev pub header : List Plain → Option Misfit
header [] = Some (BadSchema 0)
header (v ∷ vs) = if is_sign (codes "version") v then number_at vs else Some (BadSchema 0)

abbrev pub behind_header : Option Misfit → List Plain → List (List Plain) → Definitions
behind_header (Some m) c cs = Err m
behind_header None c [] = Err (BadSchema (length c))
behind_header None c (d ∷ ds) = clauses (length c + 1) (d ∷ ds)

abbrev pub headed : List (List Plain) → Definitions
headed [] = Err (BadSchema 0)
headed (c ∷ cs) = behind_header (header c) c cs

-- the definitions that the values write, in clauses that each end with `.`
abbrev pub definitions_of : List Plain → Definitions
definitions_of vs = headed (pieces (is_sign (codes ".")) vs)
