-- The line on standard error that goes with a status.
use Rattle.std.specs.Prelude.{◌≡◌, ℕ, List, [], ◌∷◌, ◌++◌, Option, codes, decimal}
use Rattle.out_ports.specs.Ports.{Appends, AppendsFront}
use Rattle.dsd_top.specs.declared.faults.Fault.{Fault}
use Rattle.dsd_top.specs.declared.faults.Fault.TheVariants as fault
use Rattle.dsd_top.specs.Statuses.{status_of}

abbrev pub words_of : Fault → List ℕ
words_of (fault.BadInput n) = codes "dsd: bad input at "
words_of fault.BadWords = codes "dsd: bad words"
words_of fault.ReadFailed = codes "dsd: read failed"
words_of fault.WriteFailed = codes "dsd: write failed"
words_of fault.NoMemory = codes "dsd: out of memory"
words_of (fault.Limit w) = codes "dsd: limit "
words_of (fault.BadConfig n) = codes "dsd: bad config at "

-- the number behind the words, where there is one
abbrev pub number_of : Fault → List ℕ
number_of (fault.BadInput n) = decimal n
number_of (fault.Limit w) = decimal w
number_of (fault.BadConfig n) = decimal n
number_of f = []

abbrev pub line_of : Fault → List ℕ
line_of f = words_of f ++ number_of f ++ 10 ∷ []

-- the line of a cause of this status that stands was appended
abbrev pub Says : (Fault → Type 0) → ℕ → Option (List ℕ) → Option (List ℕ) → Type 0
Says Stands status before now = (f : Fault) × (status_of f ≡ status) × Stands f × Appends before now (line_of f)

-- a front of it was appended
abbrev pub SaysFront : (Fault → Type 0) → ℕ → Option (List ℕ) → Option (List ℕ) → Type 0
SaysFront Stands status before now =
    (f : Fault) × (status_of f ≡ status) × Stands f × AppendsFront before now (line_of f)
