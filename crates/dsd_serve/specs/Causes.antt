-- Why the status of words that ask to serve isn't 0.
use Rattle.std.specs.Prelude.{◌≡◌, ℕ, List, [], ◌∷◌, ◌++◌, codes, Option}
use Rattle.out_ports.specs.Ports.{Appends, AppendsFront}
use Rattle.kp_keeper.specs.declared.keeper.KeepFault.{KeepFault}
use Rattle.kp_keeper.specs.declared.keeper.KeepFault.TheVariants as kept
use Rattle.kp_bound.specs.declared.faults.RecordFault.{RecordFault}
use Rattle.kp_bound.specs.declared.faults.RecordFault.TheVariants as record_fault
use Rattle.dsd_top.specs.Lines.{line_of}
use Rattle.dsd_top.specs.Schemas.{Files}
use Rattle.dsd_top.specs.Statuses.{status_of}
use Rattle.dsd_top.specs.declared.faults.Fault.{Fault}
use Rattle.dsd_top.specs.declared.faults.Fault.TheVariants as fault
use Rattle.dsd_config.specs.Configs.{IsBadConfigAt}
use Rattle.dsd_serve.specs.Serving.{Serving, IsServing, AskToServe}
use Rattle.dsd_serve.specs.declared.unserved.Unserved.{Unserved}
use Rattle.dsd_serve.specs.declared.unserved.Unserved.TheVariants.{Of, Unheard, KeeperFailed}

-- the statuses of words that begin with "serve"
abbrev pub serve_statuses : List ℕ
serve_statuses = 0 ∷ 2 ∷ 3 ∷ 4 ∷ 5 ∷ 7 ∷ 8 ∷ []

abbrev pub status_for : Unserved → ℕ
status_for (Of f) = status_of f
status_for Unheard = 8
status_for KeeperFailed = 15

abbrev pub line_for : Unserved → List ℕ
line_for (Of f) = line_of f
line_for Unheard = codes "dsd: listen failed" ++ 10 ∷ []
line_for KeeperFailed = codes "dsd: keeper failed" ++ 10 ∷ []

-- the causes that the keeper's faults are, and those of records
abbrev pub of_keeper : KeepFault → Unserved
of_keeper kept.Failed = KeeperFailed
of_keeper kept.NoMemory = Of fault.NoMemory

abbrev pub of_record : RecordFault → Unserved
of_record (record_fault.Bad n) = Of (fault.BadConfig n)
of_record record_fault.NoMemory = Of fault.NoMemory

-- what a cause says of how it was asked to serve, and of the host's files
abbrev pub IsWhyUnserved : Serving → Files → Unserved → Type 0
IsWhyUnserved s files (Of fault.ReadFailed) = Unit {0}
IsWhyUnserved s files (Of fault.WriteFailed) = Unit {0}
IsWhyUnserved s files (Of fault.NoMemory) = Unit {0}
IsWhyUnserved s files (Of (fault.BadConfig n)) = IsBadConfigAt files s.file n
IsWhyUnserved s files (Of f) = ⊥
IsWhyUnserved s files Unheard = Unit {0}
IsWhyUnserved s files KeeperFailed = ⊥

-- what it says of the words
abbrev pub StandsServing : List (List ℕ) → Files → Unserved → Type 0
StandsServing words files (Of fault.BadWords) = AskToServe words → ⊥
StandsServing words files why = (s : Serving) × IsServing words s × IsWhyUnserved s files why

-- the line of a cause of this status that stands was appended
abbrev pub SaysWhy : List (List ℕ) → Files → ℕ → Option (List ℕ) → Option (List ℕ) → Type 0
SaysWhy words files status before now =
    (why : Unserved) × (status_for why ≡ status) × StandsServing words files why × Appends before now (line_for why)

-- a front of it was appended
abbrev pub SaysWhyFront : List (List ℕ) → Files → ℕ → Option (List ℕ) → Option (List ℕ) → Type 0
SaysWhyFront words files status before now =
    (why : Unserved) × (status_for why ≡ status) × StandsServing words files why × AppendsFront before now (line_for why)

-- what is said of a cause that comes of listening, and of writing
abbrev pub IsListeningFault : Unserved → Type 0
IsListeningFault Unheard = Unit {0}
IsListeningFault (Of fault.NoMemory) = Unit {0}
IsListeningFault (Of f) = ⊥
IsListeningFault KeeperFailed = ⊥

abbrev pub IsWritingFault : Fault → Type 0
IsWritingFault fault.WriteFailed = Unit {0}
IsWritingFault fault.NoMemory = Unit {0}
IsWritingFault f = ⊥

-- of serving itself, once its hub is there
abbrev pub IsServingFault : Unserved → Type 0
IsServingFault Unheard = Unit {0}
IsServingFault (Of f) = IsWritingFault f
IsServingFault KeeperFailed = ⊥
