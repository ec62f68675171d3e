-- Why the status of words that ask something of a file isn't 0: the status, and the line on standard error.
use Rattle.std.specs.Prelude.{ℕ, List, [], ◌∷◌, ◌++◌, codes}
use Rattle.kp_keeper.specs.declared.keeper.KeepFault.{KeepFault}
use Rattle.kp_keeper.specs.declared.keeper.KeepFault.TheVariants as kept
use Rattle.kp_bound.specs.declared.faults.RecordFault.{RecordFault}
use Rattle.kp_bound.specs.declared.faults.RecordFault.TheVariants as record_fault
use Rattle.dsd_top.specs.Lines.{line_of}
use Rattle.dsd_top.specs.Statuses.{status_of}
use Rattle.dsd_top.specs.declared.faults.Fault.TheVariants as fault
use Rattle.dsd_keep.specs.declared.undone.Undone.{Undone}
use Rattle.dsd_keep.specs.declared.undone.Undone.TheVariants.{Of, KeeperFailed, BoundAlready, NotBound}

-- every status that comes of what is asked, and every one that comes
abbrev pub action_statuses : List ℕ
action_statuses = 0 ∷ 4 ∷ 5 ∷ 6 ∷ 7 ∷ 15 ∷ 16 ∷ 17 ∷ []

abbrev pub bindings_statuses : List ℕ
bindings_statuses = 2 ∷ action_statuses

abbrev pub status_by : Undone → ℕ
status_by (Of f) = status_of f
status_by KeeperFailed = 15
status_by BoundAlready = 16
status_by NotBound = 17

abbrev pub line_by : Undone → List ℕ
line_by (Of f) = line_of f
line_by KeeperFailed = codes "dsd: keeper failed" ++ 10 ∷ []
line_by BoundAlready = codes "dsd: bound already" ++ 10 ∷ []
line_by NotBound = codes "dsd: not bound" ++ 10 ∷ []

-- what the keeper's faults are, and those of records
abbrev pub of_keeper : KeepFault → Undone
of_keeper kept.Failed = KeeperFailed
of_keeper kept.NoMemory = Of fault.NoMemory

abbrev pub of_record : RecordFault → Undone
of_record (record_fault.Bad n) = Of (fault.BadConfig n)
of_record record_fault.NoMemory = Of fault.NoMemory
