-- What a worker commits: work alone, until the server stops or is worn.
use Rattle.std.specs.Prelude.{◌≡◌, List, [], ◌∷◌, ◌++◌, Bool, true, false}
use Rattle.std.specs.List.{AllByRecursion}
use Rattle.hub_machine.specs.declared.steps.Reply.{Reply}
use Rattle.hub_machine.specs.declared.steps.Reply.TheVariants.{Worn, Halted}
use Rattle.srv_turns.specs.declared.worker.WorkerEnd.{WorkerEnd}
use Rattle.srv_turns.specs.declared.worker.WorkerEnd.TheVariants as end

-- a reply behind which a worker goes on
abbrev pub is_for_more_work : Reply → Bool
is_for_more_work Halted = false
is_for_more_work Worn = false
is_for_more_work r = true

abbrev pub AreForMoreWork : List Reply → Type 0
AreForMoreWork rs = AllByRecursion (λ r. is_for_more_work r ≡ true) rs

-- this reply is the last, and behind each of the others a worker goes on
abbrev pub IsLastWork : List Reply → Reply → Type 0
IsLastWork rs r = (front : List Reply) × AreForMoreWork front × (rs ≡ front ++ r ∷ [])

-- why a worker ended that got these replies; the steps are spent, or aren't
abbrev pub HasWorked : List Reply → Bool → WorkerEnd → Type 0
HasWorked rs spent end.Stopped = IsLastWork rs Halted
HasWorked rs spent end.Worn = IsLastWork rs Worn
HasWorked rs spent end.Spent = AreForMoreWork rs × (spent ≡ true)
HasWorked rs spent end.NoMemory = AreForMoreWork rs
