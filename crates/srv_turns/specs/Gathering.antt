-- What a writer has gathered, as its parts promise it to one another. What is promised of a session speaks of none of it.
use Rattle.std.specs.Prelude.{◌≡◌, ◌⊎◌, ℕ, List, ◌++◌, Bool, true, Option, None, Some}
use Rattle.hub_machine.specs.declared.steps.Step.TheVariants.{Close}
use Rattle.hub_machine.specs.declared.steps.Reply.{Reply}
use Rattle.hub_machine.specs.declared.steps.Reply.TheVariants as reply
use Rattle.turn_gate.specs.declared.gate.GateFault.{GateFault}
use Rattle.turn_gate.specs.declared.gate.GateFault.TheVariants as gate
use Rattle.srv_turns.specs.Rounds.{Pair}
use Rattle.srv_turns.specs.Keeping.{IsDone, IsCut}
use Rattle.srv_turns.specs.Writing.{spelled_in, AreForMoreTurns, IsLastTurn, AreTurns}
use Rattle.srv_turns.specs.declared.writer.WriterEnd.{WriterEnd}
use Rattle.srv_turns.specs.declared.writer.WriterEnd.TheVariants as end
use Rattle.srv_turns.specs.declared.writer.Pause.{Pause}
use Rattle.srv_turns.specs.declared.writer.Pause.TheVariants.{Full, Idle, Over}

-- how a writer ends where no turn was made
abbrev pub end_at : GateFault → WriterEnd
end_at gate.Spent = end.Spent
end_at gate.NoMemory = end.NoMemory

-- why no more turns are made for now behind this reply, where that is so
abbrev pub after_turn : Reply → Option Pause
after_turn reply.Idle = Some Idle
after_turn reply.Gone = Some (Over end.Ended)
after_turn reply.Worn = Some (Over end.Worn)
after_turn r = None

-- behind a row with this last reply
abbrev pub after_row : Option Reply → Option Pause
after_row (Some r) = after_turn r
after_row None = None

-- what turns with these replies sent is gathered, all of it or a front, and why no more turns are made
abbrev pub IsPaused : List Reply → List ℕ → Bool → Pause → Type 0
IsPaused rs bytes spent Full = AreForMoreTurns rs × (bytes ≡ spelled_in rs)
IsPaused rs bytes spent Idle = IsLastTurn rs reply.Idle × (bytes ≡ spelled_in rs)
IsPaused rs bytes spent (Over end.Ended) = IsLastTurn rs reply.Gone × (bytes ≡ spelled_in rs)
IsPaused rs bytes spent (Over end.Worn) = IsLastTurn rs reply.Worn × (bytes ≡ spelled_in rs)
IsPaused rs bytes spent (Over end.Spent) = AreForMoreTurns rs × (bytes ≡ spelled_in rs) × (spent ≡ true)
IsPaused rs bytes spent (Over end.NoMemory) = AreTurns rs × ((rest : List ℕ) × (spelled_in rs ≡ bytes ++ rest))
IsPaused rs bytes spent (Over end.WriteFault) = ⊥

-- behind turns with these replies this is gathered more, and then more turns are made or not
abbrev pub IsGathered : List Reply → List ℕ → List ℕ → Bool → Option Pause → Type 0
IsGathered rs before now spent None = AreForMoreTurns rs × (now ≡ before ++ spelled_in rs)
IsGathered rs before now spent (Some p) = (bytes : List ℕ) × (now ≡ before ++ bytes) × IsPaused rs bytes spent p

-- the connection was closed for its link's fault, with the work behind that; or there was no room for a step or no
-- memory
abbrev pub IsShut : ℕ → List Pair → List Pair → Bool → WriterEnd → Type 0
IsShut k before now spent end.WriteFault =
    ((r : Reply) × IsDone (Close k) r before now) ⊎ (IsCut (Close k) before now × (spent ≡ true))
IsShut k before now spent end.NoMemory = IsCut (Close k) before now
IsShut k before now spent x = ⊥

-- no step was done meanwhile, and steps that were spent are
abbrev pub IsLooked : List Pair → List Pair → Bool → Bool → Type 0
IsLooked before now was_spent spent = (now ≡ before) × (was_spent ≡ true → spent ≡ true)
