-- What a worker does behind its work, as its code tells it. What is promised of a worker speaks of none of it.
use Rattle.std.specs.Prelude.{Option, None, Some}
use Rattle.hub_machine.specs.declared.steps.Reply.{Reply}
use Rattle.hub_machine.specs.declared.steps.Reply.TheVariants as reply
use Rattle.turn_gate.specs.declared.gate.GateFault.{GateFault}
use Rattle.turn_gate.specs.declared.gate.GateFault.TheVariants as gate
use Rattle.srv_turns.specs.declared.worker.WorkerEnd.{WorkerEnd}
use Rattle.srv_turns.specs.declared.worker.WorkerEnd.TheVariants as end
use Rattle.srv_turns.specs.declared.worker.After.{After}
use Rattle.srv_turns.specs.declared.worker.After.TheVariants.{More, Rest, Over}

abbrev pub after_work : Reply → After
after_work reply.Idle = Rest
after_work reply.Halted = Over end.Stopped
after_work reply.Worn = Over end.Worn
after_work r = More

-- behind a row of work with this last reply
abbrev pub after_row : Option Reply → After
after_row (Some r) = after_work r
after_row None = More

-- how a worker ends where no step was done
abbrev pub end_at : GateFault → WorkerEnd
end_at gate.Spent = end.Spent
end_at gate.NoMemory = end.NoMemory
