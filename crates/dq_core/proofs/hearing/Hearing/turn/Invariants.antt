use Rattle.dq_core.proofs.Turning.{IsHeardTo}
use Rattle.dq_core.proofs.hearing.Hearing.turn.Given as goal

-- the events so far are heard
abbrev pub invariant-loop-event : goal.invariant-loop-event
invariant-loop-event l = IsHeardTo l.event-items l.initial.self l.event-index l.self
