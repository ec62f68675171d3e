use Rattle.std.proofs.Common.{◌-◌}
use Rattle.rl_stream.specs.Nexts.{Decider, Decides}
use Rattle.sc_script.specs.Runs.{Running, drained}
use Rattle.sc_script.specs.Keeping.{IsAt}
use Rattle.sc_script.proofs.Courses.{GoesOn}
use Rattle.sc_script.proofs.runs.Run.drain.Given as goal

-- so many turns of the drain are done
abbrev pub invariant-loop : goal.invariant-loop
invariant-loop g l =
    (N : Decider) → Decides N → (r : Running) → IsAt r l.fn.self
    → GoesOn (drained l.turns r) (drained (l.turns - l.counter)) l.run
