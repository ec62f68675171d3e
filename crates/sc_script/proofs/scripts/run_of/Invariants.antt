-- What the run of an input keeps: so many of its values are read and done.
use Rattle.std.proofs.Common.{◌≤◌, length}
use Rattle.sc_events.specs.Limits.{most_input}
use Rattle.sc_events.specs.SoFar.{left}
use Rattle.sc_script.proofs.InputCourses.{IsDone}
use Rattle.sc_script.proofs.scripts.run_of.Given as goal

abbrev pub invariant-loop-value : goal.invariant-loop-value
invariant-loop-value g l = record {
  short : length l.bytes ≤ most_input;
  done : IsDone l.fn.form l.bytes l.place l.values l.run;
}

abbrev pub decreases-loop-value : goal.decreases-loop-value
decreases-loop-value g l = left l.values
