-- What reading a configuration keeps: so many of its values are read and done.
use Rattle.sc_events.specs.SoFar.{left}
use Rattle.sc_config.proofs.TextCourses.{IsDone}
use Rattle.sc_config.proofs.configs.configured.Given as goal

abbrev pub invariant-loop-value : goal.invariant-loop-value
invariant-loop-value g l = IsDone l.text l.place l.values l.hub

abbrev pub decreases-loop-value : goal.decreases-loop-value
decreases-loop-value g l = left l.values
