use Rattle.sc_script.proofs.EventCourses.{first_goes, later_stops}
use Rattle.sc_script.proofs.runs.Run.schema_at.Goals as goal

pub returns-then-place-eq0-clause-run : goal.returns-then-place-eq0-clause-run
returns-then-place-eq0-clause-run g c = λ text N d r at. first_goes c.args.place c.args.self r c.if-place-eq0.true at

pub returns-clause-stop : goal.returns-clause-stop
returns-clause-stop g c = λ text N d r at. later_stops c.args.place r c.if-place-eq0.false
