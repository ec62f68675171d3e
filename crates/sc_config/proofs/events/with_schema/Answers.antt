use Rattle.sc_config.proofs.Parts.{first_goes, later_stops}
use Rattle.sc_config.proofs.events.with_schema.Goals as goal

pub returns-then-place-eq0-clause-set : goal.returns-then-place-eq0-clause-set
returns-then-place-eq0-clause-set g c = λ text d at. first_goes c.args.place c.args.hub d c.if-place-eq0.true at

pub returns-clause-stop : goal.returns-clause-stop
returns-clause-stop g c = λ text d at. later_stops c.args.place d c.if-place-eq0.false
