use Rattle.pv_text.proofs.Whole.{text_good, text_bad}
use Rattle.pv_text.proofs.values.first_value.Goals as goal

pub returns-in_default : goal.returns-in_default
returns-in_default c = text_bad c.args.text.now c.in_default.ensures.cases.0

pub returns : goal.returns
returns c = rw (text_good c.args.text.now c.in-Ok.ensures.cases.1, ← c.no_value-at_end.ensures) c.read_value.ensures
