use Rattle.pv_text.proofs.All.{all_good, all_bad}
use Rattle.pv_text.proofs.values.checked_values.Goals as goal

pub returns-in_default : goal.returns-in_default
returns-in_default c = all_bad c.args.text.now c.in_default.ensures.cases.0

pub returns : goal.returns
returns c = rw (all_good c.args.text.now c.in-Ok.ensures.cases.1) c.all_values.ensures
