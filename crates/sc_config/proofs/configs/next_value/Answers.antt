use Rattle.std.proofs.Common.{Err, refl, ap}
use Rattle.sc_config.proofs.configs.next_value.Goals as goal

pub returns-in-Err-Bad-clause-stop : goal.returns-in-Err-Bad-clause-stop
returns-in-Err-Bad-clause-stop c = λ some. (refl, c.in-Err-Bad.ensures.stop (ap Err c.in-Err-Bad.field-0-is))
