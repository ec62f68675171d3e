use Rattle.load_laws.proofs.Never.{never_stop}
use Rattle.load_laws.proofs.loads_never_stop.Goals as goal

pub returns : goal.returns
returns c = never_stop c.one_next.ensures c.one_reading.ensures.one
