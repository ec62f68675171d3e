use Rattle.pv_stream.proofs.Exact.{exact}
use Rattle.pv_stream.proofs.laws.scan_is_exact.Goals as goal

pub returns : goal.returns
returns c = λ bytes are. exact bytes (c.one_of_three.ensures bytes are) (c.reading_tells.ensures bytes are)
