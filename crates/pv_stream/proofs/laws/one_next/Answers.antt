use Rattle.pv_stream.proofs.One.{one_is_next, some_is_next, never_truncated}
use Rattle.pv_stream.proofs.laws.one_next.Goals as goal

pub returns : goal.returns
returns c = record {
  some = some_is_next c.one_of_three.ensures;
  one = one_is_next c.one_of_three.ensures;
  never_truncated = never_truncated;
}
