use Rattle.kp_bound.proofs.OneWay.{one_list, not_both}
use Rattle.kp_bound.proofs.laws.records_have_one_reading.Goals as goal

pub returns : goal.returns
returns c = record { one = one_list c.canonical_is_exact.ensures.exact; or_bad = not_both }
