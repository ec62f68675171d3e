use Rattle.kp_keeper.proofs.Places.{ascend_none}
use Rattle.kp_keeper.proofs.records.Records.new.Goals as goal

pub invariant_of-result : goal.invariant_of-result
invariant_of-result c = ascend_none c.new.result.items c.new.ensures.items
