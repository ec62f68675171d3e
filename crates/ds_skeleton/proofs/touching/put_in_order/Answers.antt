use Rattle.ds_skeleton.proofs.Keys.{each_once, in_order}
use Rattle.ds_skeleton.proofs.touching.put_in_order.Goals as goal

pub returns-clause-keys : goal.returns-clause-keys
returns-clause-keys c =
    each_once _ _ _ c.sort_unstable.ensures.permutation c.dedup.ensures.filtered

pub returns-clause-ascending : goal.returns-clause-ascending
returns-clause-ascending c = in_order _ _ c.sort_unstable.ensures.sorted c.dedup.ensures.filtered
