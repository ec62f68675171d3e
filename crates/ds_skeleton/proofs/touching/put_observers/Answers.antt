use Rattle.ds_skeleton.proofs.Keys.{one_observer}
use Rattle.ds_skeleton.proofs.touching.put_observers.Goals as goal

pub loop-observer-preserved : goal.loop-observer-preserved
loop-observer-preserved c q =
    one_observer c.args.captures.now q c.loop-observer.yielded c.in-Some.observer _ _ _ (c.in_ok-put_key.ensures q)
    (c.loop-observer.invariant q)
