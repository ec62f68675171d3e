use Rattle.ds_skeleton.proofs.Keys.{key_added}
use Rattle.ds_skeleton.proofs.touching.put_key.Goals as goal

pub returns : goal.returns
returns c q =
    key_added c.args.observer.now c.args.captures.now _ _ q c.args.keys.now.items _ c.in_ok-copy.ensures
    c.in_ok-copy-2.ensures c.in_ok-push.ensures.items
