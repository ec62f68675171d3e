use Rattle.std.proofs.Common.{◌∙◌}
use Rattle.pv_words.specs.Parts.{same}
use Rattle.ds_skeleton.specs.Keys.{has_key}
use Rattle.ds_skeleton.proofs.Answered.{then_ok}
use Rattle.ds_skeleton.proofs.Keys.{some_counted, none_counted}
use Rattle.ds_skeleton.proofs.touching.put_counted.Goals as goal

pub returns-then-count-gt0 : goal.returns-then-count-gt0
returns-then-count-gt0 c =
    then_ok c.put_key.result
    (λ put q. put q
    ∙ some_counted (has_key c.args.keys.now.items q) (same c.args.observer.now q.key)
    (same c.args.captures.now q.value) c.args.count c.if-count-gt0.true)
    c.put_key.ensures

pub returns : goal.returns
returns c q =
    none_counted (has_key c.args.keys.now.items q) (same c.args.observer.now q.key)
    (same c.args.captures.now q.value) c.args.count c.if-count-gt0.false
