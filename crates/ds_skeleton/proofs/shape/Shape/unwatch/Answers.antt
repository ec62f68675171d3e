use Rattle.std.proofs.Common.{refl, rules}
use Rattle.ds_skeleton.proofs.shape.Shape.unwatch.Goals as goal

pub returns : goal.returns
returns c = record {
  outline = refl;
  observations = search rules;
  leaves = c.unwatch.ensures.leaves;
  counts = c.unwatch.ensures.counts;
  observers = c.unwatch.ensures.observers;
}
