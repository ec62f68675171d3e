use Rattle.ds_skeleton.specs.Shapes.{IsDropped}
use Rattle.ds_skeleton.proofs.Walks.{WalkedTo}
use Rattle.ds_skeleton.proofs.index.drop_all.Given as goal

abbrev pub invariant-loop-shape : goal.invariant-loop-shape
invariant-loop-shape l = WalkedTo (IsDropped l.value) l.shape-index l.initial.shape-items l.shape-items
