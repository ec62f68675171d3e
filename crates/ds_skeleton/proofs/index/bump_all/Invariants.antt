use Rattle.ds_skeleton.specs.Shapes.{IsBumped}
use Rattle.ds_skeleton.proofs.Walks.{WalkedTo}
use Rattle.ds_skeleton.proofs.index.bump_all.Given as goal

abbrev pub invariant-loop-shape : goal.invariant-loop-shape
invariant-loop-shape l = WalkedTo (IsBumped l.value) l.shape-index l.initial.shape-items l.shape-items
