use Rattle.std.proofs.Common.{◌≡◌, None, rules}
use Rattle.std.specs.BTreeMap as tree
use Rattle.ds_skeleton.specs.Places.{place_of}
use Rattle.ds_skeleton.proofs.Moves.{other_went}
use Rattle.ds_skeleton.proofs.outlines.unobserve.Goals as goal

pub returns-in_default-clause-index : goal.returns-in_default-clause-index
returns-in_default-clause-index c =
    let is : place_of c.args.value.now ≡ None = search rules in
    other_went (tree.keys c.args.values.now) (tree.keys c.args.values.now) c.args.shapes.now.items c.args.value.now is
    c.requires.index
