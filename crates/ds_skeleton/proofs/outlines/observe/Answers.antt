use Rattle.std.proofs.Common.{◌≡◌, None, rules}
use Rattle.std.specs.BTreeMap as tree
use Rattle.ds_skeleton.specs.Places.{place_of}
use Rattle.ds_skeleton.proofs.Moves.{other_came}
use Rattle.ds_skeleton.proofs.outlines.observe.Goals as goal

pub returns-in-None-clause-index : goal.returns-in-None-clause-index
returns-in-None-clause-index c seen are index =
    let is : place_of c.args.value.now ≡ None = search rules in
    other_came (tree.keys c.args.values.now) seen c.args.shapes.now.items c.args.value.now is index
