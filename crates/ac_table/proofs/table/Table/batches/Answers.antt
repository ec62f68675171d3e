use Rattle.std.proofs.Common.{◌≡◌, ◌∙◌, ap, arith}
use Rattle.ac_table.specs.Tables.{waiting}
use Rattle.ac_table.proofs.Counting.{waiting-seen}
use Rattle.ac_table.proofs.table.Table.batches.Goals as goal

pub returns : goal.returns
returns c = let i = c.self.inside in
    let is : i.waiting ≡ waiting c.args.self.now = c.self.invariant.counted ∙ waiting-seen i.actors.entries
    ∙ ap waiting c.self.view_is in
    omega (arith, is)
