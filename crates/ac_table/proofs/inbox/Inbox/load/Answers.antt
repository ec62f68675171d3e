use Rattle.std.proofs.Common.{◌∙◌, ap}
use Rattle.ac_table.specs.Sums.{top_load, load_waiting}
use Rattle.ac_table.proofs.Totals.{waiting_told}
use Rattle.ac_table.proofs.inbox.Inbox.load.Goals as goal

pub returns : goal.returns
returns c = let i = c.self.inside in
    c.load.ensures ∙ ap top_load c.self.invariant.all ∙ waiting_told i.batches.items
    ∙ ap (λ bs. top_load (load_waiting bs)) c.self.view_is
