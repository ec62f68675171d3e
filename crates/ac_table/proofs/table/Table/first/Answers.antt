use Rattle.std.proofs.Common.{refl}
use Rattle.ac_table.proofs.Finding.{first_batch-seen}
use Rattle.ac_table.proofs.table.Table.first.Goals as goal

pub returns-in_err-it : goal.returns-in_err-it
returns-in_err-it c = let i = c.self.inside in
    rw (← c.self.view_is, first_batch-seen c.args.actor i.next i.rows.entries i.actors.entries, ← c.get.ensures.value) (
    rw (c.from_residual.ensures, c.in_err-it.was) refl)

pub returns : goal.returns
returns c = let i = c.self.inside in
    rw (← c.self.view_is, first_batch-seen c.args.actor i.next i.rows.entries i.actors.entries, ← c.get.ensures.value) (
    rw (c.in_ok-it.was) c.front.ensures)
