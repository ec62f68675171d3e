use Rattle.std.proofs.Common.{◌∙◌, ap, sym}
use Rattle.std.specs.Map.{values_of}
use Rattle.ac_table.specs.Sums.{top, weight_of_rows, weight_owned}
use Rattle.ac_table.specs.Tables.{TableState, rows_of}
use Rattle.ac_table.proofs.Keeps.{no_rows}
use Rattle.ac_table.proofs.Weighing.{sum_of_rows-top}
use Rattle.ac_table.proofs.table.Table.row_weight.Goals as goal

pub returns-in-Some : goal.returns-in-Some
returns-in-Some c = let i = c.self.inside in
    c.told.ensures
    ∙ ap top (c.self.invariant.kept.weighed c.args.actor c.in-Some.it.now (sym c.in-Some.ensures.value))
    ∙ sum_of_rows-top (rows_of c.args.actor (values_of i.rows.entries))
    ∙ ap (λ (t : TableState). top (weight_owned c.args.actor t)) c.self.view_is

pub returns-in-None : goal.returns-in-None
returns-in-None c = let i = c.self.inside in
    let none = no_rows c.args.actor i.actors.entries (values_of i.rows.entries) c.self.invariant.kept.owners
    (sym c.in-None.ensures.value) in
    ap (λ rs. top (weight_of_rows rs)) (sym none)
    ∙ ap (λ (t : TableState). top (weight_owned c.args.actor t)) c.self.view_is
