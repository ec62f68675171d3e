use Rattle.std.proofs.Common.{◌∙◌, sym, ap}
use Rattle.std.specs.Map.{values_of}
use Rattle.ac_table.specs.Tables.{has_rows}
use Rattle.ac_table.proofs.Removing.{ascend_from}
use Rattle.ac_table.proofs.Stopping.{some_stand, none_stand}
use Rattle.ac_table.proofs.table.Table.has_rows.Goals as goal

pub returns-in-Some : goal.returns-in-Some
returns-in-Some c = let i = c.self.inside in
    let k = c.self.invariant.kept in
    c.has_rows.ensures
    ∙ some_stand c.args.actor c.args.facet c.in-Some.it.now i.actors.entries (values_of i.rows.entries)
    c.self.invariant.standing (sym c.in-Some.ensures.value) (ascend_from i.rows.entries k.keyed k.rows_ascend)
    ∙ ap (has_rows c.args.actor c.args.facet) c.self.view_is

pub returns-in-None : goal.returns-in-None
returns-in-None c = let i = c.self.inside in
    sym (none_stand c.args.actor c.args.facet i.actors.entries (values_of i.rows.entries) c.self.invariant.kept.owners
    (sym c.in-None.ensures.value))
    ∙ ap (has_rows c.args.actor c.args.facet) c.self.view_is
