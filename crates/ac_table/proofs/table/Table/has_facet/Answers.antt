use Rattle.std.proofs.Common.{◌∙◌, sym, ap}
use Rattle.ac_table.specs.Facets.{is_facet}
use Rattle.ac_table.specs.Tables.{has_facet}
use Rattle.ac_table.proofs.Becomes.{tree_is, no_tree}
use Rattle.ac_table.proofs.table.Table.has_facet.Goals as goal

pub returns-in-Some : goal.returns-in-Some
returns-in-Some c = let i = c.self.inside in
    c.has.ensures
    ∙ ap (is_facet c.args.facet) (sym (tree_is c.args.actor i.next c.in-Some.it.now i.rows.entries i.actors.entries
    (sym c.in-Some.ensures.value)))
    ∙ ap (has_facet c.args.actor c.args.facet) c.self.view_is

pub returns-in-None : goal.returns-in-None
returns-in-None c = let i = c.self.inside in
    ap (is_facet c.args.facet) (sym (no_tree c.args.actor i.next i.rows.entries i.actors.entries
    (sym c.in-None.ensures.value)))
    ∙ ap (has_facet c.args.actor c.args.facet) c.self.view_is
