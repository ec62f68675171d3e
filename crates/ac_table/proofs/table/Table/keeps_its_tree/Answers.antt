use Rattle.std.proofs.Common.{◌∙◌, sym, ap, subst}
use Rattle.ac_table.specs.Facets.{IsTree}
use Rattle.ac_table.specs.Tables.{tree_of}
use Rattle.ac_table.proofs.Becomes.{tree_is, no_tree}
use Rattle.ac_table.proofs.Trees.{tree_none}
use Rattle.ac_table.proofs.table.Table.keeps_its_tree.Goals as goal

pub returns-in-Some : goal.returns-in-Some
returns-in-Some c = let i = c.self.inside in
    subst IsTree (sym (tree_is c.args.actor i.next c.in-Some.it.now i.rows.entries i.actors.entries
    (sym c.in-Some.ensures.value)) ∙ ap (tree_of c.args.actor) c.self.view_is) c.keeps_its_tree.ensures

pub returns-in-None : goal.returns-in-None
returns-in-None c = let i = c.self.inside in
    subst IsTree (sym (no_tree c.args.actor i.next i.rows.entries i.actors.entries (sym c.in-None.ensures.value))
    ∙ ap (tree_of c.args.actor) c.self.view_is) tree_none
