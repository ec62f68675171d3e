use Rattle.std.proofs.Common.{subst}
use Rattle.ac_table.specs.Facets.{IsTree}
use Rattle.ac_table.specs.Placed.{tree_in}
use Rattle.ac_table.proofs.facets.Facets.keeps_its_tree.Goals as goal

pub returns : goal.returns
returns c = subst (λ fs. IsTree (tree_in fs)) c.self.view_is c.self.invariant.tree
