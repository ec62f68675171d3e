use Rattle.std.proofs.Common.{◌≡◌, false, ap, subst, ◌∙◌}
use Rattle.ac_table.specs.Facets.{least_free}
use Rattle.ac_table.specs.Tables.{has_facet, tree_of, faceted}
use Rattle.ac_world.specs.Outboxes.{Plan, with_trees}
use Rattle.ac_world.proofs.plans.Plan.allocate_facet.Goals as goal

pub returns-in-Ok-clause-number : goal.returns-in-Ok-clause-number
returns-in-Ok-clause-number c =
    c.in-Ok.ensures.number ∙ ap (λ (p : Plan). least_free (tree_of c.args.owner p.table)) c.self.view_is

pub returns-in-Ok-clause-made : goal.returns-in-Ok-clause-made
returns-in-Ok-clause-made c =
    (λ i. record { table = c.in-Ok.ensures.made i; out = c.self.inside.out })
    ∙ ap (λ (p : Plan). with_trees (faceted c.args.owner 0 c.in-Ok.facet p.table).trees p) c.self.view_is

pub returns-in-Ok-clause-free : goal.returns-in-Ok-clause-free
returns-in-Ok-clause-free c =
    subst (λ (p : Plan). has_facet c.args.owner c.in-Ok.facet p.table ≡ false) c.self.view_is c.in-Ok.ensures.least.free
