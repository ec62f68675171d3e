use Rattle.std.proofs.Common.{◌≡◌, ◌∷◌, [], true, false, cond, if◌then◌else◌, ap, sym, subst, ◌∙◌}
use Rattle.ac_table.specs.Tables.{has_rows, has_facet, tree_of, without_facets}
use Rattle.ac_world.specs.Allocating.{IsRooted}
use Rattle.ac_world.specs.Outboxes.{Plan, with_trees}
use Rattle.ac_world.proofs.OwnFacets.{leaf_gone}
use Rattle.ac_world.proofs.plans.Plan.release_facet.Goals as goal

pub returns-in-Ok-clause-state : goal.returns-in-Ok-clause-state
returns-in-Ok-clause-state c =
    let a = c.args.owner in
    let f = c.args.facet in
    let old : Plan = record { table = c.self.inside.table; out = c.self.inside.out } in
    let was : old ≡ c.args.self.now = c.self.view_is in
    let there : has_facet a f old.table ≡ true =
    subst (λ (p : Plan). has_facet a f p.table ≡ true) (sym was) c.requires.there in
    let rooted : IsRooted (tree_of a old.table) =
    subst (λ (p : Plan). IsRooted (tree_of a p.table)) (sym was) c.requires.rooted in
    let none : has_rows a f old.table ≡ false = sym c.has_rows.ensures ∙ c.if-has_rows.false in
    let gone =
    leaf_gone a f old.table c.stop_facet.new.self c.in-Ok.handles.items c.in-Ok.ensures.stopped there c.requires.below
    rooted none in
    (λ i. record { table = gone i; out = c.self.inside.out })
    ∙ ap (λ b. with_trees (cond b old.table.trees (without_facets a (f ∷ []) old.table).trees) old) (sym none)
    ∙ ap (λ (p : Plan). with_trees
    (if has_rows a f p.table then p.table.trees else (without_facets a (f ∷ []) p.table).trees) p) was
