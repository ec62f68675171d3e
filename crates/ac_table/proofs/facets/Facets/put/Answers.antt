use Rattle.std.proofs.Common.{◌∙◌, sym, ap, subst, List, ℕ, map, true}
use Rattle.ac_table.specs.Placed.{facet_seen, tree_in, HasRow, SameRows, FacetState}
use Rattle.ac_table.proofs.Placing.{no_facet}
use Rattle.ac_table.proofs.Refaceting.{rewritten, tree_rewritten, placed_rewritten, has_rewritten, same_rewritten}
use Rattle.ac_table.proofs.Members.{on_err}
use Rattle.ac_table.proofs.facets.Facets.put.Goals as goal

pub returns-in_default-clause-put : goal.returns-in_default-clause-put
returns-in_default-clause-put c = let i = c.self.inside in
    absurd (no_facet c.args.facet i.all.entries _ c.self.view_is (sym c.in_default.ensures.value) c.requires)

pub invariant_of-self-in_err-insert : goal.invariant_of-self-in_err-insert
invariant_of-self-in_err-insert c = let i = c.self.inside in
    let y = rewritten c.in-Some.it.now c.insert.new.self in
    placed_rewritten c.args.facet c.in-Some.it.now c.insert.new.self i.all (c.get_mut.follows.lender y)
    (sym c.in-Some.ensures.value) i.free.keys i.end (c.get_mut.follows.holds y) c.self.invariant

pub invariant_of-self-2 : goal.invariant_of-self-2
invariant_of-self-2 c = let i = c.self.inside in
    let y = rewritten c.in-Some.it.now c.insert.new.self in
    placed_rewritten c.args.facet c.in-Some.it.now c.insert.new.self i.all (c.get_mut.follows.lender y)
    (sym c.in-Some.ensures.value) i.free.keys i.end (c.get_mut.follows.holds y) c.self.invariant

pub returns-in_err-insert-clause-tree : goal.returns-in_err-insert-clause-tree
returns-in_err-insert-clause-tree c = let i = c.self.inside in
    let y = rewritten c.in-Some.it.now c.insert.new.self in
    tree_rewritten c.args.facet c.in-Some.it.now c.insert.new.self i.all (c.get_mut.follows.lender y)
    (sym c.in-Some.ensures.value) (c.get_mut.follows.holds y) ∙ ap tree_in c.self.view_is

pub returns-in_err-insert-clause-same : goal.returns-in_err-insert-clause-same
returns-in_err-insert-clause-same c = let i = c.self.inside in
    let y = rewritten c.in-Some.it.now c.insert.new.self in
    let new = c.get_mut.follows.lender y in
    on_err _ c.from_residual.result (subst (λ (fs : List (ℕ × FacetState)). SameRows fs (map facet_seen new.entries))
    c.self.view_is (same_rewritten c.args.facet c.in-Some.it.now c.insert.new.self i.all new
    (sym c.in-Some.ensures.value) (c.get_mut.follows.holds y) c.in_err-insert.ensures.err))

pub returns-clause-tree : goal.returns-clause-tree
returns-clause-tree c = let i = c.self.inside in
    let y = rewritten c.in-Some.it.now c.insert.new.self in
    tree_rewritten c.args.facet c.in-Some.it.now c.insert.new.self i.all (c.get_mut.follows.lender y)
    (sym c.in-Some.ensures.value) (c.get_mut.follows.holds y) ∙ ap tree_in c.self.view_is

pub returns-clause-put : goal.returns-clause-put
returns-clause-put c = let i = c.self.inside in
    let y = rewritten c.in-Some.it.now c.insert.new.self in
    let new = c.get_mut.follows.lender y in
    subst (λ (fs : List (ℕ × FacetState)). HasRow c.args.facet c.args.handle true fs (map facet_seen new.entries))
    c.self.view_is
    (has_rewritten c.args.facet c.in-Some.it.now c.insert.new.self i.all new (sym c.in-Some.ensures.value)
    c.args.handle true (c.get_mut.follows.holds y) c.in_ok-insert.ensures.updates.0)
