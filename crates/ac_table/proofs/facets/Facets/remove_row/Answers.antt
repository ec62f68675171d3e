use Rattle.std.proofs.Common.{◌∙◌, sym, ap, subst, ℕ, List, map, false}
use Rattle.ac_table.specs.Placed.{facet_seen, tree_in, HasRow, FacetState}
use Rattle.ac_table.specs.declared.facets.Facet.{Facet}
use Rattle.std.specs.BTreeMap.{BTreeMap}
use Rattle.ac_table.proofs.Placing.{no_row}
use Rattle.ac_table.proofs.Refaceting.{rewritten, tree_rewritten, placed_rewritten, has_rewritten}
use Rattle.ac_table.proofs.facets.Facets.remove_row.Goals as goal

pub returns-in_default-clause-gone : goal.returns-in_default-clause-gone
returns-in_default-clause-gone c = let i = c.self.inside in
    subst (λ (fs : List (ℕ × FacetState)). HasRow c.args.facet c.args.handle false fs (map facet_seen
    c.get_mut.follows.lender-at-none.entries)) c.self.view_is
    (subst (λ (m : BTreeMap ℕ Facet). HasRow c.args.facet c.args.handle false (map facet_seen i.all.entries)
    (map facet_seen m.entries)) (sym c.get_mut.follows.holds-at-none)
    (no_row c.args.facet c.args.handle i.all.entries (sym c.in_default.ensures.value)))

pub invariant_of-self-2 : goal.invariant_of-self-2
invariant_of-self-2 c = let i = c.self.inside in
    let y = rewritten c.in-Some.it.now c.remove.new.self in
    placed_rewritten c.args.facet c.in-Some.it.now c.remove.new.self i.all (c.get_mut.follows.lender y)
    (sym c.in-Some.ensures.value) i.free.keys i.end (c.get_mut.follows.holds y) c.self.invariant

pub returns-clause-tree : goal.returns-clause-tree
returns-clause-tree c = let i = c.self.inside in
    let y = rewritten c.in-Some.it.now c.remove.new.self in
    tree_rewritten c.args.facet c.in-Some.it.now c.remove.new.self i.all (c.get_mut.follows.lender y)
    (sym c.in-Some.ensures.value) (c.get_mut.follows.holds y) ∙ ap tree_in c.self.view_is

pub returns-clause-gone : goal.returns-clause-gone
returns-clause-gone c = let i = c.self.inside in
    let y = rewritten c.in-Some.it.now c.remove.new.self in
    let new = c.get_mut.follows.lender y in
    subst (λ (fs : List (ℕ × FacetState)). HasRow c.args.facet c.args.handle false fs (map facet_seen new.entries))
    c.self.view_is
    (has_rewritten c.args.facet c.in-Some.it.now c.remove.new.self i.all new (sym c.in-Some.ensures.value)
    c.args.handle false (c.get_mut.follows.holds y) c.remove.ensures.updates.0)
