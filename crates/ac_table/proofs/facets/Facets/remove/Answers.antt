use Rattle.std.proofs.Common.{◌∙◌, sym, ap, subst, not, filter}
use Rattle.ac_table.specs.Facets.{is_facet, AreBelow}
use Rattle.ac_table.specs.Maps.{is_key}
use Rattle.ac_table.specs.Placed.{tree_in}
use Rattle.ac_table.proofs.Freeing.{gone_not_free, placed_less, placed_freed, less_seen, ascend_seen}
use Rattle.ac_table.proofs.facets.Facets.remove.Goals as goal

pub free_all-requires : goal.free_all-requires
free_all-requires c = let i = c.self.inside in
    let below = subst (λ fs. AreBelow c.args.facet (tree_in fs) c.args.facets.now.keys) (sym c.self.view_is)
    c.requires.below in
    gone_not_free c.args.facet c.args.facets.now.keys i.all.entries i.free.keys i.end c.self.invariant below

pub invariant_of-self : goal.invariant_of-self
invariant_of-self c = let i = c.self.inside in
    placed_freed i.all.entries i.free.keys c.free_all.new.free.keys i.end c.self.invariant
    c.in_err-free_all.ensures.same

pub invariant_of-self-2 : goal.invariant_of-self-2
invariant_of-self-2 c = let i = c.self.inside in
    let below = subst (λ fs. AreBelow c.args.facet (tree_in fs) c.args.facets.now.keys) (sym c.self.view_is)
    c.requires.below in
    let there = ap (λ fs. is_facet c.args.facet (tree_in fs)) c.self.view_is ∙ c.requires.there in
    placed_less c.args.facet c.args.facets.now.keys i.all.entries c.unlink.new.all.entries
    c.remove_all.new.all.entries i.free.keys c.free_all.new.free.keys i.end c.self.invariant below
    c.unlink.ensures.same c.unlink.ensures.kept c.remove_all.ensures.gone there c.in_ok-free_all.ensures.freed
    c.remove_all.ensures.ordered (ascend_seen c.remove_all.new.all.entries c.remove_all.ensures.ordered)

pub returns-clause-gone : goal.returns-clause-gone
returns-clause-gone c = let i = c.self.inside in
    less_seen c.args.facets.now.keys i.all.entries c.unlink.new.all.entries c.remove_all.new.all.entries
    c.unlink.ensures.same c.remove_all.ensures.gone
    ∙ ap (filter (λ e. not (is_key e.0 c.args.facets.now.keys))) c.self.view_is
