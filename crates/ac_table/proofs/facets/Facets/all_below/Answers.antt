use Rattle.std.proofs.Common.{ℕ, ap, arith, length, List}
use Rattle.ac_table.specs.Placed.{tree_in}
use Rattle.ac_table.proofs.Lowest.{no_keys}
use Rattle.ac_table.proofs.Searching.{search_begins, search_goes_on, search_ends, found_fit, one_at_first, one_left}
use Rattle.ac_table.proofs.facets.Facets.all_below.Goals as goal

pub loop-next-init : goal.loop-next-init
loop-next-init c = record {
  searching = search_begins c.args.facet (tree_in c.args.self.now) c.find.new.found.keys c.find.new.left.keys c.requires
      (one_at_first c.args.facet _ c.find.new.found.keys c.new-found.ensures.empty c.in_ok-find.ensures.found)
      (one_left c.args.facet _ _ c.find.new.left.keys c.new-found.ensures.empty c.new-left.ensures.empty
      c.in_ok-find.ensures.left);
  ordered = c.find.ensures.ordered;
}

pub loop-next-preserved : goal.loop-next-preserved
loop-next-preserved c = record {
  searching = search_goes_on c.args.facet c.in-Some.next (tree_in c.args.self.now) c.loop-next.found.keys
      c.loop-next.left.keys c.pop_first.new.self.keys c.look_below.new.found.keys c.look_below.new.left.keys
      c.loop-next.invariant.searching c.in-Some.ensures.removal c.in_ok-look_below.ensures.found
      c.in_ok-look_below.ensures.left;
  ordered = c.in_ok-look_below.ensures.ordered;
}

pub loop-next-smaller : goal.loop-next-smaller
loop-next-smaller c =
    let s = search_goes_on c.args.facet c.in-Some.next (tree_in c.args.self.now) c.loop-next.found.keys
    c.loop-next.left.keys c.pop_first.new.self.keys c.look_below.new.found.keys c.look_below.new.left.keys
    c.loop-next.invariant.searching c.in-Some.ensures.removal c.in_ok-look_below.ensures.found
    c.in_ok-look_below.ensures.left in
    let fit = found_fit c.args.facet (tree_in c.args.self.now) c.look_below.new.found.keys
    c.look_below.new.left.keys s c.in_ok-look_below.ensures.ordered in
    let len = ap (λ (ks : List ℕ). length ks) c.in-Some.ensures.removal in
    omega (arith, fit, len, c.in_ok-look_below.ensures.count)

pub returns : goal.returns
returns c =
    search_ends c.args.facet (tree_in c.args.self.now) c.loop-next.found.keys c.loop-next.left.keys
    c.keeps_its_tree.ensures c.loop-next.invariant.searching
    (no_keys _ c.in_default.ensures.variant.1)
