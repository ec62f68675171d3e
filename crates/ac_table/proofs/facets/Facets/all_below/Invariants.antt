use Rattle.std.proofs.Common.{◌+◌, ◌-◌, length}
use Rattle.std.specs.BTreeSet.{IsOrdered}
use Rattle.std.specs.Ordering.{nat_cmp}
use Rattle.ac_table.specs.Placed.{tree_in}
use Rattle.ac_table.proofs.Searching.{IsSearching}
use Rattle.ac_table.proofs.facets.Facets.all_below.Given as goal

abbrev pub invariant-loop-next : goal.invariant-loop-next
invariant-loop-next l = record {
  searching : IsSearching l.facet (tree_in l.self) l.found.keys l.left.keys;
  ordered : IsOrdered nat_cmp l.found;
}

abbrev pub decreases-loop-next : goal.decreases-loop-next
decreases-loop-next l = length l.left.keys + (length (tree_in l.self) - length l.found.keys)
