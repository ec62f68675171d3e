use Rattle.std.proofs.Common.{◌≡◌, ℕ, ◌+◌, ◌≤◌, map, not, ◌||◌, ◌&&◌, length}
use Rattle.std.specs.BTreeSet.{IsOrdered}
use Rattle.std.specs.Map.Iter.{deref}
use Rattle.std.specs.Ordering.{nat_cmp}
use Rattle.ac_table.specs.Maps.{is_key}
use Rattle.ac_table.specs.Placed.{tree_in, is_child}
use Rattle.ac_table.proofs.facets.Facets.look_below.Given as goal

abbrev pub invariant-loop-child : goal.invariant-loop-child
invariant-loop-child l = record {
  found : (g : ℕ) → is_key g l.found.keys
      ≡ (is_key g l.fn.found.keys || (is_key g (map deref l.yielded) && is_child g l.facet (tree_in l.self)));
  left : (g : ℕ) → is_key g l.left.keys
      ≡ (is_key g l.fn.left.keys || (not (is_key g l.fn.found.keys)
      && (is_key g (map deref l.yielded) && is_child g l.facet (tree_in l.self))));
  count : length l.left.keys + length l.fn.found.keys ≤ length l.fn.left.keys + length l.found.keys;
  ordered : IsOrdered nat_cmp l.found;
}
