use Rattle.std.proofs.Common.{◌≡◌, ℕ, map}
use Rattle.std.specs.BTreeSet.{IsOrdered}
use Rattle.std.specs.List.{list_any}
use Rattle.std.specs.Map.Iter.{deref}
use Rattle.std.specs.Ordering.{nat_cmp}
use Rattle.ac_table.specs.Maps.{is_key}
use Rattle.ac_table.specs.Placed.{has_at}
use Rattle.ac_table.proofs.facets.Facets.rows_in.Given as goal

abbrev pub invariant-loop-facet : goal.invariant-loop-facet
invariant-loop-facet l = record {
  rows : (h : ℕ) → is_key h l.handles.keys ≡ list_any (λ f. has_at f h l.self) (map deref l.yielded);
  ordered : IsOrdered nat_cmp l.handles;
}
