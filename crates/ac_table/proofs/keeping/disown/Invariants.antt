use Rattle.std.proofs.Common.{◌≡◌, ℕ, map, ◌&&◌, not}
use Rattle.std.specs.BTreeSet.{IsOrdered}
use Rattle.std.specs.Map.Iter.{deref}
use Rattle.std.specs.Ordering.{nat_cmp}
use Rattle.ac_table.specs.Maps.{is_key}
use Rattle.ac_table.proofs.keeping.disown.Given as goal

abbrev pub invariant-loop-handle : goal.invariant-loop-handle
invariant-loop-handle l = record {
  own : (h : ℕ) → is_key h l.own.keys ≡ (is_key h l.fn.own.keys && not (is_key h (map deref l.yielded)));
  ordered : IsOrdered nat_cmp l.own;
}
