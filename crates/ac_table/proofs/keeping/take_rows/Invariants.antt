use Rattle.std.proofs.Common.{◌≡◌, ◌+◌, ◌≤◌, map, vec_len, vec_capacity}
use Rattle.std.specs.BTreeMap.{values, IsOrdered}
use Rattle.std.specs.BTreeSet.{btree_set_len}
use Rattle.std.specs.Ordering.{nat_cmp}
use Rattle.ac_table.specs.Kept.{by_handle}
use Rattle.ac_table.proofs.Taking.{IsTaking}
use Rattle.ac_table.proofs.keeping.take_rows.Given as goal

abbrev pub invariant-loop-handle : goal.invariant-loop-handle
invariant-loop-handle l = record {
  keyed : l.rows.entries ≡ map by_handle (values l.rows);
  ordered : IsOrdered nat_cmp l.rows;
  room : vec_len l.taken + btree_set_len l.left ≤ vec_capacity l.taken;
  taking : IsTaking l.fn.handles.keys (values l.fn.rows) l.left.keys (values l.rows) l.taken.items;
}

abbrev pub decreases-loop-handle : goal.decreases-loop-handle
decreases-loop-handle l = btree_set_len l.left
