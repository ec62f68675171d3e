use Rattle.std.proofs.Common.{◌≡◌, map, not, filter}
use Rattle.std.specs.BTreeMap.{IsOrdered}
use Rattle.std.specs.Map.Iter.{deref}
use Rattle.std.specs.Ordering.{nat_cmp}
use Rattle.ac_table.specs.Maps.{is_key}
use Rattle.ac_table.proofs.sets.remove_all.Given as goal

abbrev pub invariant-loop-number : goal.invariant-loop-number
invariant-loop-number g l = record {
  gone : l.all.entries ≡ filter (λ e. not (is_key e.0 (map deref l.yielded))) l.fn.all.entries;
  ordered : IsOrdered nat_cmp l.all;
}
