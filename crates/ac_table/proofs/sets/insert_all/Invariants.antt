use Rattle.std.proofs.Common.{◌≡◌, ℕ, map, ◌||◌}
use Rattle.std.specs.BTreeSet.{IsOrdered}
use Rattle.std.specs.Map.Iter.{deref}
use Rattle.std.specs.Ordering.{nat_cmp}
use Rattle.ac_table.specs.Maps.{is_key}
use Rattle.ac_table.proofs.sets.insert_all.Given as goal

abbrev pub invariant-loop-number : goal.invariant-loop-number
invariant-loop-number l = record {
  all : (h : ℕ) → is_key h l.numbers.keys ≡ (is_key h l.fn.numbers.keys || is_key h (map deref l.yielded));
  ordered : IsOrdered nat_cmp l.numbers;
}
