use Rattle.std.proofs.Common.{◌≡◌, ℕ, map, ◌&&◌, not}
use Rattle.std.specs.Map.Iter.{deref}
use Rattle.ac_table.specs.Maps.{is_key}
use Rattle.ac_table.proofs.sets.take_all.Given as goal

abbrev pub invariant-loop-number : goal.invariant-loop-number
invariant-loop-number l =
    (n : ℕ) → is_key n l.free.keys ≡ (is_key n l.fn.free.keys && not (is_key n (map deref l.yielded)))
