-- Export numbers as a list: ascending, each once.
use Rattle.std.specs.Prelude.{ℕ, List}
use Rattle.std.specs.Ordering.{nat_cmp}
use Rattle.std.specs.List.Sorted.{IsStrictlySortedBy}

abbrev pub Ascend : List ℕ → Type 0
Ascend ns = IsStrictlySortedBy nat_cmp ns
