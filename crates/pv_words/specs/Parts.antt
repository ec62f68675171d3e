-- Whether two values are one, and the parts of values that a place or a key names.
use Rattle.std.specs.Prelude.{ℕ, zero, suc, pos, Bool, List, ◌++◌, Option, Some, None, if◌then◌else◌}
use Rattle.std.specs.Ordering.{eq_by_cmp}
use Rattle.pv_value.specs.Plain.{Plain, integer, Plains, no_more, then_more, PlainPairs, no_pairs, then_pair}
use Rattle.pv_value.specs.Order.{order}

-- whether two values are one
abbrev pub same : Plain → Plain → Bool
same v w = eq_by_cmp order v w

abbrev pub item_at : Plains → ℕ → Option Plain
item_at no_more i = None
item_at (then_more x xs) zero = Some x
item_at (then_more x xs) (suc i) = item_at xs i

-- the item at the place that a value tells
abbrev pub item_under : Plains → Plain → Option Plain
item_under xs (integer (pos i)) = item_at xs i
item_under xs key = None

abbrev pub value_under : PlainPairs → Plain → Option Plain
value_under no_pairs key = None
value_under (then_pair k v ps) key = if same k key then Some v else value_under ps key

-- the lists of two finds behind one another, where both are found
abbrev pub both : Option (List Plain) → Option (List Plain) → Option (List Plain)
both (Some cs) (Some ds) = Some (cs ++ ds)
both (Some cs) None = None
both None ds = None
