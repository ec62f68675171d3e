use Rattle.std.proofs.Common.{◌≡◌, map, take}
use Rattle.pv_value.proofs.sorting.fronts_of.Given as goal

abbrev pub invariant-loop-item : goal.invariant-loop-item
invariant-loop-item g l = map (λ f. f.item.now) l.fronts.items ≡ take l.item-index l.items
