use Rattle.std.proofs.Common.{◌≡◌, map, take}
use Rattle.pv_value.proofs.sorting.copies.Given as goal

abbrev pub invariant-loop-f : goal.invariant-loop-f
invariant-loop-f g l = l.list.items ≡ map (λ f. f.item.now) (take l.f-index l.fronts)
