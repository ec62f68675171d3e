use Rattle.std.proofs.lemmas.List.Sorted.{IsPermutation-map}
use Rattle.pv_value.proofs.sorting.by_fronts.Goals as goal

pub returns : goal.returns
returns g c =
    let moved = IsPermutation-map (λ f. f.item.now) _ _ c.sort_unstable_by_key.ensures.permutation in
    rw (c.in_ok-list.ensures, c.deref.ensures.value, ← c.in_ok-fronts.ensures) moved
