use Rattle.std.proofs.Common.{refl}
use Rattle.std.proofs.lemmas.List.Sorted.{IsPermutation-trans}
use Rattle.pv_value.proofs.Ascends.{distinct_moved}
use Rattle.pv_value.proofs.sets.ascending.Goals as goal

pub returns-in-Some-clause-ok : goal.returns-in-Some-clause-ok
returns-in-Some-clause-ok c =
    let moved = rw c.deref-2.ensures.value at c.in_ok-by_fronts.ensures in
    (IsPermutation-trans _ _ _ moved c.in-Some.ensures.some.0, c.in-Some.ensures.some.1)

pub repeat_in-requires : goal.repeat_in-requires
repeat_in-requires c = λ apart.
    let moved = rw c.deref-2.ensures.value at c.in_ok-by_fronts.ensures in
    c.in-None.ensures.none refl (distinct_moved _ _ moved (rw c.deref-in-None.ensures.value at apart))
