use Rattle.std.proofs.Common.{refl}
use Rattle.std.proofs.lemmas.List.Sorted.{IsPermutation-trans, IsPermutation-map}
use Rattle.pv_value.specs.declared.Entry.{Entry}
use Rattle.pv_value.proofs.Ascends.{distinct_moved}
use Rattle.pv_value.proofs.sets.ascending_by_key.Goals as goal

pub returns-in-Some-clause-ok : goal.returns-in-Some-clause-ok
returns-in-Some-clause-ok c =
    let moved = rw c.deref-2.ensures.value at c.in_ok-by_fronts.ensures in
    (IsPermutation-trans _ _ _ moved c.in-Some.ensures.some.0, c.in-Some.ensures.some.1)

pub repeated_key_in-requires : goal.repeated_key_in-requires
repeated_key_in-requires c = λ apart.
    let moved = rw c.deref-2.ensures.value at c.in_ok-by_fronts.ensures in
    let keys = IsPermutation-map (λ (e : Entry). e.key) _ _ moved in
    c.in-None.ensures.none refl (distinct_moved _ _ keys (rw c.deref-in-None.ensures.value at apart))
