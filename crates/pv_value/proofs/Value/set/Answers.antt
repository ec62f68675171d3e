use Rattle.std.proofs.Common.{refl}
use Rattle.std.proofs.lemmas.Result.{err_from_is_err_and}
use Rattle.pv_value.specs.Lemmas.Listed.{listed-plains}
use Rattle.pv_value.specs.Lemmas.SetFrom.{set_from_ok, distinct_from_ascend, set_fault_made}
use Rattle.pv_value.specs.Lemmas.WellFormedLaws.{well_formed_permutation}
use Rattle.pv_value.proofs.Value.set.Goals as goal

pub returns-in_err-list-clause-made : goal.returns-in_err-list-clause-made
returns-in_err-list-clause-made c =
    let p = err_from_is_err_and c.from_residual.result c.from_residual.ensures.1 in
    rw (p.1, p.2) (set_fault_made c.args.items.items _ c.in_err-list.ensures.err)

pub invariant_of-result : goal.invariant_of-result
invariant_of-result c =
    let made = c.in_ok-list.ensures.ok in
    rw (c.in_ok-list-2.ensures.ok, c.fitted.ensures)
    (rw listed-plains made.1, well_formed_permutation _ _ made.0 (rw c.deref.ensures.value at c.see_all.ensures))

pub invariant_of-result-2 : goal.invariant_of-result-2
invariant_of-result-2 c = invariant_of-result c

pub returns-clause-ok : goal.returns-clause-ok
returns-clause-ok c =
    let made = c.in_ok-list.ensures.ok in
    rw (c.in_ok-list-2.ensures.ok, c.fitted.ensures)
    (distinct_from_ascend _ _ made.0 made.1, c.in_ok-list.list.items, made.0, made.1, refl)

pub returns-clause-made : goal.returns-clause-made
returns-clause-made c =
    let made = c.in_ok-list.ensures.ok in
    rw (c.in_ok-list-2.ensures.ok, c.fitted.ensures) (set_from_ok _ _ made.0 made.1)
