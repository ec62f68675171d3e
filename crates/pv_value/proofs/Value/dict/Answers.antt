use Rattle.std.proofs.Common.{refl}
use Rattle.std.proofs.lemmas.Result.{err_from_is_err_and}
use Rattle.std.proofs.lemmas.List.Sorted.{IsPermutation-map}
use Rattle.pv_value.specs.Plain.{Plain}
use Rattle.pv_value.specs.View.{key_and_value}
use Rattle.pv_value.specs.Lemmas.Listed.{paired-pairs}
use Rattle.pv_value.specs.Lemmas.SetFrom.{distinct_from_ascend}
use Rattle.pv_value.specs.Lemmas.DictionaryFrom.{dictionary_from_ok, dictionary_fault_made}
use Rattle.pv_value.specs.Lemmas.WellFormedLaws.{pairs_well_formed_permutation}
use Rattle.pv_value.proofs.Ascends.{keys_of_pairs}
use Rattle.pv_value.proofs.Value.dict.Goals as goal

pub returns-in_err-list-clause-made : goal.returns-in_err-list-clause-made
returns-in_err-list-clause-made c =
    let p = err_from_is_err_and c.from_residual.result c.from_residual.ensures.1 in
    rw (p.1, p.2) (dictionary_fault_made _ _ (rw keys_of_pairs c.in_err-list.ensures.err))

pub invariant_of-result : goal.invariant_of-result
invariant_of-result c =
    let made = c.in_ok-list.ensures.ok in
    let moved = IsPermutation-map key_and_value _ _ made.0 in
    rw (c.in_ok-list-2.ensures.ok, c.fitted.ensures) (
      rw (paired-pairs, keys_of_pairs) made.1,
      pairs_well_formed_permutation _ _ moved (rw c.deref.ensures.value at c.see_all_entries.ensures),
    )

pub invariant_of-result-2 : goal.invariant_of-result-2
invariant_of-result-2 c = invariant_of-result c

pub returns-clause-ok : goal.returns-clause-ok
returns-clause-ok c =
    let made = c.in_ok-list.ensures.ok in
    let moved = IsPermutation-map key_and_value _ _ made.0 in
    let keys = IsPermutation-map (λ (p : Plain × Plain). p.0) _ _ moved in
    let ascend = rw (← keys_of_pairs) at made.1 in
    rw (c.in_ok-list-2.ensures.ok, c.fitted.ensures) (distinct_from_ascend _ _ keys ascend, _, moved, ascend, refl)

pub returns-clause-made : goal.returns-clause-made
returns-clause-made c =
    let made = c.in_ok-list.ensures.ok in
    let moved = IsPermutation-map key_and_value _ _ made.0 in
    rw (c.in_ok-list-2.ensures.ok, c.fitted.ensures) (dictionary_from_ok _ _ moved (rw keys_of_pairs made.1))
