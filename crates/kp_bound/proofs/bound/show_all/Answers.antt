use Rattle.std.proofs.Common.{◌≡◌, ℕ, ◌+◌, take, refl, sym, ap, ◌∙◌, subst, arith, IfNone}
use Rattle.kp_bound.specs.Lemmas.Each.{one_more, all_there, first_bad, shown_has}
use Rattle.kp_bound.specs.Spelled.{HasParts}
use Rattle.kp_bound.specs.Bound.{IsShownOf, AreShownOf}
use Rattle.kp_bound.specs.declared.faults.RecordFault.TheVariants as fault
use Rattle.kp_bound.proofs.bound.show_all.Goals as goal

pub loop-one-preserved : goal.loop-one-preserved
loop-one-preserved c =
    let l = c.loop-one in
    let found = rw c.in-Some.is at c.in_ok-read.ensures.some in
    let placed = subst (λ r. IsShownOf r c.in-Some.value) c.one-item.is found in (
      ap (λ n. n + 1) l.invariant.0,
      subst (AreShownOf (take (l.one-index + 1) c.args.records.now)) (sym c.in_ok-push.ensures.items)
          (one_more IsShownOf c.args.records.now l.values.items l.one-index c.one-item.result c.in-Some.value
          (omega arith)
          l.invariant.1 placed),
    )

pub returns-in_default-clause-stop : goal.returns-in_default-clause-stop
returns-in_default-clause-stop c =
    let l = c.loop-one in
    let none : HasParts c.one-item.result → ⊥ =
    subst (λ o. IfNone o (HasParts c.one-item.result → ⊥)) c.in_default.is c.in_ok-read.ensures.none in
    λ some. (
      l.one-index,
      ap fault.Bad l.invariant.0,
      first_bad IsShownOf shown_has c.args.records.now l.values.items l.one-index c.one-item.result (omega arith)
          l.invariant.1 (subst (λ r. HasParts r → ⊥) c.one-item.is none),
    )

pub returns-clause-shown : goal.returns-clause-shown
returns-clause-shown c =
    let l = c.loop-one in
    all_there IsShownOf c.args.records.now l.values.items l.one-index (omega arith) l.invariant.1
