use Rattle.std.proofs.Common.{◌≡◌, ℕ, ◌+◌, refl, sym, ap, ◌∙◌, subst, arith, IfNone}
use Rattle.kp_bound.specs.Lemmas.Each.{bound_more, all_there, first_bad, bound_has}
use Rattle.kp_bound.specs.Spelled.{HasParts}
use Rattle.kp_bound.specs.Bound.{IsBindingOf}
use Rattle.kp_bound.specs.declared.faults.RecordFault.TheVariants as fault
use Rattle.kp_bound.proofs.bound.bind_all.Goals as goal

pub loop-one-preserved : goal.loop-one-preserved
loop-one-preserved c =
    let l = c.loop-one in
    let found = rw c.in-Some.is at c.in_ok-read.ensures.some in
    let placed = subst (λ r. IsBindingOf r c.in-Some.binding) c.one-item.is found in (
      ap (λ n. n + 1) l.invariant.0,
      bound_more c.args.records.now l.bindings _ l.one-index c.one-item.result c.in-Some.binding c.requires (omega arith)
          l.invariant.1 placed c.in_ok-add.ensures.done,
    )

pub returns-in_default-clause-stop : goal.returns-in_default-clause-stop
returns-in_default-clause-stop c =
    let l = c.loop-one in
    let none : HasParts c.one-item.result → ⊥ =
    subst (λ o. IfNone o (HasParts c.one-item.result → ⊥)) c.in_default.is c.in_ok-read.ensures.none in
    λ some. (
      l.one-index,
      ap fault.Bad l.invariant.0,
      first_bad IsBindingOf bound_has c.args.records.now l.bindings l.one-index c.one-item.result (omega arith)
          l.invariant.1 (subst (λ r. HasParts r → ⊥) c.one-item.is none),
    )

pub returns-clause-bound : goal.returns-clause-bound
returns-clause-bound c =
    let l = c.loop-one in
    all_there IsBindingOf c.args.records.now l.bindings l.one-index (omega arith) l.invariant.1
