use Rattle.std.proofs.Common.{◌≡◌, ℕ, ◌+◌, refl, ap, subst, arith, IfNone}
use Rattle.kp_bound.specs.Lemmas.Each.{first_bad, bound_has}
use Rattle.kp_bound.specs.Spelled.{HasParts}
use Rattle.kp_bound.specs.Bound.{IsBindingOf}
use Rattle.kp_bound.specs.declared.faults.RecordFault.TheVariants as fault
use Rattle.sc_kept.proofs.Bindings.{bound_more, none_yet, all_bound, sound}
use Rattle.sc_kept.proofs.hub.with_all.Goals as goal

pub loop-one-init : goal.loop-one-init
loop-one-init g c = (refl, none_yet c.args.records.now c.args.hub c.requires.begun)

pub with_binding-requires : goal.with_binding-requires
with_binding-requires g c =
    sound c.one-item.result c.in-Some.binding (rw c.in-Some.is at c.in_ok-read.ensures.some)

pub loop-one-preserved : goal.loop-one-preserved
loop-one-preserved g c =
    let l = c.loop-one in
    let found = rw c.in-Some.is at c.in_ok-read.ensures.some in
    let placed = subst (λ r. IsBindingOf r c.in-Some.binding) c.one-item.is found in (
      ap (λ n. n + 1) l.invariant.0,
      bound_more c.args.records.now l.one-index c.one-item.result c.in-Some.binding l.hub _ c.requires.ascending
          (omega arith) l.invariant.1 placed c.in_ok-hub.ensures,
    )

pub returns-in_default-clause-stop : goal.returns-in_default-clause-stop
returns-in_default-clause-stop g c =
    let l = c.loop-one in
    let none : HasParts c.one-item.result → ⊥ =
    subst (λ o. IfNone o (HasParts c.one-item.result → ⊥)) c.in_default.is c.in_ok-read.ensures.none in
    λ some. (
      l.one-index,
      ap fault.Bad l.invariant.0,
      first_bad IsBindingOf bound_has c.args.records.now l.invariant.1.bindings l.one-index c.one-item.result
          (omega arith) l.invariant.1.of_records (subst (λ r. HasParts r → ⊥) c.one-item.is none),
    )

pub returns-clause-hub : goal.returns-clause-hub
returns-clause-hub g c =
    let l = c.loop-one in
    all_bound c.args.records.now l.one-index l.hub (omega arith) l.invariant.1
