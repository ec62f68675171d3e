use Rattle.std.proofs.Common.{◌-◌, length, arith}
use Rattle.std.proofs.lemmas.Result.{err_from_is_err_and}
use Rattle.pv_read.specs.Lemmas.Answering.{fails_alike}
use Rattle.pv_text.proofs.All.{values_step, all_at_end, all_at_fault}
use Rattle.pv_text.proofs.values.all_values.Goals as goal

pub loop-preserved : goal.loop-preserved
loop-preserved c =
    values_step (length c.args.text.now) (length c.args.text.now - c.loop.counter) _ c.loop.values.items _
    c.loop.rest.now c.in-Some.value _ _
    c.loop.invariant (omega arith) (rw c.in-Some.is at c.in_ok-value.ensures) c.in_ok-push.ensures.items

pub returns-in_err-value : goal.returns-in_err-value
returns-in_err-value c =
    let p = err_from_is_err_and c.from_residual.result c.from_residual.ensures.1 in
    rw (p.1, p.2)
    (fails_alike _ _ _ c.in_err-value.ensures (λ f e.
    all_at_fault (length c.args.text.now) c.loop.values.items c.loop.rest.now _
    (length c.args.text.now - c.loop.counter) f
    c.loop.invariant (omega (arith, c.loop-test.true)) e))

pub returns-in_default : goal.returns-in_default
returns-in_default c =
    let none = rw c.in_default.is at c.in_ok-value.ensures in
    rw c.in_ok-from_vec.ensures
    (all_at_end (length c.args.text.now) c.loop.values.items c.loop.rest.now _ (length c.args.text.now - c.loop.counter)
    c.loop.invariant (omega (arith, c.loop-test.true)) none)
