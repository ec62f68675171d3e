use Rattle.std.proofs.Common.{◌-◌, length, arith}
use Rattle.std.proofs.lemmas.Result.{err_from_is_err_and}
use Rattle.pv_read.specs.Lemmas.Answering.{fails_alike}
use Rattle.pv_binary.specs.Reading.{entry_at, value_at}
use Rattle.pv_binary.proofs.Elements.{elements_over, elements_ended, elements_failed, element_step}
use Rattle.pv_binary.proofs.Elements.{entry_read, entry_fails_key, entry_fails_value, entry_appended}
use Rattle.pv_binary.proofs.reading.+read.Goals as goal

pub read_items-loop-preserved : goal.read_items-loop-preserved
read_items-loop-preserved t c =
    element_step c.args.total (value_at c.args.total c.args.budget) (length c.args.input.now.now - c.loop.counter) _
    c.loop.items.items _ c.loop.rest.now c.in-Some.after.now c.in-Some.byte.now c.in_ok-value.value
    c.read_value.new.input.now _
    c.loop.invariant (omega arith) c.in-Some.ensures.cases.0 c.if-byte.false c.in_ok-value.ensures
    c.in_ok-append.ensures

pub read_items-returns-in_default : goal.read_items-returns-in_default
read_items-returns-in_default t c =
    elements_over c.args.total (value_at c.args.total c.args.budget) (length c.args.input.now.now - c.loop.counter)
    c.loop.items.items c.loop.rest.now _ c.loop.invariant c.in_default.ensures.cases

pub read_items-returns-then-byte : goal.read_items-returns-then-byte
read_items-returns-then-byte t c =
    elements_ended c.args.total (value_at c.args.total c.args.budget) (length c.args.input.now.now - c.loop.counter)
    c.loop.items.items c.loop.rest.now _ c.loop.invariant c.in-Some.after.now c.in-Some.byte.now (omega arith)
    c.in-Some.ensures.cases.0 c.if-byte.true

pub read_items-returns-in_err-value : goal.read_items-returns-in_err-value
read_items-returns-in_err-value t c =
    let p = err_from_is_err_and c.from_residual.result c.from_residual.ensures.1 in
    rw (p.1, p.2) (fails_alike _ _ _ c.in_err-value.ensures (λ f h.
    elements_failed c.args.total (value_at c.args.total c.args.budget) (length c.args.input.now.now - c.loop.counter)
    c.loop.items.items c.loop.rest.now _ c.loop.invariant c.in-Some.after.now c.in-Some.byte.now f (omega arith)
    c.in-Some.ensures.cases.0 c.if-byte.false h))

pub read_pairs-loop-preserved : goal.read_pairs-loop-preserved
read_pairs-loop-preserved t c =
    let inner = value_at c.args.total c.args.budget in
    let entry = entry_read inner c.loop.rest.now c.read_value.new.input.now c.read_value-in-loop.new.input.now
    c.in_ok-key.key c.in_ok-value.value c.in_ok-key.ensures c.in_ok-value.ensures in
    element_step c.args.total (entry_at inner) (length c.args.input.now.now - c.loop.counter) _ _ _ c.loop.rest.now
    c.in-Some.after.now c.in-Some.byte.now (c.in_ok-key.key, c.in_ok-value.value) c.read_value-in-loop.new.input.now _
    c.loop.invariant (omega arith) c.in-Some.ensures.cases.0 c.if-byte.false entry
    (entry_appended c.loop.entries.items _ _ c.in_ok-append.ensures)

pub read_pairs-returns-in_default : goal.read_pairs-returns-in_default
read_pairs-returns-in_default t c =
    elements_over c.args.total (entry_at (value_at c.args.total c.args.budget))
    (length c.args.input.now.now - c.loop.counter)
    _ c.loop.rest.now _ c.loop.invariant c.in_default.ensures.cases

pub read_pairs-returns-then-byte : goal.read_pairs-returns-then-byte
read_pairs-returns-then-byte t c =
    elements_ended c.args.total (entry_at (value_at c.args.total c.args.budget))
    (length c.args.input.now.now - c.loop.counter)
    _ c.loop.rest.now _ c.loop.invariant c.in-Some.after.now c.in-Some.byte.now (omega arith)
    c.in-Some.ensures.cases.0 c.if-byte.true

pub read_pairs-returns-in_err-key : goal.read_pairs-returns-in_err-key
read_pairs-returns-in_err-key t c =
    let inner = value_at c.args.total c.args.budget in
    let p = err_from_is_err_and c.from_residual.result c.from_residual.ensures.1 in
    rw (p.1, p.2) (fails_alike _ _ _ c.in_err-key.ensures (λ f h.
    elements_failed c.args.total (entry_at inner) (length c.args.input.now.now - c.loop.counter) _ c.loop.rest.now _
    c.loop.invariant c.in-Some.after.now c.in-Some.byte.now f (omega arith) c.in-Some.ensures.cases.0 c.if-byte.false
    (entry_fails_key inner c.loop.rest.now f h)))

pub read_pairs-returns-in_err-value : goal.read_pairs-returns-in_err-value
read_pairs-returns-in_err-value t c =
    let inner = value_at c.args.total c.args.budget in
    let p = err_from_is_err_and c.from_residual-in_err-value.result c.from_residual-in_err-value.ensures.1 in
    rw (p.1, p.2) (fails_alike _ _ _ c.in_err-value.ensures (λ f h.
    elements_failed c.args.total (entry_at inner) (length c.args.input.now.now - c.loop.counter) _ c.loop.rest.now _
    c.loop.invariant c.in-Some.after.now c.in-Some.byte.now f (omega arith) c.in-Some.ensures.cases.0 c.if-byte.false
    (entry_fails_value inner c.loop.rest.now c.read_value.new.input.now c.in_ok-key.key f c.in_ok-key.ensures h)))
