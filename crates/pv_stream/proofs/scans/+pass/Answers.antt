use Rattle.std.proofs.Common.{◌-◌, length, arith}
use Rattle.pv_stream.specs.Scans.{past_entry, past_value}
use Rattle.pv_stream.proofs.Behind.{passed, entry_passed}
use Rattle.pv_stream.proofs.scans.+pass.Goals as goal

pub pass_items-loop-preserved : goal.pass_items-loop-preserved
pass_items-loop-preserved t c =
    passed c.args.total (past_value c.args.total c.args.budget) (length c.args.bytes.now - c.loop.counter) _
    c.loop.rest.now c.in-Some.after.now c.in_ok-rest.rest.now c.in-Some.byte.now _ c.loop.invariant (omega arith)
    c.in-Some.ensures.cases.0 c.if-byte.false c.in_ok-rest.ensures

pub pass_entries-loop-preserved : goal.pass_entries-loop-preserved
pass_entries-loop-preserved t c =
    let inner = past_value c.args.total c.args.budget in
    let entry = entry_passed inner c.loop.rest.now c.in_ok-value.value.now c.in_ok-rest.rest.now c.in_ok-value.ensures
    c.in_ok-rest.ensures in
    passed c.args.total (past_entry inner) (length c.args.bytes.now - c.loop.counter) _
    c.loop.rest.now c.in-Some.after.now c.in_ok-rest.rest.now c.in-Some.byte.now _ c.loop.invariant (omega arith)
    c.in-Some.ensures.cases.0 c.if-byte.false entry
