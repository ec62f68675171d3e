-- After a fault what has come goes again.
use Rattle.std.proofs.Common.{◌∙◌}
use Rattle.rl_wire.proofs.Exports.{back_to}
use Rattle.rl_wire.proofs.outward.wire_out.Goals as goal

pub forget-requires-clause-next : goal.forget-requires-clause-next
forget-requires-clause-next c =
    (back_to c.args.ports.now c.exported_and_crossed.new.ports c.next_oid-next.result c.in-Err.ensures.kept
    c.next_oid-next.ensures.same c.next_oid-next.ensures.noted c.next_oid-next.ensures.pinned).0

pub forget-requires-clause-noted : goal.forget-requires-clause-noted
forget-requires-clause-noted c =
    (back_to c.args.ports.now c.exported_and_crossed.new.ports c.next_oid-next.result c.in-Err.ensures.kept
    c.next_oid-next.ensures.same c.next_oid-next.ensures.noted c.next_oid-next.ensures.pinned).1

pub forget-requires-clause-pinned : goal.forget-requires-clause-pinned
forget-requires-clause-pinned c =
    (back_to c.args.ports.now c.exported_and_crossed.new.ports c.next_oid-next.result c.in-Err.ensures.kept
    c.next_oid-next.ensures.same c.next_oid-next.ensures.noted c.next_oid-next.ensures.pinned).2

pub returns-in-Err-clause-undone : goal.returns-in-Err-clause-undone
returns-in-Err-clause-undone c =
    c.forget.ensures
    ∙ (back_to c.args.ports.now c.exported_and_crossed.new.ports c.next_oid-next.result c.in-Err.ensures.kept
    c.next_oid-next.ensures.same c.next_oid-next.ensures.noted c.next_oid-next.ensures.pinned).3
