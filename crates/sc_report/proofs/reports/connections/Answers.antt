use Rattle.std.proofs.Common.{◌∙◌}
use Rattle.sc_report.proofs.Tellings.{told_next}
use Rattle.sc_report.proofs.reports.connections.Goals as goal

pub loop-connection-preserved : goal.loop-connection-preserved
loop-connection-preserved c =
    let l = c.loop-connection in
    told_next c.args.connections.now l.connection-index c.connection-item.result l.values.items c.len.result
    c.loop-connection-test.true c.connection-item.is l.invariant (c.len.ensures ∙ l.values.ok.0)
    c.in_ok-connection_value.field-0 c.in_ok-connection_value.ensures c.push.new.self.items
    c.in_ok-push.ensures.items
