use Rattle.std.proofs.Common.{arith}
use Rattle.rl_packet.proofs.Sizes.{one_more}
use Rattle.rl_packet.proofs.writing.events_size.Goals as goal

pub loop-event-preserved : goal.loop-event-preserved
loop-event-preserved c =
    let more = one_more c.args.dialect c.args.events.now c.loop-event.event-index c.event-item.result
    c.loop-event-test.true c.event-item.is in
    record {
      small = omega (arith, c.saturating_add-total.ensures);
      total =
          omega (
            arith,
            more,
            c.loop-event.invariant.small,
            c.loop-event.invariant.total,
            c.aimed_size.ensures,
            c.saturating_add-total.ensures,
          );
    }
