use Rattle.std.proofs.Common.{arith}
use Rattle.rl_packet.proofs.Sizes.{aimed_size}
use Rattle.rl_packet.proofs.writing.aimed_size.Goals as goal

pub returns : goal.returns
returns c =
    omega (
      arith,
      aimed_size c.args.dialect c.args.event.now,
      c.number_size.ensures,
      c.event_size.ensures,
      c.saturating_add.ensures,
      c.saturating_add-2.ensures,
    )
