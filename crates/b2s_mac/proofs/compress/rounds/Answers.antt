use Rattle.std.proofs.Common.{refl}
use Rattle.b2s_mac.specs.Blake2s.{rounds}
use Rattle.b2s_mac.proofs.compress.rounds.Goals as goal

pub returns : goal.returns
unfolding rounds
returns c =
    rw (
      c.round-10.ensures,
      c.round-9.ensures,
      c.round-8.ensures,
      c.round-7.ensures,
      c.round-6.ensures,
      c.round-5.ensures,
      c.round-4.ensures,
      c.round-3.ensures,
      c.round-2.ensures,
      c.round.ensures,
    )
    (rw (
      c.in_order.ensures,
      c.in_order-2.ensures,
      c.in_order-3.ensures,
      c.in_order-4.ensures,
      c.in_order-5.ensures,
      c.in_order-6.ensures,
      c.in_order-7.ensures,
      c.in_order-8.ensures,
      c.in_order-9.ensures,
      c.in_order-10.ensures,
    ) refl)
