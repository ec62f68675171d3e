use Rattle.std.proofs.Common.{sym, subst, arith}
use Rattle.std.specs.List.{AllByRecursion}
use Rattle.rl_packet.specs.Wired.{IsTurnEvent}
use Rattle.sc_load.proofs.Wiring.{all_observed}
use Rattle.sc_load.proofs.items.observations.Goals as goal

pub from_vec-requires : goal.from_vec-requires
from_vec-requires c =
    let l = c.loop-further in
    subst (AllByRecursion IsTurnEvent) (sym l.invariant)
    (all_observed c.args.first l.further (omega (arith, c.requires, l.auto.further-end)))
