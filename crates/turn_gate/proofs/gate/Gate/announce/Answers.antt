use Rattle.std.proofs.Common.{rules}
use mathlib.Core.Option.{some}
use Rattle.turn_gate.specs.declared.view.Held.TheVariants as held
use Rattle.turn_gate.proofs.Moves.{asks_again}
use Rattle.turn_gate.proofs.gate.Gate.announce.Goals as goal

pub compare_exchange_with-requires : goal.compare_exchange_with-requires
compare_exchange_with-requires g c = (
  search rules,
  search rules,
  asks_again g.T.Replayed.next _ _ _ _ (some (held.Ask c.args.s)),
)
