use Rattle.std.proofs.Common.{rules}
use mathlib.Core.Option.{some}
use Rattle.turn_gate.proofs.Moves.{takes_slot}
use Rattle.turn_gate.proofs.gate.Gate.seize.Goals as goal

pub compare_exchange_with-requires : goal.compare_exchange_with-requires
compare_exchange_with-requires g c = (
  search rules,
  search rules,
  takes_slot g.T.Replayed.next _ _ _ _ (some c.args.ask.now) (search rules) (search rules),
)
