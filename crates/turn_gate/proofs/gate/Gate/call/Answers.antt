use Rattle.std.proofs.Common.{rules, arith, max}
use Rattle.turn_gate.proofs.Moves.{touches_at}
use Rattle.turn_gate.proofs.gate.Gate.call.Goals as goal

pub fetch_max-requires : goal.fetch_max-requires
fetch_max-requires g c = (
  search rules,
  search rules,
  touches_at g.T.Replayed.next _ _ _ _ _ (λ n. max n c.args.steps) (omega arith),
)
