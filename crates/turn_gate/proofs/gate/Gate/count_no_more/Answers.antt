use Rattle.std.proofs.Common.{rules, ◌+◌, ◌-◌, ◌%◌, ◌^◌}
use Rattle.turn_gate.proofs.Moves.{touches}
use Rattle.turn_gate.proofs.gate.Gate.count_no_more.Goals as goal

pub fetch_sub-requires : goal.fetch_sub-requires
fetch_sub-requires g c = (
  search rules,
  search rules,
  touches g.T.Replayed.next _ _ _ _ 8
      (λ n. (n + (2 ^ 64 - 1)) % 2 ^ 64),
)
