use Rattle.std.proofs.Common.{rules, ◌+◌, ◌-◌, ◌%◌, ◌^◌}
use Rattle.turn_gate.proofs.Moves.{touches}
use Rattle.turn_gate.proofs.gate.Gate.wait.Goals as goal

pub fetch_add-requires : goal.fetch_add-requires
fetch_add-requires g c = (search rules, search rules, touches g.T.Replayed.next _ _ _ _ 7 (λ n. (n + 1) % 2 ^ 64))

pub fetch_sub-requires : goal.fetch_sub-requires
fetch_sub-requires g c = (
  search rules,
  search rules,
  touches g.T.Replayed.next _ _ _ _ 7
      (λ n. (n + (2 ^ 64 - 1)) % 2 ^ 64),
)
