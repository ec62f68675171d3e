use Rattle.std.proofs.Common.{rules, ◌+◌, ◌%◌, ◌^◌}
use Rattle.turn_gate.proofs.Moves.{touches}
use Rattle.turn_gate.proofs.gate.Gate.count_as_starved.Goals as goal

pub fetch_add-requires : goal.fetch_add-requires
fetch_add-requires g c = (search rules, search rules, touches g.T.Replayed.next _ _ _ _ 8 (λ n. (n + 1) % 2 ^ 64))
