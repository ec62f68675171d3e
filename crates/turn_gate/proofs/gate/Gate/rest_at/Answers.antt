use Rattle.std.proofs.Common.{rules, arith, ◌+◌, ◌-◌, ◌%◌, ◌^◌}
use Rattle.turn_gate.proofs.Family.{enters}
use Rattle.turn_gate.proofs.Moves.{touches_at}
use Rattle.turn_gate.proofs.gate.Gate.rest_at.Goals as goal

pub load_new_seat-count-requires : goal.load_new_seat-count-requires
load_new_seat-count-requires g c = (search rules, enters g.T.Replayed.next _ _ _)

pub fetch_add-requires : goal.fetch_add-requires
fetch_add-requires g c = (
  search rules,
  search rules,
  touches_at g.T.Replayed.next _ _ _ _ _ (λ n. (n + 1) % 2 ^ 64) (omega arith),
)

pub fetch_sub-requires : goal.fetch_sub-requires
fetch_sub-requires g c = (
  search rules,
  search rules,
  touches_at g.T.Replayed.next _ _ _ _ _ (λ n. (n + (2 ^ 64 - 1)) % 2 ^ 64) (omega arith),
)
