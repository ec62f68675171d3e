use Rattle.std.proofs.Common.{rules, ◌+◌, ◌%◌, ◌^◌}
use Rattle.turn_gate.proofs.Moves.{gives_slot, touches}
use Rattle.turn_gate.proofs.gate.Gate.release.Goals as goal

pub store-requires : goal.store-requires
store-requires g c = let r = c.requires.ready in (
  search rules,
  search rules,
  gives_slot g.T.Replayed.next _ _ _ _ r.1.0 r.0 r.1.1 r.1.2,
)

pub fetch_add-requires : goal.fetch_add-requires
fetch_add-requires g c = (search rules, search rules, touches g.T.Replayed.next _ _ _ _ 9 (λ n. (n + 1) % 2 ^ 64))
