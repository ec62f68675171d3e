use Rattle.std.proofs.Common.{rules}
use Rattle.turn_gate.proofs.Family.{splits}
use Rattle.turn_gate.proofs.Moves.{compares}
use Rattle.turn_gate.proofs.Passing.{is_child, child_free}
use Rattle.turn_gate.proofs.gate.Gate.split_at.Goals as goal

pub split_seat-new-requires : goal.split_seat-new-requires
split_seat-new-requires g c = (
  search rules,
  search rules,
  splits g.T.Replayed.next _ _ _ c.requires.gate.1.named c.requires.first,
)

pub load-requires : goal.load-requires
load-requires g c = (search rules, search rules, compares g.T.Replayed.next _ _ _ _)

pub returns-clause-new : goal.returns-clause-new
returns-clause-new g c = let e = c.split_seat-new.ensures.4 in let k = c.load.ensures.2 in (
  search rules,
  child_free _ c.load.new.seat c.args.pass.now.me.0 c.split_seat-new.result.me e k
      c.requires.gate.1.opened,
  is_child c.args.pass.now.me.0 c.split_seat-new.result.me c.load.new.seat.me e k,
)
