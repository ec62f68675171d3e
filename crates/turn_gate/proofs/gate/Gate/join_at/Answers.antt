use Rattle.std.proofs.Common.{rules}
use Rattle.turn_gate.proofs.Family.{joins}
use Rattle.turn_gate.proofs.Moves.{compares}
use Rattle.turn_gate.proofs.Passing.{union}
use Rattle.turn_gate.proofs.gate.Gate.join_at.Goals as goal

pub join_seat-requires : goal.join_seat-requires
join_seat-requires g c = let p = c.requires.gate.1 in let o = c.requires.other in (
  search rules,
  search rules,
  search rules,
  search rules,
  joins g.T.Replayed.next _ _ _ _ _ p.named c.requires.first p.idle o.1.named o.2 o.1.idle,
)

pub load-requires : goal.load-requires
load-requires g c = (search rules, search rules, compares g.T.Replayed.next _ _ _ _)

pub returns-clause-both : goal.returns-clause-both
returns-clause-both g c = union c.args.pass.now.me.0 c.args.other.me.0 _ c.join_seat.new.seat.me c.load.new.seat.me
    c.join_seat.ensures.2 c.load.ensures.2 c.requires.gate.1.named c.requires.first c.requires.own
