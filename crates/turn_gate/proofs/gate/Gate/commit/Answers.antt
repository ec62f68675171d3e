use Rattle.turn_gate.specs.Gates.{view}
use Rattle.turn_gate.proofs.Going.{owns_one}
use Rattle.turn_gate.proofs.gate.Gate.commit.Goals as goal

pub returns-clause-own : goal.returns-clause-own
returns-clause-own g c = (owns_one g.T.Replayed.next c.args.self.now.table.shared.key.value (view c.args.pass.now)
    c.commit_at.new.pass.me.0 c.args.s c.commit_at.result c.args.pass.now.own c.commit_at.ensures.reply).0
