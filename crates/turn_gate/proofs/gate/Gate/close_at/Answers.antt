use Rattle.turn_gate.proofs.Passing.{closing, closed_value, closed_gone, closed_ask}
use Rattle.turn_gate.proofs.gate.Gate.close_at.Goals as goal

pub returns-in-Value-clause-legal : goal.returns-in-Value-clause-legal
returns-in-Value-clause-legal g c =
    (closing g.T.Replayed.next c.args.self.table.shared.key.value c.args.pass.id c.args.pass.me.0 _ _ _
    c.close_with-closed.ensures.values.2 c.in-Value.ensures.value c.requires.gate.1.named c.requires.first.0
    c.requires.gate.1.idle c.requires.first.1).1

pub returns-in-Value-clause-whole : goal.returns-in-Value-clause-whole
returns-in-Value-clause-whole g c =
    (closing g.T.Replayed.next c.args.self.table.shared.key.value c.args.pass.id c.args.pass.me.0 _ _ _
    c.close_with-closed.ensures.values.2 c.in-Value.ensures.value c.requires.gate.1.named c.requires.first.0
    c.requires.gate.1.idle c.requires.first.1).2

pub returns-in-Value-clause-value : goal.returns-in-Value-clause-value
returns-in-Value-clause-value g c =
    closed_value g.T.Replayed.next c.args.self.table.shared.key.value c.args.pass.me.0 c.in-Value.t
    (closing g.T.Replayed.next c.args.self.table.shared.key.value c.args.pass.id c.args.pass.me.0 _ _ _
    c.close_with-closed.ensures.values.2 c.in-Value.ensures.value c.requires.gate.1.named c.requires.first.0
    c.requires.gate.1.idle c.requires.first.1).0

pub returns-in-Mark-clause-legal : goal.returns-in-Mark-clause-legal
returns-in-Mark-clause-legal g c =
    (closing g.T.Replayed.next c.args.self.table.shared.key.value c.args.pass.id c.args.pass.me.0 _ _ _
    c.close_with-closed.ensures.values.2 c.in-Mark.ensures.value c.requires.gate.1.named c.requires.first.0
    c.requires.gate.1.idle c.requires.first.1).1

pub returns-in-Mark-clause-whole : goal.returns-in-Mark-clause-whole
returns-in-Mark-clause-whole g c =
    (closing g.T.Replayed.next c.args.self.table.shared.key.value c.args.pass.id c.args.pass.me.0 _ _ _
    c.close_with-closed.ensures.values.2 c.in-Mark.ensures.value c.requires.gate.1.named c.requires.first.0
    c.requires.gate.1.idle c.requires.first.1).2

pub returns-in-Mark-clause-value : goal.returns-in-Mark-clause-value
returns-in-Mark-clause-value g c = closed_gone g.T.Replayed.next c.args.self.table.shared.key.value c.args.pass.me.0
    (closing g.T.Replayed.next c.args.self.table.shared.key.value c.args.pass.id c.args.pass.me.0 _ _ _
    c.close_with-closed.ensures.values.2 c.in-Mark.ensures.value c.requires.gate.1.named c.requires.first.0
    c.requires.gate.1.idle c.requires.first.1).0

pub unreachable-requires : goal.unreachable-requires
unreachable-requires g c = closed_ask g.T.Replayed.next c.args.self.table.shared.key.value c.args.pass.me.0
    c.in-Ask._s (closing g.T.Replayed.next c.args.self.table.shared.key.value c.args.pass.id c.args.pass.me.0 _ _ _
    c.close_with-closed.ensures.values.2 c.in-Ask.ensures.value c.requires.gate.1.named c.requires.first.0
    c.requires.gate.1.idle c.requires.first.1).0
