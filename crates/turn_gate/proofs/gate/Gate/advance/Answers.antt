use Rattle.std.proofs.Common.{ap, sym, ◌∙◌, length}
use Rattle.turn_gate.specs.declared.gate.GateFault.TheVariants as fault
use Rattle.turn_gate.proofs.Passing.{committed_given, failed_given, lost_given, heard_still}
use Rattle.turn_gate.proofs.gate.Gate.advance.Goals as goal

pub returns-in-Done-clause-reply : goal.returns-in-Done-clause-reply
returns-in-Done-clause-reply g c = committed_given g.T.Replayed.next
    c.args.self.now.table.shared.key.value c.args.pass.now.me.0 c.note.new.pass.me.0
    c.put_back.new.pass.me.0 c.args.s c.in-Done.reply c.in-Done.ensures.noted.0 (ap (λ m. m.0) c.put_back.ensures.same)

pub returns-in-Done-clause-heard : goal.returns-in-Done-clause-heard
returns-in-Done-clause-heard g c =
    c.in-Done.ensures.noted.2 ∙ ap (λ m. length m.0.seen) (sym c.put_back.ensures.same)

pub returns-in-Full-clause-reply : goal.returns-in-Full-clause-reply
returns-in-Full-clause-reply g c = failed_given g.T.Replayed.next c.args.self.now.table.shared.key.value
    c.args.pass.now.me.0 c.note.new.pass.me.0
    c.put_back-in-Full.new.pass.me.0 c.in-Full.ensures.noted.0 (ap (λ m. m.0) c.put_back-in-Full.ensures.same)

pub returns-in-Full-clause-heard : goal.returns-in-Full-clause-heard
returns-in-Full-clause-heard g c =
    heard_still c.args.pass.now.me.0 c.put_back-in-Full.new.pass.me.0 fault.Spent c.args.heard.now
    (failed_given g.T.Replayed.next c.args.self.now.table.shared.key.value
    c.args.pass.now.me.0 c.note.new.pass.me.0
    c.put_back-in-Full.new.pass.me.0 c.in-Full.ensures.noted.0 (ap (λ m. m.0) c.put_back-in-Full.ensures.same))
    c.requires.heard

pub returns-in-Lost-clause-reply : goal.returns-in-Lost-clause-reply
returns-in-Lost-clause-reply g c = lost_given g.T.Replayed.next c.args.self.now.table.shared.key.value
    c.args.pass.now.me.0 c.note.new.pass.me.0 c.give_up.new.pass.me.0 c.in-Lost.ensures.noted.0
    c.in-Lost.ensures.noted.1 (ap (λ m. m.0) c.give_up.ensures.lost)

pub returns-in-Lost-clause-heard : goal.returns-in-Lost-clause-heard
returns-in-Lost-clause-heard g c =
    heard_still c.args.pass.now.me.0 c.give_up.new.pass.me.0 fault.NoMemory c.args.heard.now
    (lost_given g.T.Replayed.next c.args.self.now.table.shared.key.value
    c.args.pass.now.me.0 c.note.new.pass.me.0 c.give_up.new.pass.me.0 c.in-Lost.ensures.noted.0
    c.in-Lost.ensures.noted.1 (ap (λ m. m.0) c.give_up.ensures.lost))
    c.requires.heard
