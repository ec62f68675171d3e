-- What sets up is taken, or it is bad.
use Rattle.std.proofs.Common.{sym, ◌∙◌}
use Rattle.sc_config.proofs.Setting.{taken, not_taken}
use Rattle.sc_config.proofs.events.set_up.Goals as goal

pub returns-clause-set : goal.returns-clause-set
returns-clause-set g c = λ d at.
    taken c.args.place c.args.event d c.args.hub at c.in_ok-hub.reply c.in_ok-hub.ensures.reply _ c.requires.sets_up
    c.requires.allowed c.in_ok-hub.ensures.state (sym c.was_taken.ensures ∙ c.if-not-was_taken.false)

pub returns-then-not-was_taken-clause-stop : goal.returns-then-not-was_taken-clause-stop
returns-then-not-was_taken-clause-stop g c = λ d at.
    not_taken c.args.place c.args.event d c.args.hub at c.in_ok-hub.reply c.in_ok-hub.ensures.reply
    (sym c.was_taken.ensures ∙ c.if-not-was_taken.true)
