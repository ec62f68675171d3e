use Rattle.std.proofs.Common.{◌∙◌}
use Rattle.sc_events.proofs.Fielded.{no_word_of_four}
use Rattle.sc_events.proofs.events.event_of_four.Goals as goal

pub returns-in_default : goal.returns-in_default
returns-in_default c = no_word_of_four c.args.word.now c.args.first.now c.args.second.now c.args.third.now
    c.args.fourth.now (λ e. c.in_default.not-bind (c.as_str.ensures.same ∙ e))
    (λ e. c.in_default.not-watch (c.as_str.ensures.same ∙ e))
