use Rattle.std.proofs.Common.{sym, ap, ◌∙◌}
use Rattle.hub_machine.specs.State.{is_there}
use Rattle.sc_script.specs.Runs.{goes}
use Rattle.sc_script.specs.Keeping.{RunState}
use Rattle.sc_script.proofs.Reading.{reads_more, reads_no_more}
use Rattle.sc_script.proofs.runs.Run.read_where.Goals as goal

pub returns-then-live-clause-run : goal.returns-then-live-clause-run
returns-then-live-clause-run g c = λ N d r at.
    let k = c.args.connection in
    reads_more (goes r) k c.args.stream c.args.self at
    (ap (λ (s : RunState). is_there k s.state) (sym c.self.view_is) ∙ sym c.live.ensures.there ∙ c.if-live.true)

pub returns-clause-run : goal.returns-clause-run
returns-clause-run g c = λ N d r at.
    let k = c.args.connection in
    reads_no_more (goes r) k c.args.stream c.args.self _ at
    (ap (λ (s : RunState). is_there k s.state) (sym c.self.view_is) ∙ sym c.live.ensures.there ∙ c.if-live.false)
    (λ t is. c.in_ok-with_stream.ensures N d t is)
