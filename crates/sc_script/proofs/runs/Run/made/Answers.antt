use Rattle.std.proofs.Common.{◌≡◌, ap, ◌∙◌}
use Rattle.hub_machine.specs.Machine.{step}
use Rattle.sc_script.proofs.Notes.{made_by}
use Rattle.sc_script.proofs.runs.Run.made.Goals as goal

pub returns-clause-run : goal.returns-clause-run
returns-clause-run g c =
    let e = c.args.event in
    let view = c.self.view_is in
    let hub : c.self.inside.hub ≡ c.args.self.state = ap (λ x. x.state) view in
    made_by e c.args.self _ (c.in_ok-hub.ensures.state ∙ ap (λ x. (step x e).state) hub) (ap (λ x. x.outs) view)
    (ap (λ x. x.size) view) (ap (λ x. x.streams) view)

pub returns-clause-reply : goal.returns-clause-reply
returns-clause-reply g c =
    let hub : c.self.inside.hub ≡ c.args.self.state = ap (λ x. x.state) c.self.view_is in
    c.in_ok-hub.ensures.reply ∙ ap (λ x. (step x c.args.event).reply) hub
