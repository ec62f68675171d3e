-- A commit at a seat: what is replied can be, and the step stands behind those that the seat has done, with its reply.
use Rattle.std.proofs.Common.{List, [], ◌∷◌, ◌++◌, ap, ◌∙◌}
use Rattle.std.proofs.lemmas.List.{map_push}
use Rattle.std.proofs.lemmas.Result.{IfOk-weaker, MatchResult-weaker}
use Rattle.turn_gate.specs.Gates.{view}
use Rattle.turn_gate.specs.Passes.{own_pairs}
use Rattle.hub_machine.specs.declared.steps.Reply.{Reply}
use Rattle.srv_session.specs.Seats.{step_pairs}
use Rattle.srv_session.specs.Lemmas.Replied.{replied}
use Rattle.srv_session.specs.declared.served.ServedStep.{ServedStep}
use Rattle.srv_session.proofs.seated.SeatedServedTurns.commit.Goals as goal

pub returns-clause-reply : goal.returns-clause-reply
returns-clause-reply g c =
    IfOk-weaker c.commit.result _ _ (λ r done. replied _ _ _ c.new.result c.args.step r done c.new.ensures)
    c.commit.ensures.ok

pub returns-clause-added : goal.returns-clause-added
returns-clause-added g c =
    let before : List (ServedStep × Reply) = own_pairs (view c.args.self.now.pass) in
    MatchResult-weaker c.commit.result c.commit.ensures.own
    (λ r own. ap step_pairs own ∙ map_push (λ (p : ServedStep × Reply). (p.0.step, p.1)) before (c.new.result, r)
    ∙ ap (λ s. step_pairs before ++ (s, r) ∷ []) c.new.ensures)
    (λ e own. ap step_pairs own)
