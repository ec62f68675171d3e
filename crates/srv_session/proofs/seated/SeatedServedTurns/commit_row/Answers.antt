-- A row at a seat: its steps stand behind those that the seat has done, with their replies.
use Rattle.std.proofs.Common.{List, ap, ◌∙◌, ◌++◌}
use Rattle.turn_gate.specs.Gates.{view}
use Rattle.turn_gate.specs.Passes.{own_pairs}
use Rattle.hub_machine.specs.declared.steps.Reply.{Reply}
use Rattle.srv_session.specs.Seats.{step_pairs}
use Rattle.srv_session.specs.Lemmas.Rows.{pairs_added, same_replies, row_done}
use Rattle.srv_session.specs.declared.served.ServedStep.{ServedStep}
use Rattle.srv_session.proofs.seated.SeatedServedTurns.commit_row.Goals as goal

pub returns-clause-row : goal.returns-clause-row
returns-clause-row g c =
    let ps : List (ServedStep × Reply) = c.commit_row.ensures.row.0 in
    let before : List (ServedStep × Reply) = own_pairs (view c.args.self.now.pass) in
    let done = row_done _ c.args.behind _ c.new-first.result c.args.step _ _ c.commit_row.result ps c.new-first.ensures
    c.commit_row.ensures.row.1 in (
      step_pairs ps,
      done.0,
      record {
        pairs = ap step_pairs c.commit_row.ensures.row.3 ∙ pairs_added before ps;
        replies = c.commit_row.ensures.row.2 ∙ ap (λ rs. c.args.replies.now.items ++ rs) (same_replies ps);
        can = done.1;
      },
    )
