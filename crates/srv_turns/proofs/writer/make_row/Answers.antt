use Rattle.std.proofs.Common.{◌≡◌, List, ◌++◌, Some, Err, sym, ap, ◌∙◌, subst}
use Rattle.std.proofs.lemmas.Result.{IfOk-at_ok}
use Rattle.hub_machine.specs.declared.steps.Reply.{Reply}
use Rattle.srv_turns.specs.Writing.{spelled_in}
use Rattle.srv_turns.specs.Gathering.{IsGathered}
use Rattle.srv_turns.specs.declared.writer.Pause.TheVariants.{Over}
use Rattle.srv_turns.proofs.Writing.{row_turned, cut_turned, both_turned, row_turns, row_gathered, cut_gathered}
use Rattle.srv_turns.proofs.writer.make_row.Goals as goal

pub returns-in-Err : goal.returns-in-Err
returns-in-Err g c =
    let k = c.args.connection in
    let d = c.commit-done.ensures.row in
    let has = c.commit-done.new.self.replies.items in
    let f = c.in-Err.ensures.front in (
      has,
      both_turned k d.0 _ _ has d.2 c.commit-done.result d.1,
      (
        f.0,
        f.2,
        (
          row_turns k d.0 _ _ has d.2 c.commit-done.result d.1 c.last-last.result c.last-last.ensures.last,
          (f.1, ap spelled_in (sym c.replies.ensures) ∙ f.3),
        ),
      ),
    )

pub returns-in-Ok : goal.returns-in-Ok
returns-in-Ok g c =
    let k = c.args.connection in
    let d = c.in-Ok.ensures.row in
    let has = c.commit-done.new.self.replies.items in
    let old = c.args.gathered.now.items in
    let new = c.gather_all-all.new.gathered.items in
    let spent = g.T.Turns.spent c.commit-done.new.turns in
    let wrote = IfOk-at_ok (λ _. new ≡ old ++ spelled_in c.replies.result.now) c.in_default.is
    c.gather_all-all.ensures.written in
    let all = wrote ∙ ap (λ (rs : List Reply). old ++ spelled_in rs) c.replies.ensures in (
      has,
      row_turned k d.0 _ _ has d.2 d.1,
      subst (IsGathered has old new spent) (sym c.after_row.ensures)
          (row_gathered k d.0 _ _ has d.2 old new spent d.1 c.last-last.result c.last-last.ensures.last all),
    )

pub returns-in-Err-done : goal.returns-in-Err-done
returns-in-Err-done g c =
    let k = c.args.connection in
    let d = c.in-Err-done.ensures.row in
    let has = c.commit-done.new.self.replies.items in
    let old = c.args.gathered.now.items in
    let new = c.gather_all-all.new.gathered.items in
    let spent = g.T.Turns.spent c.commit-done.new.turns in
    let wrote = IfOk-at_ok (λ _. new ≡ old ++ spelled_in c.replies.result.now) c.in_default.is
    c.gather_all-all.ensures.written in
    let all = wrote ∙ ap (λ (rs : List Reply). old ++ spelled_in rs) c.replies.ensures in (
      has,
      cut_turned k d.0 _ _ has d.2 d.1,
      subst (λ x. IsGathered has old new spent (Some (Over x))) (sym c.end_at.ensures)
          (cut_gathered k d.0 _ _ has d.2 old new spent c.in-Err-done.fault d.1
          (λ e. c.in-Err-done.ensures.cause (ap Err e)) all),
    )
