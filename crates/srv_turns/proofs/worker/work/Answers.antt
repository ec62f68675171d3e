use Rattle.std.proofs.Common.{◌≡◌, ◌++◌, true, Err, sym, ap, ◌∙◌, subst}
use Rattle.srv_turns.specs.Working.{is_for_more_work, HasWorked}
use Rattle.ac_world.specs.Lemmas.Entries.{all_append}
use Rattle.srv_turns.proofs.Pairs.{worked_more}
use Rattle.srv_turns.proofs.Ending.{row_worked, cut_worked, works_on, rests, work_over, worked_behind, work_failed}
use Rattle.srv_turns.proofs.worker.work.Goals as goal

pub loop-preserved-in-More : goal.loop-preserved-in-More
loop-preserved-in-More g c =
    let d = c.loop.invariant.done in
    let m = c.in-Ok.ensures.row in
    let more = works_on m.0 _ _ _ m.2 m.1 c.last.result c.last.ensures.last (sym c.in-More.ensures) in
    record {
      can = tt;
      finite = tt;
      done = (
        d.0 ++ c.commit.new.self.replies.items,
        all_append (λ x. is_for_more_work x ≡ true) d.0 _ d.1 more,
        worked_more d.0 _ _ _ _ d.2 (row_worked m.0 _ _ _ m.2 m.1),
      );
    }

pub rest-requires : goal.rest-requires
rest-requires g c =
    let m = c.in-Ok.ensures.row in
    record { idle = (rests m.0 _ _ _ m.2 m.1 c.last.result c.last.ensures.last (sym c.in-Rest.ensures)).1 }

pub loop-preserved : goal.loop-preserved
loop-preserved g c =
    let d = c.loop.invariant.done in
    let m = c.in-Ok.ensures.row in
    let more = (rests m.0 _ _ _ m.2 m.1 c.last.result c.last.ensures.last (sym c.in-Rest.ensures)).0 in
    record {
      can = tt;
      finite = tt;
      done = (
        d.0 ++ c.commit.new.self.replies.items,
        all_append (λ x. is_for_more_work x ≡ true) d.0 _ d.1 more,
        c.rest.ensures.same ∙ worked_more d.0 _ _ _ _ d.2 (row_worked m.0 _ _ _ m.2 m.1),
      );
    }

pub returns-in-Over : goal.returns-in-Over
returns-in-Over g c =
    let d = c.loop.invariant.done in
    let m = c.in-Ok.ensures.row in (
      d.0 ++ c.commit.new.self.replies.items,
      worked_more d.0 _ _ _ _ d.2 (row_worked m.0 _ _ _ m.2 m.1),
      worked_behind d.0 _ _ _ d.1
          (work_over m.0 _ _ _ m.2 m.1 c.last.result c.last.ensures.last _ c.in-Over.end (sym c.in-Over.ensures)),
    )

pub returns-in-Err : goal.returns-in-Err
returns-in-Err g c =
    let d = c.loop.invariant.done in
    let m = c.in-Err.ensures.row in
    let cut = cut_worked m.0 _ _ _ m.2 m.1 in (
      d.0 ++ c.commit.new.self.replies.items,
      worked_more d.0 _ _ _ _ d.2 cut.0,
      subst (HasWorked (d.0 ++ c.commit.new.self.replies.items) (g.T.Turns.spent c.commit.new.turns))
          (sym c.end_at.ensures)
          (worked_behind d.0 _ _ _ d.1 (work_failed _ c.in-Err.fault _ cut.1 (λ e. c.in-Err.ensures.cause (ap Err e)))),
    )
