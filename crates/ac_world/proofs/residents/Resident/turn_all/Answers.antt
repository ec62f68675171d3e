use Rattle.std.proofs.Common.{[], subst, sym}
use Rattle.ac_world.specs.Keeping.{GoesOn, turning}
use Rattle.ac_world.specs.Turns.{turned_by, all_turned}
use Rattle.ac_world.proofs.Changing.{goes_not, goes_then, all_turned-push}
use Rattle.ac_world.proofs.residents.Resident.turn_all.Goals as goal

pub loop-event-init : goal.loop-event-init
loop-event-init g c =
    let behaviour = g.Y.System.behaviour (g.J.Judge.schema c.args.cx.now.judge.now) in
    let a = c.args.cx.now.actor in
    let old = turning c.args.self.now c.args.plan.now [] in
    subst (λ ss. GoesOn g.Y.System.rows behaviour g.Y.System.lasting a old (λ y t. t)
    (turning c.args.self.now c.args.plan.now ss)) (sym c.new-spreads.ensures)
    (goes_not g.Y.System.rows behaviour g.Y.System.lasting a old c.requires)

pub loop-event-preserved : goal.loop-event-preserved
loop-event-preserved g c =
    let a = c.args.cx.now.actor in
    let from = c.args.cx.now.from in
    let e = c.in-Some.event in
    goes_then g.Y.System.rows (g.Y.System.behaviour (g.J.Judge.schema c.args.cx.now.judge.now)) g.Y.System.lasting a
    (turning c.args.self.now c.args.plan.now []) (turning c.loop-event.self c.loop-event.plan c.loop-event.spreads)
    (turning c.turn.new.self c.turn.new.plan c.turn.new.spreads)
    (λ y. all_turned y a from c.loop-event.yielded) (λ y. turned_by y a from e) _
    (λ y t. all_turned-push y a from c.loop-event.yielded e t) c.loop-event.invariant c.in_ok-turn.ensures
