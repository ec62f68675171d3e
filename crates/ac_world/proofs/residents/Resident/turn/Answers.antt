use Rattle.std.proofs.Common.{◌≡◌, OnOk, refl, ap, subst, sym, ◌∙◌}
use Rattle.std.proofs.lemmas.Result.{on_ok_weaker}
use Rattle.ac_table.specs.declared.batches.Event.{Event}
use Rattle.ac_world.specs.Behaviours.{Behaviour}
use Rattle.ac_world.specs.Keeping.{GoesOn, Stands, turning, turning_by}
use Rattle.ac_world.specs.Turns.{Turning, answer_to, turned_by}
use Rattle.ac_world.proofs.Standing.{stands_answered}
use Rattle.ac_world.proofs.residents.Resident.turn.Goals as goal

pub returns-in-Assert : goal.returns-in-Assert
returns-in-Assert g c =
    subst (λ (e : Event). OnOk c.take_in.result (GoesOn g.Y.System.rows
    (g.Y.System.behaviour (g.J.Judge.schema c.args.cx.now.judge.now)) g.Y.System.lasting c.args.cx.now.actor
    (turning c.args.self.now c.args.plan.now c.args.spreads.now)
    (λ y. turned_by y c.args.cx.now.actor c.args.cx.now.from e)
    (turning c.take_in.new.self c.take_in.new.plan c.take_in.new.spreads))) (sym c.in-Assert.is) c.take_in.ensures

pub returns-in-Retract : goal.returns-in-Retract
returns-in-Retract g c =
    subst (λ (e : Event). OnOk c.apply.result (GoesOn g.Y.System.rows
    (g.Y.System.behaviour (g.J.Judge.schema c.args.cx.now.judge.now)) g.Y.System.lasting c.args.cx.now.actor
    (turning c.args.self.now c.args.plan.now c.args.spreads.now)
    (λ y. turned_by y c.args.cx.now.actor c.args.cx.now.from e)
    (turning c.apply.new.self c.apply.new.plan c.apply.new.spreads))) (sym c.in-Retract.is) c.apply.ensures

pub returns-in-Message : goal.returns-in-Message
returns-in-Message g c =
    subst (λ (e : Event). OnOk c.pass_on.result (GoesOn g.Y.System.rows
    (g.Y.System.behaviour (g.J.Judge.schema c.args.cx.now.judge.now)) g.Y.System.lasting c.args.cx.now.actor
    (turning c.args.self.now c.args.plan.now c.args.spreads.now)
    (λ y. turned_by y c.args.cx.now.actor c.args.cx.now.from e)
    (turning c.pass_on.new.self c.pass_on.new.plan c.pass_on.new.spreads))) (sym c.in-Message.is) c.pass_on.ensures

pub returns-in-Sync : goal.returns-in-Sync
returns-in-Sync g c =
    let ds = g.J.Judge.schema c.args.cx.now.judge.now in
    let a = c.args.cx.now.actor in
    let from = c.args.cx.now.from in
    let system = c.args.self.now.system in
    let peer = c.in-Sync.peer in
    let y : Behaviour = g.Y.System.behaviour ds system in
    let t : Turning = turning_by g.Y.System.rows (turning c.args.self.now c.args.plan.now c.args.spreads.now) in
    on_ok_weaker c.answer.result (λ is.
    let done : record t { plan = c.answer.new.self } ≡ turned_by y a from c.args.event t =
    (λ i. record t { plan = is i })
    ∙ ap (λ d. record t { plan = answer_to d peer t.plan }) (sym (g.met.Y.System.judged ds system))
    ∙ ap (λ (e : Event). turned_by y a from e t) (sym c.in-Sync.is) in
    record {
      stands = subst (λ p. Stands a (record t { plan = p })) (sym is) (stands_answered a ds peer t c.requires);
      turns = (done, refl);
      lasts = refl;
    }) c.answer.ensures
