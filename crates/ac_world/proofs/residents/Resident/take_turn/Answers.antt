use Rattle.std.proofs.Common.{◌≡◌, List, ap, subst, ◌∙◌}
use Rattle.ac_table.specs.declared.batches.Event.{Event}
use Rattle.ac_world.specs.Behaviours.{Behaviour}
use Rattle.ac_world.specs.Keeping.{Stands, resident_by, turning, turning_by, turning_over}
use Rattle.ac_world.specs.Outboxes.{plan_over, committed}
use Rattle.ac_world.specs.Turns.{Turning}
use Rattle.ac_world.proofs.residents.Resident.take_turn.Goals as goal

pub returns-clause-turned : goal.returns-clause-turned
returns-clause-turned g c =
    let a = c.args.cx.now.actor in
    let from = c.args.cx.now.from in
    let y : Behaviour = g.Y.System.behaviour (g.J.Judge.schema c.args.cx.now.judge.now) c.args.self.now.system in
    let goes = c.in_ok-spreads.ensures in
    let is : turning_by g.Y.System.rows (turning c.turn_all.new.self c.turn_all.new.plan c.in_ok-spreads.spreads)
    ≡ turning_over y a from c.args.events (resident_by g.Y.System.rows c.args.self.now) c.args.plan.now =
    goes.turns.0 ∙ ap (λ (es : List Event). turning_over y a from es (resident_by g.Y.System.rows c.args.self.now)
    c.args.plan.now) c.into_vec.ensures.events in
    record {
      stands = subst (Stands a) is goes.stands;
      resident = ap (λ (u : Turning). u.resident) is;
      plan = c.in_ok-commit.ensures ∙ ap (λ (u : Turning). plan_over (committed a u.plan)) is;
      spreads = ap (λ (u : Turning). u.spreads) is;
    }
