use Rattle.std.proofs.lemmas.Result.{on_ok_weaker}
use Rattle.ac_world.specs.Systems.{IsAppliedBy}
use Rattle.ds_space.specs.declared.space.Applied.TheVariants.{Done, Over}
use Rattle.ac_world.proofs.Changing.{goes_done, goes_over}
use Rattle.ac_world.proofs.residents.Resident.apply.Goals as goal

pub returns-in-Done : goal.returns-in-Done
returns-in-Done g c =
    let ds = g.J.Judge.schema c.args.cx.now.judge.now in
    let r = c.args.self.now in
    let s = c.apply.new.self in
    let told : IsAppliedBy g.Y.System.rows (g.Y.System.behaviour ds) (g.Y.System.behaviour ds r.system)
    (g.Y.System.rows r.system) c.args.event (Done s c.in-Done.changes) =
    rw c.in-Done.is at (c.in_ok-changes.ensures.applied ds) in
    on_ok_weaker c.change_all.result (goes_done g.Y.System.rows (g.Y.System.behaviour ds) g.Y.System.lasting
    c.args.cx.now.actor c.args.cx.now.from c.args.event s c.in-Done.changes r c.change_all.new.self c.args.plan.now
    c.change_all.new.plan c.args.spreads.now told c.in_ok-changes.ensures.lasting) c.change_all.ensures

pub returns-in-Over : goal.returns-in-Over
returns-in-Over g c =
    let ds = g.J.Judge.schema c.args.cx.now.judge.now in
    let r = c.args.self.now in
    let s = c.apply.new.self in
    let told : IsAppliedBy g.Y.System.rows (g.Y.System.behaviour ds) (g.Y.System.behaviour ds r.system)
    (g.Y.System.rows r.system) c.args.event (Over s c.in-Over.weight) =
    rw c.in-Over.is at (c.in_ok-changes.ensures.applied ds) in
    on_ok_weaker c.pass_over_event.result (λ is. goes_over g.Y.System.rows (g.Y.System.behaviour ds) g.Y.System.lasting
    c.args.cx.now.actor c.args.cx.now.from c.args.event s c.in-Over.weight r c.args.plan.now c.args.spreads.now
    c.pass_over_event.new.spreads told c.in_ok-changes.ensures.lasting is c.requires.stands) c.pass_over_event.ensures
