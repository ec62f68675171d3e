use Rattle.std.proofs.Common.{[]}
use Rattle.ac_world.specs.Keeping.{turning}
use Rattle.ac_world.specs.Turns.{changed_by, all_changed}
use Rattle.ac_world.proofs.Changing.{goes_not, goes_then, all_changed-push}
use Rattle.ac_world.proofs.residents.Resident.change_all.Goals as goal

pub loop-change-init : goal.loop-change-init
loop-change-init g c =
    goes_not g.Y.System.rows (g.Y.System.behaviour (g.J.Judge.schema c.args.cx.now.judge.now)) g.Y.System.lasting
    c.args.cx.now.actor (turning c.args.self.now c.args.plan.now []) c.requires

pub loop-change-preserved : goal.loop-change-preserved
loop-change-preserved g c =
    let a = c.args.cx.now.actor in
    let x = c.in-Some.change in
    goes_then g.Y.System.rows (g.Y.System.behaviour (g.J.Judge.schema c.args.cx.now.judge.now)) g.Y.System.lasting a
    (turning c.args.self.now c.args.plan.now []) (turning c.loop-change.self c.loop-change.plan [])
    (turning c.change.new.self c.change.new.plan [])
    (λ y. all_changed y a c.loop-change.yielded) (λ y. changed_by y a x) _
    (λ y t. all_changed-push y a c.loop-change.yielded x t) c.loop-change.invariant c.in_ok-change.ensures
