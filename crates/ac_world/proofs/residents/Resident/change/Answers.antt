use Rattle.std.proofs.Common.{OnOk, [], subst, sym}
use Rattle.ds_space.specs.declared.space.Change.{Change}
use Rattle.ds_space.specs.declared.space.Change.TheVariants.{Left}
use Rattle.ac_world.specs.Keeping.{GoesOn, turning}
use Rattle.ac_world.specs.Turns.{changed_by}
use Rattle.ac_world.proofs.Changing.{goes_on}
use Rattle.ac_world.proofs.residents.Resident.change.Goals as goal

pub returns-in-Left : goal.returns-in-Left
returns-in-Left g c =
    let ds = g.J.Judge.schema c.args.cx.now.judge.now in
    let old = turning c.args.self.now c.args.plan.now [] in
    let new = turning c.leave.new.self c.leave.new.plan [] in
    subst (λ (x : Change). OnOk c.leave.result (GoesOn g.Y.System.rows (g.Y.System.behaviour ds) g.Y.System.lasting
    c.args.cx.now.actor old (λ y. changed_by y c.args.cx.now.actor x) new)) (sym c.in-Left.is)
    (goes_on g.Y.System.rows (g.Y.System.behaviour ds) g.Y.System.lasting c.args.cx.now.actor old new
    (λ y. changed_by y c.args.cx.now.actor (Left c.in-Left.key)) c.leave.result
    c.leave.ensures.stands (c.leave.ensures.turns ds) c.leave.ensures.system)

pub returns-in-Came : goal.returns-in-Came
returns-in-Came g c =
    let ds = g.J.Judge.schema c.args.cx.now.judge.now in
    subst (λ (x : Change). OnOk c.come.result (GoesOn g.Y.System.rows (g.Y.System.behaviour ds) g.Y.System.lasting
    c.args.cx.now.actor (turning c.args.self.now c.args.plan.now [])
    (λ y. changed_by y c.args.cx.now.actor x) (turning c.come.new.self c.come.new.plan []))) (sym c.in-Came.is)
    c.come.ensures
