use Rattle.std.proofs.Common.{◌≡◌, true, false, cond, ap, sym, ◌∙◌}
use Rattle.std.proofs.lemmas.Result.{on_ok_weaker}
use Rattle.ds_space.specs.Spaces.{has_row}
use Rattle.ds_space.specs.declared.space.SpaceEvent.TheVariants.{Add}
use Rattle.ac_world.specs.Behaviours.{Behaviour}
use Rattle.ac_world.specs.Keeping.{turning, turning_by}
use Rattle.ac_world.specs.Turns.{Turning, applied, taken_in}
use Rattle.ac_world.proofs.Changing.{goes_as, goes_not}
use Rattle.ac_world.proofs.residents.Resident.take_in.Goals as goal

pub returns-then-has : goal.returns-then-has
returns-then-has g c =
    let rows = g.Y.System.rows in
    let behaviour = g.Y.System.behaviour (g.J.Judge.schema c.args.cx.now.judge.now) in
    let cx = c.args.cx.now in
    let old = turning c.args.self.now c.args.plan.now c.args.spreads.now in
    let t : Turning = turning_by rows old in
    let y : Behaviour = behaviour old.resident.system in
    let has : has_row c.args.handle t.resident.got ≡ true = sym c.has.ensures ∙ c.if-has.true in
    goes_as rows behaviour g.Y.System.lasting cx.actor old old (λ z u. u)
    (λ z. taken_in z cx.actor cx.from c.args.handle c.args.value)
    (sym (ap (λ b. cond b t (applied y cx.actor cx.from (Add c.args.handle c.args.value) t)) has))
    (goes_not rows behaviour g.Y.System.lasting cx.actor old c.requires)

pub returns : goal.returns
returns g c =
    let rows = g.Y.System.rows in
    let behaviour = g.Y.System.behaviour (g.J.Judge.schema c.args.cx.now.judge.now) in
    let cx = c.args.cx.now in
    let old = turning c.args.self.now c.args.plan.now c.args.spreads.now in
    let t : Turning = turning_by rows old in
    let y : Behaviour = behaviour old.resident.system in
    let has : has_row c.args.handle t.resident.got ≡ false = sym c.has.ensures ∙ c.if-has.false in
    on_ok_weaker c.apply.result (goes_as rows behaviour g.Y.System.lasting cx.actor old
    (turning c.apply.new.self c.apply.new.plan c.apply.new.spreads)
    (λ z. applied z cx.actor cx.from (Add c.args.handle c.args.value))
    (λ z. taken_in z cx.actor cx.from c.args.handle c.args.value)
    (sym (ap (λ b. cond b t (applied y cx.actor cx.from (Add c.args.handle c.args.value) t)) has))) c.apply.ensures
