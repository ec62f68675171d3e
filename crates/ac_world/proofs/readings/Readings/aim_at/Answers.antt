use Rattle.std.proofs.Common.{option_and_then, sym, ap, ◌∙◌}
use Rattle.std.proofs.lemmas.Result.{IfOk-weaker}
use Rattle.ac_world.specs.Aims.{aim_by}
use Rattle.ac_world.proofs.readings.Readings.aim_at.Goals as goal

pub returns-in-Some : goal.returns-in-Some
returns-in-Some g c =
    let ds = g.J.Judge.schema c.args.judge.now in
    let read = c.self.invariant.1 c.args.reference.now c.in-Some.cap.now (sym c.in-Some.ensures.value) in
    IfOk-weaker c.aim_through.result _ _
    (λ aim is. is ∙ ap (option_and_then (aim_by ds c.args.value.now)) read) c.aim_through.ensures
