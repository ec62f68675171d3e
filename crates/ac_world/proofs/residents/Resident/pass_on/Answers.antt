use Rattle.std.proofs.Common.{◌≡◌, refl, subst, sym}
use Rattle.std.proofs.lemmas.Result.{on_ok_weaker}
use Rattle.std.specs.Map.{values_of}
use Rattle.ds_space.specs.declared.space.Fan.TheVariants.{Each, Over}
use Rattle.ac_world.specs.Behaviours.{Behaviour}
use Rattle.ac_world.specs.Keeping.{Stands, turning, turning_by}
use Rattle.ac_world.specs.Systems.{IsFanBy}
use Rattle.ac_world.specs.Turns.{Turning, passes_on}
use Rattle.ac_world.proofs.Changing.{passes_each, passes_none}
use Rattle.ac_world.proofs.Standing.{stands_passes_on}
use Rattle.ac_world.proofs.residents.Resident.pass_on.Goals as goal

pub returns-in-Each : goal.returns-in-Each
returns-in-Each g c =
    let ds = g.J.Judge.schema c.args.cx.now.judge.now in
    let a = c.args.cx.now.actor in
    let from = c.args.cx.now.from in
    let system = c.args.self.now.system in
    let y : Behaviour = g.Y.System.behaviour ds system in
    let m = c.args.message.now in
    let t : Turning = turning_by g.Y.System.rows (turning c.args.self.now c.args.plan.now c.args.spreads.now) in
    let told : IsFanBy y (values_of (g.Y.System.rows system)) m (Each c.in-Each.list) =
    rw c.in-Each.is at (c.in_ok-list.ensures ds) in
    on_ok_weaker c.say_all.result (λ is.
    let passed : record t { plan = c.say_all.new.self } ≡ passes_on y from m t =
    passes_each y ds from m t c.in-Each.list.items c.say_all.new.self (g.met.Y.System.judged ds system) told.0 told.1
    is in
    record {
      stands = subst (Stands a) (sym passed) (stands_passes_on y a from m t c.requires);
      turns = (passed, refl);
      lasts = refl;
    }) c.say_all.ensures

pub returns-in-Over : goal.returns-in-Over
returns-in-Over g c =
    let ds = g.J.Judge.schema c.args.cx.now.judge.now in
    let a = c.args.cx.now.actor in
    let from = c.args.cx.now.from in
    let system = c.args.self.now.system in
    let y : Behaviour = g.Y.System.behaviour ds system in
    let m = c.args.message.now in
    let w = c.in-Over.weight in
    let t : Turning = turning_by g.Y.System.rows (turning c.args.self.now c.args.plan.now c.args.spreads.now) in
    let told : IsFanBy y (values_of (g.Y.System.rows system)) m (Over w) =
    rw c.in-Over.is at (c.in_ok-list.ensures ds) in
    on_ok_weaker c.pass_over_message.result (λ is.
    let passed : record t { spreads = c.pass_over_message.new.spreads } ≡ passes_on y from m t =
    passes_none y from m t w c.pass_over_message.new.spreads told.0 told.1 is in
    record {
      stands = subst (Stands a) (sym passed) (stands_passes_on y a from m t c.requires);
      turns = (passed, refl);
      lasts = refl;
    }) c.pass_over_message.ensures
