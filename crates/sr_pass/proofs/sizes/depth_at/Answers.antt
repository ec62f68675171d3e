-- The goals of `depth_at` that the check leaves.
use Rattle.std.proofs.Common.{◌<◌, ◌≤◌, length, arith}
use Rattle.std.proofs.lemmas.Bool.Decides.{nat_tests}
use Rattle.sr_pass.proofs.Reckoning.{there_sized, none_sized}
use Rattle.sr_pass.proofs.sizes.depth_at.Goals as goal

pub returns-in-Some : goal.returns-in-Some
returns-in-Some c =
    let test = c.in-Some.ensures.lookup.0 in
    let there : c.args.place < length c.args.bindings.now = grind (arith, nat_tests, test) in
    let p = there_sized c.args.bindings.now c.args.place c.in-Some.value.now there
    (c.in-Some.ensures.lookup.4 (omega arith) c.in-Some.value.now) in
    omega (arith, p.1, c.depth.ensures)

pub returns-in-None : goal.returns-in-None
returns-in-None c =
    let test = c.in-None.ensures.lookup.0 in
    let past : length c.args.bindings.now ≤ c.args.place = grind (arith, nat_tests, test) in
    let p = none_sized c.args.bindings.now c.args.place past in
    omega (arith, p.1)
