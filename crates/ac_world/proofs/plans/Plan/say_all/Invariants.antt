use Rattle.std.proofs.Common.{◌≡◌}
use Rattle.ac_world.specs.Turns.{say_all}
use Rattle.ac_world.proofs.plans.Plan.say_all.Given as goal

-- what is left to say leads to what all leads to
abbrev pub invariant-loop-fanned : goal.invariant-loop-fanned
invariant-loop-fanned g l =
    say_all (g.J.Judge.schema l.judge) l.fanned-iterator.rest.items l.self
    ≡ say_all (g.J.Judge.schema l.judge) l.fn.list.items l.fn.self
