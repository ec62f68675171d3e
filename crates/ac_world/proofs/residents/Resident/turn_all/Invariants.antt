use Rattle.std.proofs.Common.{[]}
use Rattle.ac_world.specs.Keeping.{GoesOn, turning}
use Rattle.ac_world.specs.Turns.{all_turned}
use Rattle.ac_world.proofs.residents.Resident.turn_all.Given as goal

-- what was done so far
abbrev pub invariant-loop-event : goal.invariant-loop-event
invariant-loop-event g l =
    GoesOn g.Y.System.rows (g.Y.System.behaviour (g.J.Judge.schema l.cx.judge.now)) g.Y.System.lasting l.cx.actor
    (turning l.fn.self l.fn.plan []) (λ y. all_turned y l.cx.actor l.cx.from l.yielded)
    (turning l.self l.plan l.spreads)
