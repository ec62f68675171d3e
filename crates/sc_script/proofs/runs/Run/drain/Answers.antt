use Rattle.std.proofs.Common.{◌≡◌, ◌+◌, ◌-◌, suc, arith, sym, ap, ◌∙◌}
use Rattle.sc_script.specs.Runs.{turned, drained}
use Rattle.sc_script.proofs.Courses.{course_ends, part_goes, part_stops, turn_first, drain_ends, lowest_of}
use Rattle.sc_schema.specs.Lemmas.FaultsPassed.{err_so}
use Rattle.sc_script.proofs.runs.Run.drain.Goals as goal

pub returns-clause-run : goal.returns-clause-run
returns-clause-run g c = λ N is r at.
    let none : c.args.turns - c.loop.counter ≡ 0 = omega arith in
    course_ends _ _ _ (c.loop.invariant N is r at) (λ t there. ap (λ m. drained m t) none)

pub returns-in_default-clause-run : goal.returns-in_default-clause-run
returns-in_default-clause-run g c = λ N is r at.
    course_ends _ _ _ (c.loop.invariant N is r at)
    (drain_ends (c.args.turns - c.loop.counter) c.loop.run
    (lowest_of c.run.view_is ∙ sym c.lowest.ensures ∙ c.in_default.is))

pub returns-in_err-run-clause-stop : goal.returns-in_err-run-clause-stop
returns-in_err-run-clause-stop g c = err_so _ _ _ c.from_residual.ensures.1 (λ N is r at.
    let k = c.args.turns - (c.loop.counter + 1) in
    let a = c.in-Some.actor in
    let more : c.args.turns - c.loop.counter ≡ suc k = omega arith in
    part_stops _ _ _ (c.loop.invariant N is r at) (turned a) (drained k)
    (turn_first _ k a c.loop.run more (lowest_of c.run.view_is ∙ sym c.lowest.ensures ∙ c.in-Some.is)) _
    (c.in_err-run.ensures.stop N is))

pub loop-preserved : goal.loop-preserved
loop-preserved g c = λ N is r at.
    let k = c.args.turns - (c.loop.counter + 1) in
    let a = c.in-Some.actor in
    let more : c.args.turns - c.loop.counter ≡ suc k = omega arith in
    part_goes _ _ _ (c.loop.invariant N is r at) (turned a) (drained k)
    (turn_first _ k a c.loop.run more (lowest_of c.run.view_is ∙ sym c.lowest.ensures ∙ c.in-Some.is)) _
    (c.in_ok-run.ensures.run N is)
