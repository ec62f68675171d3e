use Rattle.kp_bound.proofs.bound.shown.Goals as goal

pub returns-in_ok-value-in-Some-clause-some : goal.returns-in_ok-value-in-Some-clause-some
returns-in_ok-value-in-Some-clause-some c =
    (c.in-Some.parts, rw c.in-Some.is at c.in_ok-read.ensures.some, c.in_ok-value-in-Some.ensures)
