use Rattle.kp_bound.proofs.bound.binding_of.Goals as goal

pub returns-in_ok-binding-in-Some-clause-some : goal.returns-in_ok-binding-in-Some-clause-some
returns-in_ok-binding-in-Some-clause-some c =
    (c.in-Some.parts, rw c.in-Some.is at c.in_ok-read.ensures.some, c.in_ok-binding-in-Some.ensures)
