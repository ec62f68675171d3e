-- What is left is what the run's steps leave.
use Rattle.sc_script.proofs.ran.run_script.Goals as goal

pub returns-clause-run : goal.returns-clause-run
returns-clause-run g c = λ N d.
    let x = c.in_ok-run.ensures.run N d in
    (x.0, x.1, x.2.allowed, c.in_ok-left_by.ensures x.0 x.2)
