use Rattle.srv_loop.proofs.Starting.{second_started}
use Rattle.srv_loop.proofs.accepting.start_both.Goals as goal

pub returns-clause-jobs : goal.returns-clause-jobs
returns-clause-jobs g c =
    let first = c.if-not-start.ensures in
    let second = c.start-2.ensures in
    second_started _ _ _ _ _ _ _ _ _ first.content first.counted second.content second.counted
