use Rattle.ac_world.proofs.Pushes.{pushed_at_fault}
use Rattle.ac_world.proofs.outboxes.push.Goals as goal

pub returns-in_default : goal.returns-in_default
returns-in_default c =
    pushed_at_fault c.args.target c.args.batch c.args.table.now c.push_batch.new.self c.in-Err.fault
    c.in-Err.ensures.fault c.in_default.not-NoMemory
