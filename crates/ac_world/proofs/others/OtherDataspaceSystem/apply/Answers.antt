use Rattle.std.proofs.lemmas.Result.{IfOk-weaker}
use Rattle.ac_world.proofs.Outcoming.{space_applied, watcher_applied}
use Rattle.ac_world.proofs.others.OtherDataspaceSystem.apply.Goals as goal

pub returns-in-Space-clause-applied : goal.returns-in-Space-clause-applied
returns-in-Space-clause-applied g c =
    rw c.in-Space.is (IfOk-weaker c.apply.result _ _
    (λ o told ds. space_applied ds c.in-Space.space c.args.event c.apply.new.self o (told ds)) c.apply.ensures.applied)

pub returns-in-Watcher-clause-applied : goal.returns-in-Watcher-clause-applied
returns-in-Watcher-clause-applied g c =
    rw c.in-Watcher.is (IfOk-weaker c.apply-in-Watcher.result _ _
    (λ o told ds. watcher_applied ds c.in-Watcher.watcher c.apply-in-Watcher.new.self c.args.event o (told ds))
    c.apply-in-Watcher.ensures.applied)
