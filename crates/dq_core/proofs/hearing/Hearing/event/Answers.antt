use Rattle.std.proofs.Common.{◌≡◌, true, sym, subst}
use Rattle.dq_core.specs.Hearing.{is_ours}
use Rattle.dq_core.specs.Answers.{Leaves}
use Rattle.dq_core.proofs.Turning.{event_is}
use Rattle.dq_core.proofs.hearing.Hearing.event.Goals as goal

pub returns-in-Assert : goal.returns-in-Assert
returns-in-Assert c =
    let ours : is_ours c.args.event.now.oid ≡ true = cc in
    subst (λ r. Leaves r c.assertion.result c.assertion.new.self)
    (sym (event_is c.args.event.now c.args.self.now _ ours c.in-Assert.is)) c.assertion.ensures
