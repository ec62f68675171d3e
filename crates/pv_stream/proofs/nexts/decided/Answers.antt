use Rattle.std.proofs.Common.{subst}
use Rattle.pv_stream.specs.Feeds.{FeedState}
use Rattle.pv_stream.specs.Nexts.{IsNext}
use Rattle.pv_stream.specs.Lemmas.Longer.{value_fits}
use Rattle.pv_stream.proofs.One.{none_given}
use Rattle.pv_stream.proofs.nexts.decided.Goals as goal

pub stopped-requires-clause-stops : goal.stopped-requires-clause-stops
stopped-requires-clause-stops c =
    let at_front = rw c.front_of.ensures at c.in-Err-Bad.ensures.exact in
    rw c.in-Err-Bad.field-0-is at at_front

pub returns-in-Ok-clause-fits : goal.returns-in-Ok-clause-fits
returns-in-Ok-clause-fits c =
    value_fits c.args.left.now _ _ (rw c.front_of.ensures at c.in-Ok.ensures.found)

pub returns-in-Err-Bad-clause-told : goal.returns-in-Err-Bad-clause-told
returns-in-Err-Bad-clause-told c =
    subst (λ (g : FeedState). IsNext (record { left = c.args.left.now; before = c.args.before }) c.stopped.result g)
    (none_given (record { left = c.args.left.now; before = c.args.before })) c.stopped.ensures
