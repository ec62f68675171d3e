-- What is said of serving over the hub.
use Rattle.std.proofs.lemmas.Result.{IfErr-weaker, IfErr-at_err}
use Rattle.dsd_serve.specs.Causes.{IsServingFault}
use Rattle.dsd_serve.specs.Kept.{IsWhyUnservedKept}
use Rattle.dsd_serve.proofs.Keeping.{served_too, never_of_keeper}
use Rattle.dsd_serve.proofs.kept.serve_kept.Goals as goal

pub returns-clause-cause : goal.returns-clause-cause
returns-clause-cause g c =
    let kept = g.K.Keeper.kept c.args.keeper.now in
    IfErr-weaker c.serve_hub.result IsServingFault (IsWhyUnservedKept kept) (served_too kept) c.serve_hub.ensures.cause

pub returns-clause-keeper_failed : goal.returns-clause-keeper_failed
returns-clause-keeper_failed g c = λ e.
    absurd (never_of_keeper (IfErr-at_err IsServingFault e c.serve_hub.ensures.cause))
