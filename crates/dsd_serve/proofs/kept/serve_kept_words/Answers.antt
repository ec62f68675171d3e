-- Which status comes, and what is said of its cause.
use Rattle.std.proofs.Common.{Contains, lit<, sym, subst, rules}
use Rattle.dsd_top.specs.Commands.{texts}
use Rattle.dsd_top.specs.declared.faults.Fault.TheVariants as fault
use Rattle.dsd_serve.specs.Kept.{kept_statuses}
use Rattle.dsd_serve.specs.Serving.{AskToServeKept, IsServingKept}
use Rattle.dsd_serve.specs.declared.unserved.Unserved.TheVariants.{Of}
use Rattle.dsd_serve.proofs.Keeping.{kept_known, stands_kept}
use Rattle.dsd_serve.proofs.kept.serve_kept_words.Goals as goal

pub returns-in_default-clause-known : goal.returns-in_default-clause-known
returns-in_default-clause-known g c = (1, lit< tt, sym c.refuse.ensures.status)

pub returns-in_default-clause-cause : goal.returns-in_default-clause-cause
returns-in_default-clause-cause g c = λ e.
    let none : AskToServeKept (texts c.args.words.now) → ⊥ = search rules in
    (Of fault.BadWords, sym c.refuse.ensures.status, none)

pub returns-in_default-clause-said : goal.returns-in_default-clause-said
returns-in_default-clause-said g c = λ e.
    let none : AskToServeKept (texts c.args.words.now) → ⊥ = search rules in
    (Of fault.BadWords, sym c.refuse.ensures.status, none, c.refuse.ensures.said)

pub returns-in_default-clause-said_all : goal.returns-in_default-clause-said_all
returns-in_default-clause-said_all g c = λ e quiet.
    let none : AskToServeKept (texts c.args.words.now) → ⊥ = search rules in
    (Of fault.BadWords, sym c.refuse.ensures.status, none, c.refuse.ensures.said_all quiet)

pub returns-in-Err-clause-known : goal.returns-in-Err-clause-known
returns-in-Err-clause-known g c =
    subst (Contains kept_statuses) (sym c.tell_why.ensures.status)
    (kept_known (g.K.Keeper.kept c.args.keeper.now) c.in-Err.why c.in-Err.ensures.cause)

pub returns-in-Err-clause-cause : goal.returns-in-Err-clause-cause
returns-in-Err-clause-cause g c = λ e.
    let is : IsServingKept (texts c.args.words.now) c.in-Some.serving = search rules in (
      c.in-Err.why,
      sym c.tell_why.ensures.status,
      stands_kept (g.K.Keeper.kept c.args.keeper.now) _ c.in-Some.serving is c.in-Err.why c.in-Err.ensures.cause,
    )

pub returns-in-Err-clause-said : goal.returns-in-Err-clause-said
returns-in-Err-clause-said g c = λ e.
    let is : IsServingKept (texts c.args.words.now) c.in-Some.serving = search rules in (
      c.in-Err.why,
      sym c.tell_why.ensures.status,
      stands_kept (g.K.Keeper.kept c.args.keeper.now) _ c.in-Some.serving is c.in-Err.why c.in-Err.ensures.cause,
      c.tell_why.ensures.said,
    )

pub returns-in-Err-clause-said_all : goal.returns-in-Err-clause-said_all
returns-in-Err-clause-said_all g c = λ e quiet.
    let is : IsServingKept (texts c.args.words.now) c.in-Some.serving = search rules in (
      c.in-Err.why,
      sym c.tell_why.ensures.status,
      stands_kept (g.K.Keeper.kept c.args.keeper.now) _ c.in-Some.serving is c.in-Err.why c.in-Err.ensures.cause,
      c.tell_why.ensures.said_all quiet,
    )
