-- Which status comes, and what is said of its cause.
use Rattle.std.proofs.Common.{Contains, lit<, sym, subst, ◌∙◌, rules}
use Rattle.dsd_top.specs.Commands.{texts}
use Rattle.dsd_top.specs.declared.faults.Fault.TheVariants as fault
use Rattle.dsd_serve.specs.Causes.{serve_statuses}
use Rattle.dsd_serve.specs.Serving.{AskToServe, IsServing}
use Rattle.dsd_serve.specs.declared.unserved.Unserved.TheVariants.{Of}
use Rattle.dsd_serve.proofs.Causing.{why_known, refused_config, stands}
use Rattle.dsd_serve.proofs.mains.serve_words.Goals as goal

pub returns-in_default-clause-known : goal.returns-in_default-clause-known
returns-in_default-clause-known g c = (1, lit< tt, sym c.refuse.ensures.status)

pub returns-in_default-clause-said : goal.returns-in_default-clause-said
returns-in_default-clause-said g c = λ e.
    let none : AskToServe (texts c.args.words.now) → ⊥ = search rules in
    (Of fault.BadWords, sym c.refuse.ensures.status, none, c.refuse.ensures.said)

pub returns-in_default-clause-said_all : goal.returns-in_default-clause-said_all
returns-in_default-clause-said_all g c = λ e quiet.
    let none : AskToServe (texts c.args.words.now) → ⊥ = search rules in
    (Of fault.BadWords, sym c.refuse.ensures.status, none, c.refuse.ensures.said_all quiet)

pub returns-in-Err-clause-known : goal.returns-in-Err-clause-known
returns-in-Err-clause-known g c =
    subst (Contains serve_statuses) (sym c.tell_why.ensures.status)
    (why_known c.in-Some.serving (g.H.Listen.files c.args.host.now) c.in-Err.why c.in-Err.ensures.cause)

pub returns-in-Err-clause-bad_config : goal.returns-in-Err-clause-bad_config
returns-in-Err-clause-bad_config g c = λ e begins.
    let is : IsServing (texts c.args.words.now) c.in-Some.serving = search rules in (
      c.in-Some.serving,
      is,
      refused_config c.in-Some.serving (g.H.Listen.files c.args.host.now) c.in-Err.why c.in-Err.ensures.cause
          (sym c.tell_why.ensures.status ∙ e),
    )

pub returns-in-Err-clause-said : goal.returns-in-Err-clause-said
returns-in-Err-clause-said g c = λ e.
    let is : IsServing (texts c.args.words.now) c.in-Some.serving = search rules in (
      c.in-Err.why,
      sym c.tell_why.ensures.status,
      stands c.in-Some.serving (g.H.Listen.files c.args.host.now) _ is c.in-Err.why c.in-Err.ensures.cause,
      c.tell_why.ensures.said,
    )

pub returns-in-Err-clause-said_all : goal.returns-in-Err-clause-said_all
returns-in-Err-clause-said_all g c = λ e quiet.
    let is : IsServing (texts c.args.words.now) c.in-Some.serving = search rules in (
      c.in-Err.why,
      sym c.tell_why.ensures.status,
      stands c.in-Some.serving (g.H.Listen.files c.args.host.now) _ is c.in-Err.why c.in-Err.ensures.cause,
      c.tell_why.ensures.said_all quiet,
    )
