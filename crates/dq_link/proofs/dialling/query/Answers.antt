use Rattle.std.proofs.Common.{[], refl, sym, subst}
use Rattle.out_ports.specs.Dialled.{ToldSaying, ToldLink}
use Rattle.dq_core.specs.Asking.{opening}
use Rattle.dq_core.specs.Clients.{begun}
use Rattle.dq_link.specs.Asked.{HasAsked}
use Rattle.dq_link.specs.declared.dialling.QueryEnd.TheVariants as end
use Rattle.dq_link.proofs.Hearing.{same_heard}
use Rattle.dq_link.proofs.Rounds.{undialled, unasked}
use Rattle.dq_link.proofs.dialling.query.Goals as goal

pub returns-in_default-clause-asked : goal.returns-in_default-clause-asked
returns-in_default-clause-asked g c =
    let before : ToldLink = g.H.Listen.link c.args.host.now in (
      [],
      same_heard before.heard before.heard refl,
      unasked (opening c.args.question.reference) (begun c.args.question.pattern) c.args.question.lines _ _ before.heard
          c.bytes_have_courses.ensures,
    )

pub returns-in-Err-Failed-clause-asked : goal.returns-in-Err-Failed-clause-asked
returns-in-Err-Failed-clause-asked g c =
    let before : ToldLink = g.H.Listen.link c.args.host.now in
    let now : ToldLink = g.H.Listen.link c.dial.new.self in
    let first = opening c.args.question.reference in
    let client = begun c.args.question.pattern in
    let n = c.args.question.lines in
    let out = g.O.Sink.held c.args.out.now in (
      [],
      same_heard before.heard now.heard c.dial.ensures.rest.0,
      subst (λ (s : ToldSaying). HasAsked first client n [] out out before.said.held s.held now.heard end.DialFailed)
          (sym c.dial.ensures.rest.1)
          (undialled first client n out before.said.held now.heard c.bytes_have_courses.ensures),
    )

pub returns-clause-asked : goal.returns-clause-asked
returns-clause-asked g c =
    let before : ToldLink = g.H.Listen.link c.args.host.now in
    let now : ToldLink = g.H.Listen.link c.dial.new.self in
    let first = opening c.args.question.reference in
    let client = begun c.args.question.pattern in
    let n = c.args.question.lines in
    let out = g.O.Sink.held c.args.out.now in (
      [],
      same_heard before.heard now.heard c.dial.ensures.rest.0,
      subst (λ (s : ToldSaying). HasAsked first client n [] out out before.said.held s.held now.heard end.NoMemory)
          (sym c.dial.ensures.rest.1)
          (unasked first client n out before.said.held now.heard c.bytes_have_courses.ensures),
    )
