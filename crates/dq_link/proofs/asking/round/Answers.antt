use Rattle.std.proofs.Common.{◌≡◌, ◌<◌, ◌+◌, [], IfErr, length, sym, subst, arith}
use Rattle.std.proofs.lemmas.List.Elements.{All-nil}
use Rattle.out_ports.specs.Dialled.{ToldHearing, ToldSaying, ToldLink}
use Rattle.rl_stream.specs.Streams.{StreamState, with_bytes}
use Rattle.dq_link.specs.Asked.{AreHeard, CauseOf}
use Rattle.dq_link.specs.Going.{IsGoing, GoesRound}
use Rattle.dq_link.proofs.Going.{with_more}
use Rattle.dq_link.proofs.Hearing.{same_heard}
use Rattle.dq_link.proofs.Rounds.{nothing_heard, round_ends}
use Rattle.dq_link.proofs.Staying.{on_err, link_of_said, cause_later}
use Rattle.dq_link.proofs.asking.round.Goals as goal

pub returns-in_err-asker-clause-heard : goal.returns-in_err-asker-clause-heard
returns-in_err-asker-clause-heard g c =
    let before : ToldLink = g.H.Listen.link c.args.host.now in
    let now : ToldLink = g.H.Listen.link c.packets.new.host in
    let old = c.args.received.now in
    let e = c.in_err-asker.field-0.0 in (
      [],
      All-nil (λ b. b < 256),
      same_heard before.heard now.heard c.packets.ensures.only.rest.2,
      λ are. on_err (GoesRound [] c.args.asker old c.packets.new.received (g.O.Sink.held c.args.out.now)
          (g.O.Sink.held c.packets.new.out) before.said.held now.said.held now.heard)
          c.from_residual.result e c.from_residual.ensures.1
          (nothing_heard c.args.asker old.stream _ _ _ _ old.count now.heard e
          (c.in_err-asker.ensures.goes are old.count now.heard)),
    )

pub returns-in_err-hear-clause-heard : goal.returns-in_err-hear-clause-heard
returns-in_err-hear-clause-heard g c =
    let before : ToldLink = g.H.Listen.link c.args.host.now in
    let mid : ToldLink = g.H.Listen.link c.packets.new.host in
    let now : ToldLink = g.H.Listen.link c.hear.new.host in
    let old = c.args.received.now in
    let t = c.in_err-hear.ensures.heard in
    let e = c.in_err-hear.field-0.0 in
    let said : now.said ≡ mid.said = c.hear.ensures.only.rest.2 in (
      t.0,
      t.1,
      subst (λ (h : ToldHearing). AreHeard t.0 h now.heard) c.packets.ensures.only.rest.2 t.2,
      λ are.
          let goes = c.in_ok-asker.ensures.goes are in
          subst (λ (s : ToldSaying). GoesRound t.0 c.args.asker old c.hear.new.received (g.O.Sink.held c.args.out.now)
          (g.O.Sink.held c.packets.new.out) before.said.held s.held now.heard c.from_residual-in_err-hear.result)
          (sym said)
          (on_err (GoesRound t.0 c.args.asker old c.hear.new.received (g.O.Sink.held c.args.out.now)
          (g.O.Sink.held c.packets.new.out) before.said.held mid.said.held now.heard) c.from_residual-in_err-hear.result e
          c.from_residual-in_err-hear.ensures.1
          (round_ends c.args.asker c.in_ok-asker.asker old.stream c.packets.new.received c.hear.new.received _ _ _ _
          now.heard e t.0 old.count c.bytes_have_courses.ensures goes.1 goes.2 are t.1 goes.0 t.3)),
    )

pub returns-in_err-hear-clause-cause : goal.returns-in_err-hear-clause-cause
returns-in_err-hear-clause-cause g c =
    let before : ToldLink = g.H.Listen.link c.args.host.now in
    let mid : ToldLink = g.H.Listen.link c.packets.new.host in
    let now : ToldLink = g.H.Listen.link c.hear.new.host in
    let outs = g.O.Sink.faults c.packets.new.out in
    let e = c.in_err-hear.field-0.0 in
    on_err (λ r. IfErr r (λ x. CauseOf x before now (g.O.Sink.faults c.args.out.now) outs))
    c.from_residual-in_err-hear.result e
    c.from_residual-in_err-hear.ensures.1
    (cause_later e before mid now (g.O.Sink.faults c.args.out.now) outs outs
    (link_of_said before mid c.packets.ensures.only) c.packets.ensures.output_lasting
    (c.in_err-hear.ensures.cause outs))

pub returns-clause-heard : goal.returns-clause-heard
returns-clause-heard g c =
    let before : ToldLink = g.H.Listen.link c.args.host.now in
    let mid : ToldLink = g.H.Listen.link c.packets.new.host in
    let now : ToldLink = g.H.Listen.link c.hear.new.host in
    let old = c.args.received.now in
    let t = c.in_ok-hear.ensures.heard in
    let said : now.said ≡ mid.said = c.hear.ensures.only.rest.2 in (
      t.0,
      t.1,
      subst (λ (h : ToldHearing). AreHeard t.0 h now.heard) c.packets.ensures.only.rest.2 t.2,
      λ are.
          let goes = c.in_ok-asker.ensures.goes are in
          let going = with_more t.0 c.args.asker c.in_ok-asker.asker old.stream c.packets.new.received.stream _ _ _ _
          goes.0 in
          let behind = subst (λ (s : StreamState). IsGoing c.args.asker (with_bytes t.0 old.stream)
          c.in_ok-asker.asker s (g.O.Sink.held c.args.out.now) (g.O.Sink.held c.packets.new.out) before.said.held
          mid.said.held) (sym t.3.0) going in
          let counted : c.hear.new.received.count ≡ old.count + length t.0 = omega (arith, t.3.1, goes.2) in
          let more : old.count < c.hear.new.received.count = omega (arith, t.3.2, goes.2) in (
            subst (λ (s : ToldSaying). IsGoing c.args.asker (with_bytes t.0 old.stream) c.in_ok-asker.asker
                c.hear.new.received.stream (g.O.Sink.held c.args.out.now) (g.O.Sink.held c.packets.new.out)
                before.said.held s.held) (sym said) behind,
            counted,
            more,
          ),
    )
