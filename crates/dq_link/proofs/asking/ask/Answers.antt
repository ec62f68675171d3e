use Rattle.std.proofs.Common.{◌≡◌, ◌<◌, ◌∙◌, ◌++◌, [], length, subst, arith, length-append}
use Rattle.std.proofs.lemmas.List.Elements.{All-append}
use Rattle.out_ports.specs.Dialled.{ToldHearing, ToldLink}
use Rattle.rl_stream.specs.Streams.{no_stream, with_bytes}
use Rattle.dq_link.specs.Asked.{AreHeard}
use Rattle.dq_link.proofs.Going.{goes_on, with_more, going_are_bytes}
use Rattle.dq_link.proofs.Hearing.{same_heard, both_heard}
use Rattle.dq_link.proofs.Rounds.{all_gone, unsaid}
use Rattle.dq_link.proofs.Staying.{link_both, rest_both, still_dialled}
use Rattle.dq_link.proofs.asking.ask.Goals as goal

pub returns-in-Err-clause-asked : goal.returns-in-Err-clause-asked
returns-in-Err-clause-asked g c =
    let before : ToldLink = g.H.Listen.link c.args.host.now in
    let now : ToldLink = g.H.Listen.link c.say.new.host in
    let e = c.in-Err.end in
    let said = c.in-Err.ensures.said in (
      [],
      same_heard before.heard now.heard c.say.ensures.only.rest.2,
      unsaid c.args.opening c.args.asker.client c.args.asker.left _ _ _ now.heard e _ _ c.bytes_have_courses.ensures
          said.0 said.1,
    )

pub loop-next-smaller : goal.loop-next-smaller
loop-next-smaller g c =
    let l = c.loop-next in
    let d = l.invariant.going in
    let are = going_are_bytes c.args.asker l.asker (with_bytes d.0 no_stream) l.received.stream _ _ _ _ d.4 d.1 in
    let goes = c.in-Ok.ensures.heard.3 are in
    omega (arith, goes.2, c.round.new.received.few)

pub loop-next-preserved : goal.loop-next-preserved
loop-next-preserved g c =
    let l = c.loop-next in
    let so_far = l.invariant in
    let did = c.round.ensures in
    let d = so_far.going in
    let t = c.in-Ok.ensures.heard in
    let b = d.0 in
    let m = t.0 in
    let a = c.args.asker in
    let before : ToldLink = g.H.Listen.link c.say.new.host in
    let mid : ToldLink = g.H.Listen.link l.host in
    let now : ToldLink = g.H.Listen.link c.round.new.host in
    let are = going_are_bytes a l.asker (with_bytes b no_stream) l.received.stream _ _ _ _ d.4 d.1 in
    let goes = t.3 are in
    let counted : length (b ++ m) ≡ c.round.new.received.count = omega (arith, length-append b m, d.3, goes.1) in
    record {
      going = (
        b ++ m,
        All-append (λ x. x < 256) b m d.1 t.1,
        both_heard before.heard mid.heard now.heard b m d.2 t.2,
        counted,
        goes_on a l.asker c.in-Ok.next (with_bytes (b ++ m) no_stream) (with_bytes m l.received.stream)
            c.round.new.received.stream _ _ _ _ _ _
            (with_more m a l.asker (with_bytes b no_stream) l.received.stream _ _ _ _ d.4) goes.0,
      );
      dialled = still_dialled mid now did.same.address so_far.dialled;
      same = link_both before mid now so_far.same did.same;
      lasting = omega (arith, so_far.lasting, did.output_lasting);
      unfinished = did.unfinished ∙ so_far.unfinished;
      rest = rest_both _ _ _ so_far.rest did.rest;
    }

pub returns-in-Err-round-clause-asked : goal.returns-in-Err-round-clause-asked
returns-in-Err-round-clause-asked g c =
    let l = c.loop-next in
    let d = l.invariant.going in
    let t = c.in-Err-round.ensures.heard in
    let b = d.0 in
    let m = t.0 in
    let a = c.args.asker in
    let e = c.in-Err-round.end in
    let old : ToldLink = g.H.Listen.link c.args.host.now in
    let before : ToldLink = g.H.Listen.link c.say.new.host in
    let mid : ToldLink = g.H.Listen.link l.host in
    let now : ToldLink = g.H.Listen.link c.round.new.host in
    let are = going_are_bytes a l.asker (with_bytes b no_stream) l.received.stream _ _ _ _ d.4 d.1 in
    let heard = both_heard before.heard mid.heard now.heard b m d.2 t.2 in (
      b ++ m,
      subst (λ (h : ToldHearing). AreHeard (b ++ m) h now.heard) c.say.ensures.only.rest.2 heard,
      all_gone c.args.opening a b m l.asker l.received.stream _ _ _ _ _ _ _ l.received.count now.heard e d.3
          c.in_default.ensures.said d.4 (t.3 are),
    )
