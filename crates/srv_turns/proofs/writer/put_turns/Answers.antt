use Rattle.std.proofs.Common.{◌++◌, ◌∙◌, subst, sym, arith}
use Rattle.std.proofs.lemmas.Result.{IfOk-at_ok}
use Rattle.out_ports.specs.Ports.{Appends}
use Rattle.srv_turns.specs.Gathering.{IsPaused}
use Rattle.srv_turns.specs.declared.writer.Pause.TheVariants.{Over}
use Rattle.srv_turns.proofs.Writing.{puts_on, put_over, put_failed, idle_on, idle_pairs, still_paused}
use Rattle.srv_turns.proofs.writer.put_turns.Goals as goal

pub returns-in-Err-clause-written : goal.returns-in-Err-clause-written
returns-in-Err-clause-written g c =
    let d = c.loop.invariant.done in
    let m = c.make_turns-pause.ensures in
    let looked = c.put_all.ensures.turns in
    let paused = subst (λ bs. IsPaused m.0 bs (g.T.Turns.spent c.make_turns-pause.new.turns) c.make_turns-pause.result)
    (sym c.deref.ensures.value) m.2 in (
      d.0 ++ m.0,
      put_failed c.args.connection d.0 m.0 _ _ _ d.1 d.2 (looked.0 ∙ m.1) c.deref.result.now _ _ _ _ d.3
          c.make_turns-pause.result paused c.in-Err.ensures.front _ _ _ c.close.ensures,
    )

pub loop-preserved-in-Full : goal.loop-preserved-in-Full
loop-preserved-in-Full g c =
    let d = c.loop.invariant.done in
    let m = c.make_turns-pause.ensures in
    let looked = c.put_all.ensures.turns in
    let bytes = c.deref.result.now in
    let m2 = subst (λ bs. IsPaused m.0 bs (g.T.Turns.spent c.make_turns-pause.new.turns) c.make_turns-pause.result)
    (sym c.deref.ensures.value) m.2 in
    let put = IfOk-at_ok (λ _. Appends (g.W.Sink.held c.loop.link) (g.W.Sink.held c.put_all.new.link) bytes)
    c.in_default.is c.put_all.ensures.written in
    let paused = subst (IsPaused m.0 bytes (g.T.Turns.spent c.make_turns-pause.new.turns)) c.in-Full.is m2 in
    let on = puts_on c.args.connection d.0 m.0 _ _ _ d.1 d.2 (looked.0 ∙ m.1) bytes
    (g.T.Turns.spent c.make_turns-pause.new.turns) _ _ _ d.3 put paused in
    record {
      can = tt;
      finite = tt;
      done = (d.0 ++ m.0, on.0, on.1, on.2);
      lasting = omega (arith, c.loop.invariant.lasting, c.put_all.ensures.lasting);
      unfinished = c.put_all.ensures.unfinished ∙ c.loop.invariant.unfinished;
    }

pub rest-requires : goal.rest-requires
rest-requires g c =
    let m = c.make_turns-pause.ensures in
    let looked = c.put_all.ensures.turns in
    let paused = subst (IsPaused m.0 _ (g.T.Turns.spent c.make_turns-pause.new.turns)) c.in-Idle.is m.2 in
    record { idle = idle_pairs c.args.connection m.0 _ _ (looked.0 ∙ m.1) paused.0 }

pub loop-preserved : goal.loop-preserved
loop-preserved g c =
    let d = c.loop.invariant.done in
    let m = c.make_turns-pause.ensures in
    let looked = c.put_all.ensures.turns in
    let bytes = c.deref.result.now in
    let m2 = subst (λ bs. IsPaused m.0 bs (g.T.Turns.spent c.make_turns-pause.new.turns) c.make_turns-pause.result)
    (sym c.deref.ensures.value) m.2 in
    let put = IfOk-at_ok (λ _. Appends (g.W.Sink.held c.loop.link) (g.W.Sink.held c.put_all.new.link) bytes)
    c.in_default.is c.put_all.ensures.written in
    let paused = subst (IsPaused m.0 bytes (g.T.Turns.spent c.make_turns-pause.new.turns)) c.in-Idle.is m2 in
    let on = puts_on c.args.connection d.0 m.0 _ _ _ d.1 d.2 (looked.0 ∙ m.1) bytes
    (g.T.Turns.spent c.make_turns-pause.new.turns) _ _ _ d.3 put
    (idle_on m.0 bytes (g.T.Turns.spent c.make_turns-pause.new.turns) paused) in
    record {
      can = tt;
      finite = tt;
      done = (d.0 ++ m.0, on.0, c.rest.ensures.same ∙ on.1, on.2);
      lasting = omega (arith, c.loop.invariant.lasting, c.put_all.ensures.lasting);
      unfinished = c.put_all.ensures.unfinished ∙ c.loop.invariant.unfinished;
    }

pub returns-in-Over-clause-written : goal.returns-in-Over-clause-written
returns-in-Over-clause-written g c =
    let d = c.loop.invariant.done in
    let m = c.make_turns-pause.ensures in
    let looked = c.put_all.ensures.turns in
    let bytes = c.deref.result.now in
    let m2 = subst (λ bs. IsPaused m.0 bs (g.T.Turns.spent c.make_turns-pause.new.turns) c.make_turns-pause.result)
    (sym c.deref.ensures.value) m.2 in
    let put = IfOk-at_ok (λ _. Appends (g.W.Sink.held c.loop.link) (g.W.Sink.held c.put_all.new.link) bytes)
    c.in_default.is c.put_all.ensures.written in
    let paused = still_paused m.0 bytes (g.T.Turns.spent c.make_turns-pause.new.turns)
    (g.T.Turns.spent c.put_all.new.turns) (Over c.in-Over.end) looked.1
    (subst (IsPaused m.0 bytes (g.T.Turns.spent c.make_turns-pause.new.turns)) c.in-Over.is m2) in (
      d.0 ++ m.0,
      put_over c.args.connection d.0 m.0 _ _ _ d.1 d.2 (looked.0 ∙ m.1) bytes (g.T.Turns.spent c.put_all.new.turns)
          _ _ _ d.3 put c.in-Over.end paused,
    )
