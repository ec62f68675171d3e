use Rattle.std.proofs.Common.{◌≡◌, [], ◌++◌, length, refl, sym, ◌∙◌, subst, arith, IfNone}
use Rattle.rl_stream.specs.Streams.{StreamState}
use Rattle.srv_turns.specs.Reading.{AreTaken}
use Rattle.srv_turns.specs.Keeping.{IsReading, ReadsOn}
use Rattle.srv_turns.proofs.Ending.{not_at_end}
use Rattle.srv_turns.proofs.Taking.{none_taken, both_taken, ended_left}
use Rattle.srv_turns.proofs.Reading.{begins, forgot}
use Rattle.srv_turns.proofs.reader.serve_reader.Goals as goal

pub returns-in_default-clause-read : goal.returns-in_default-clause-read
returns-in_default-clause-read g c = (
  [],
  none_taken _ _ _ refl,
  forgot c.args.connection [] _ _ _ (begins c.args.connection (g.T.Turns.pairs c.args.turns.now))
      c.bytes_have_courses.ensures _,
)

pub loop-init : goal.loop-init
loop-init g c =
    let before = g.T.Turns.pairs c.args.turns.now in record {
      can = tt;
      finite = tt;
      reading = (
        [],
        none_taken _ _ _ refl,
        sym c.new-received.ensures.taken,
        subst (λ (s : StreamState). IsReading c.args.connection [] s before before) (sym c.new-received.ensures.stream)
            (begins c.args.connection before),
      );
      lasting = omega arith;
    }

pub returns-in-Some-packets-clause-read : goal.returns-in-Some-packets-clause-read
returns-in-Some-packets-clause-read g c =
    let d = c.loop.invariant.reading in (d.0, d.1, c.in-Some-packets.ensures.reads d.0 _ d.3)

pub returns-in-Some-packets-clause-at_end : goal.returns-in-Some-packets-clause-at_end
returns-in-Some-packets-clause-at_end g c = λ at.
    absurd (not_at_end c.in-Some-packets.end c.in-Some-packets.ensures.inside at)

pub returns-in-Some-take-clause-read : goal.returns-in-Some-take-clause-read
returns-in-Some-take-clause-read g c =
    let d = c.loop.invariant.reading in
    let k = c.args.connection in
    let before = g.T.Turns.pairs c.args.turns.now in
    let mid = g.T.Turns.pairs c.packets.new.turns in
    let st = c.packets.new.received.stream in
    let reading : IsReading k d.0 st before mid =
    subst (ReadsOn k d.0 st before mid (g.T.Turns.spent c.packets.new.turns)) c.in_default-packets.is
    (c.packets.ensures.reads d.0 before d.3) in
    let told : AreTaken d.0 (g.R.Source.left c.args.link.now) (g.R.Source.left c.settle.new.link)
    (g.R.Source.given c.args.link.now) (g.R.Source.given c.settle.new.link) =
    subst (λ n. AreTaken d.0 (g.R.Source.left c.args.link.now) (g.R.Source.left c.settle.new.link)
    (g.R.Source.given c.args.link.now) n) (sym c.settle.ensures.counted)
    (subst (λ o. AreTaken d.0 (g.R.Source.left c.args.link.now) o (g.R.Source.given c.args.link.now)
    (g.R.Source.given c.loop.link)) (sym c.settle.ensures.content) d.1) in
    let t = c.in-Some-take.ensures.reads d.0 before reading (d.2 ∙ sym c.packets.ensures.taken) in
    (d.0 ++ t.0, both_taken _ _ _ _ _ _ d.0 t.0 told t.1, t.3)

pub returns-in-Some-take-clause-at_end : goal.returns-in-Some-take-clause-at_end
returns-in-Some-take-clause-at_end g c = λ at.
    let d = c.loop.invariant.reading in
    let told : AreTaken d.0 (g.R.Source.left c.args.link.now) (g.R.Source.left c.settle.new.link)
    (g.R.Source.given c.args.link.now) (g.R.Source.given c.settle.new.link) =
    subst (λ n. AreTaken d.0 (g.R.Source.left c.args.link.now) (g.R.Source.left c.settle.new.link)
    (g.R.Source.given c.args.link.now) n) (sym c.settle.ensures.counted)
    (subst (λ o. AreTaken d.0 (g.R.Source.left c.args.link.now) o (g.R.Source.given c.args.link.now)
    (g.R.Source.given c.loop.link)) (sym c.settle.ensures.content) d.1) in
    let e = c.in-Some-take.ensures.at_end at in
    (e.0, ended_left _ _ _ d.0 told.told e.1)

pub loop-preserved : goal.loop-preserved
loop-preserved g c =
    let d = c.loop.invariant.reading in
    let k = c.args.connection in
    let before = g.T.Turns.pairs c.args.turns.now in
    let mid = g.T.Turns.pairs c.packets.new.turns in
    let now = g.T.Turns.pairs c.take.new.turns in
    let st = c.packets.new.received.stream in
    let reading : IsReading k d.0 st before mid =
    subst (ReadsOn k d.0 st before mid (g.T.Turns.spent c.packets.new.turns)) c.in_default-packets.is
    (c.packets.ensures.reads d.0 before d.3) in
    let told : AreTaken d.0 (g.R.Source.left c.args.link.now) (g.R.Source.left c.settle.new.link)
    (g.R.Source.given c.args.link.now) (g.R.Source.given c.settle.new.link) =
    subst (λ n. AreTaken d.0 (g.R.Source.left c.args.link.now) (g.R.Source.left c.settle.new.link)
    (g.R.Source.given c.args.link.now) n) (sym c.settle.ensures.counted)
    (subst (λ o. AreTaken d.0 (g.R.Source.left c.args.link.now) o (g.R.Source.given c.args.link.now)
    (g.R.Source.given c.loop.link)) (sym c.settle.ensures.content) d.1) in
    let t = c.take.ensures.reads d.0 before reading (d.2 ∙ sym c.packets.ensures.taken) in
    record {
      can = tt;
      finite = tt;
      reading = (
        d.0 ++ t.0,
        both_taken _ _ _ _ _ _ d.0 t.0 told t.1,
        subst (λ o. IfNone o (length (d.0 ++ t.0) ≡ c.take.new.received.taken)) c.in_default-take.is t.2,
        subst (ReadsOn k (d.0 ++ t.0) c.take.new.received.stream before now (g.T.Turns.spent c.take.new.turns))
            c.in_default-take.is t.3,
      );
      lasting = omega (arith, c.loop.invariant.lasting, c.settle.ensures.count, c.take.ensures.lasting);
    }
