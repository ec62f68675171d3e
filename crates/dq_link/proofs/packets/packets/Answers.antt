use Rattle.std.proofs.Common.{◌≡◌, ℕ, suc, ◌≤◌, ◌∙◌, length, drop, sym, ap, subst, arith, length-drop}
use Rattle.out_ports.specs.Dialled.{ToldLink}
use Rattle.rl_stream.specs.declared.nexts.Next.TheVariants as next
use Rattle.rl_stream.specs.Nexts.{IsNext}
use Rattle.rl_stream.specs.Streams.{StreamState, read_off}
use Rattle.rl_stream.specs.Lemmas.Wholes.{whole_fits}
use Rattle.dq_link.specs.Going.{IsGoing, GoesOn}
use Rattle.dq_link.specs.declared.received.Received.{Received}
use Rattle.dq_link.proofs.Going.{going_are_bytes}
use Rattle.dq_link.proofs.Rounds.{one_more, packet_ends, bad_next, short}
use Rattle.dq_link.proofs.Staying.{on_err, rest_both, said_both, still_dialled}
use Rattle.dq_link.proofs.packets.packets.Goals as goal

less_behind : (st left : StreamState) (n : ℕ) → 1 ≤ n → n ≤ length st.rest → left ≡ read_off n st
    → suc (length left.rest) ≤ length st.rest
less_behind st left n some fits is =
    let e : length left.rest ≡ length (drop n st.rest) = ap (λ (s : StreamState). length s.rest) is in
    omega (arith, e, length-drop n st.rest)

-- what was looked at is as it was, and then so much of it is read
behind : (size : ℕ) (old kept : Received) (left : StreamState) → left ≡ read_off size kept.stream → kept ≡ old
    → left ≡ read_off size old.stream
behind size old kept left is same = is ∙ ap (λ (r : Received). read_off size r.stream) same

pub returns-in_default-clause-goes : goal.returns-in_default-clause-goes
returns-in_default-clause-goes g c = λ are count h.
    let l = c.loop-next in
    let goes = l.invariant.goes in
    let st = c.args.received.now.stream in
    short c.args.asker l.asker st l.received.stream _ _ _ _ c.bytes_have_courses.ensures
    (going_are_bytes c.args.asker l.asker st l.received.stream _ _ _ _ goes are) l.asker.some goes count h

pub read_off-requires : goal.read_off-requires
read_off-requires g c =
    let st = c.loop-next.received.stream in
    let is : IsNext st.rest st.place (next.Whole c.in-Whole.p c.in-Whole.size) =
    subst (IsNext st.rest st.place) c.in-Whole.is c.in-Ok.ensures.next in
    let fits = whole_fits st.rest st.place c.in-Whole.size c.in-Whole.p is in
    subst (λ (r : Received). c.in-Whole.size ≤ length r.stream.rest) (sym c.first.ensures.same) fits.1

pub returns-in_err-asker-in-Whole-clause-goes : goal.returns-in_err-asker-in-Whole-clause-goes
returns-in_err-asker-in-Whole-clause-goes g c = λ are.
    let l = c.loop-next in
    let goes = l.invariant.goes in
    let old = c.args.received.now in
    let st = l.received.stream in
    let e = c.in_err-asker-in-Whole.field-0.0 in
    let is : IsNext st.rest st.place (next.Whole c.in-Whole.p c.in-Whole.size) =
    subst (IsNext st.rest st.place) c.in-Whole.is c.in-Ok.ensures.next in
    on_err (GoesOn c.args.asker old c.read_off.new.self (g.O.Sink.held c.args.out.now) (g.O.Sink.held c.packet.new.out)
    (g.H.Listen.link c.args.host.now).said.held (g.H.Listen.link c.packet.new.host).said.held)
    c.from_residual.result e c.from_residual.ensures.1
    (packet_ends c.args.asker l.asker old.stream st c.in-Whole.p c.in-Whole.size _ _ _ _ _ _ e
    c.bytes_have_courses.ensures (going_are_bytes c.args.asker l.asker old.stream st _ _ _ _ goes are) l.asker.some goes
    is c.in_err-asker-in-Whole.ensures.takes)

pub loop-next-smaller : goal.loop-next-smaller
loop-next-smaller g c =
    let st = c.loop-next.received.stream in
    let is : IsNext st.rest st.place (next.Whole c.in-Whole.p c.in-Whole.size) =
    subst (IsNext st.rest st.place) c.in-Whole.is c.in-Ok.ensures.next in
    let fits = whole_fits st.rest st.place c.in-Whole.size c.in-Whole.p is in
    less_behind st c.read_off.new.self.stream c.in-Whole.size fits.0 fits.1
    (behind c.in-Whole.size _ _ _ c.read_off.ensures.stream c.first.ensures.same)

pub loop-next-preserved : goal.loop-next-preserved
loop-next-preserved g c =
    let l = c.loop-next in
    let so_far = l.invariant in
    let did = c.packet.ensures in
    let st = l.received.stream in
    let size = c.in-Whole.size in
    let before : ToldLink = g.H.Listen.link c.args.host.now in
    let now : ToldLink = g.H.Listen.link c.packet.new.host in
    let is : IsNext st.rest st.place (next.Whole c.in-Whole.p size) =
    subst (IsNext st.rest st.place) c.in-Whole.is c.in-Ok.ensures.next in
    record {
      goes = subst (λ (s : StreamState). IsGoing c.args.asker c.args.received.now.stream c.in_ok-asker-in-Whole.asker s
          (g.O.Sink.held c.args.out.now) (g.O.Sink.held c.packet.new.out) before.said.held now.said.held)
          (sym (behind size _ _ _ c.read_off.ensures.stream c.first.ensures.same))
          (one_more c.args.asker l.asker c.in_ok-asker-in-Whole.asker c.args.received.now.stream st c.in-Whole.p size
          (g.O.Sink.held c.args.out.now) (g.O.Sink.held l.out) (g.O.Sink.held c.packet.new.out) before.said.held
          (g.H.Listen.link l.host).said.held now.said.held so_far.goes is c.in_ok-asker-in-Whole.ensures.takes);
      count = c.read_off.ensures.count ∙ ap (λ (r : Received). r.count) c.first.ensures.same ∙ so_far.count;
      dialled = still_dialled (g.H.Listen.link l.host) now did.only.rest.0 so_far.dialled;
      only = said_both before (g.H.Listen.link l.host) now so_far.only did.only;
      lasting = omega (arith, so_far.lasting, did.output_lasting);
      unfinished = did.unfinished ∙ so_far.unfinished;
      rest = rest_both _ _ _ so_far.rest did.rest;
    }

pub returns-in-BadBytes-clause-goes : goal.returns-in-BadBytes-clause-goes
returns-in-BadBytes-clause-goes g c = λ are count h.
    let l = c.loop-next in
    bad_next c.args.asker l.asker c.args.received.now.stream l.received.stream c.in-Ok.next _ _ _ _ l.asker.some
    l.invariant.goes c.in-Ok.ensures.next c.in-BadBytes.is count h

pub returns-in-Waits-clause-goes : goal.returns-in-Waits-clause-goes
returns-in-Waits-clause-goes g c = λ are.
    let l = c.loop-next in
    let st = l.received.stream in
    let same = c.first.ensures.same in
    let is : IsNext st.rest st.place next.Waits = subst (IsNext st.rest st.place) c.in-Waits.is c.in-Ok.ensures.next in (
      subst (λ (r : Received). IsGoing c.args.asker c.args.received.now.stream l.asker r.stream
          (g.O.Sink.held c.args.out.now) (g.O.Sink.held l.out) (g.H.Listen.link c.args.host.now).said.held
          (g.H.Listen.link l.host).said.held) (sym same) l.invariant.goes,
      subst (λ (r : Received). IsNext r.stream.rest r.stream.place next.Waits) (sym same) is,
      ap (λ (r : Received). r.count) same ∙ l.invariant.count,
    )
