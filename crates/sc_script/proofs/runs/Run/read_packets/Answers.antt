use Rattle.std.proofs.Common.{◌≡◌, ℕ, suc, ◌≤◌, length, refl, sym, ap, ◌∙◌, arith, subst, IfSome}
use Rattle.rl_stream.specs.Streams.{StreamState, read_off}
use Rattle.sc_script.specs.Runs.{packets_read}
use Rattle.sc_schema.specs.Lemmas.FaultsPassed.{err_so}
use Rattle.sc_script.proofs.PacketsRead.{whole_size, whole_is_less, no_packet_runs, no_packet_stops, packet_reads}
use Rattle.sc_script.proofs.PacketsRead.{packet_runs, packet_stops}
use Rattle.sc_script.proofs.runs.Run.read_packets.Goals as goal

-- what was looked at is as it was, and then so much of it is read
behind : (size : ℕ) (st kept now : StreamState) → now ≡ read_off size kept → kept ≡ st → now ≡ read_off size st
behind size st kept now is same = is ∙ ap (read_off size) same

pub loop-run-init : goal.loop-run-init
loop-run-init g c = λ N d r at. (suc (length c.args.stream.rest), omega arith, r, at, refl)

pub returns-in_default-clause-run : goal.returns-in_default-clause-run
returns-in_default-clause-run g c =
    no_packet_runs c.args.connection c.loop-run.stream c.in_ok-next.next c.in_ok-next.ensures.told c.args.self
    c.loop-run.run (λ N. packets_read N c.args.connection c.args.stream) c.loop-run.invariant c.in_default.not-Whole
    c.first.new.self c.first.ensures.same c.stop_reading.result c.stop_reading.ensures.run

pub returns-in_default-clause-stop : goal.returns-in_default-clause-stop
returns-in_default-clause-stop g c =
    no_packet_stops c.args.connection c.loop-run.stream c.in_ok-next.next c.in_ok-next.ensures.told c.args.self
    c.loop-run.run (λ N. packets_read N c.args.connection c.args.stream) c.loop-run.invariant c.in_default.not-Whole
    c.first.new.self c.first.ensures.same c.stop_reading.result c.stop_reading.ensures.stop

pub read_off-requires : goal.read_off-requires
read_off-requires g c =
    let st = c.loop-run.stream in
    subst (λ (s : StreamState). c.in-Whole.size ≤ length s.rest) (sym c.first.ensures.same)
    (whole_size st.rest st.place c.in-Whole.size c.in_ok-next.next c.in-Whole.packet c.in_ok-next.ensures.next
    c.in-Whole.is)

pub returns-in_err-now-clause-stop : goal.returns-in_err-now-clause-stop
returns-in_err-now-clause-stop g c =
    err_so _ _ _ c.from_residual-in_err-now.ensures.1 (packet_stops c.args.connection c.loop-run.stream
    c.in_ok-next.next c.in_ok-next.ensures.told c.args.self c.loop-run.run
    (λ N. packets_read N c.args.connection c.args.stream) c.loop-run.invariant c.in_ok-next.ensures.next
    c.in-Whole.packet c.in-Whole.size c.in-Whole.is c.read_off.new.self
    (behind c.in-Whole.size _ _ _ c.read_off.ensures c.first.ensures.same) _ c.in_err-now.ensures.stop)

pub returns-in_default-left-clause-run : goal.returns-in_default-left-clause-run
returns-in_default-left-clause-run g c =
    packet_runs c.args.connection c.loop-run.stream c.in_ok-next.next c.in_ok-next.ensures.told c.args.self
    c.loop-run.run (λ N. packets_read N c.args.connection c.args.stream) c.loop-run.invariant c.in_ok-next.ensures.next
    c.in-Whole.packet c.in-Whole.size c.in-Whole.is c.read_off.new.self
    (behind c.in-Whole.size _ _ _ c.read_off.ensures c.first.ensures.same) c.in_ok-now.now c.in_ok-now.left
    c.in_default-left.is c.in_ok-now.ensures.run

pub loop-run-preserved : goal.loop-run-preserved
loop-run-preserved g c =
    packet_reads c.args.connection c.loop-run.stream c.in_ok-next.next c.in_ok-next.ensures.told c.args.self
    c.loop-run.run (λ N. packets_read N c.args.connection c.args.stream) c.loop-run.invariant c.in_ok-next.ensures.next
    c.in-Whole.packet c.in-Whole.size c.in-Whole.is c.read_off.new.self
    (behind c.in-Whole.size _ _ _ c.read_off.ensures c.first.ensures.same) c.in_ok-now.now c.in_ok-now.left
    c.in-Some.left c.in-Some.is c.in_ok-now.ensures.run

pub loop-run-smaller : goal.loop-run-smaller
loop-run-smaller g c =
    let now = c.read_off.new.self in
    let same = subst (λ o. IfSome o (λ (left : StreamState). left ≡ now)) c.in-Some.is c.in_ok-now.ensures.left in
    whole_is_less c.loop-run.stream now c.in-Some.left c.in_ok-next.next c.in-Whole.packet c.in-Whole.size
    c.in_ok-next.ensures.next c.in-Whole.is (behind c.in-Whole.size _ _ _ c.read_off.ensures c.first.ensures.same) same
