use Rattle.std.proofs.Common.{◌≡◌, ℕ, suc, ◌≤◌, length, drop, refl, sym, ap, ◌∙◌, subst, arith, length-drop}
use Rattle.rl_stream.specs.declared.nexts.Next.TheVariants as next
use Rattle.rl_stream.specs.Nexts.{IsNext}
use Rattle.rl_stream.specs.Streams.{StreamState, read_off}
use Rattle.rl_stream.specs.Lemmas.Wholes.{whole_fits}
use Rattle.hub_machine.specs.declared.faults.Fault.TheVariants.{BadBytes, BadPacket}
use Rattle.srv_turns.specs.Keeping.{IsReading, IsWaiting, ReadsOn}
use Rattle.srv_turns.specs.declared.receiving.Received.{Received}
use Rattle.srv_turns.proofs.Ending.{refusal_inside}
use Rattle.srv_turns.proofs.Reading.{forgot, bad_read}
use Rattle.srv_turns.proofs.reader.packets.Goals as goal

less_behind : (st left : StreamState) (n : ℕ) → 1 ≤ n → n ≤ length st.rest → left ≡ read_off n st
    → suc (length left.rest) ≤ length st.rest
less_behind st left n some fits is =
    let e : length left.rest ≡ length (drop n st.rest) = ap (λ (s : StreamState). length s.rest) is in
    omega (arith, e, length-drop n st.rest)

-- what was looked at is as it was, and then so much of it is read
behind : (size : ℕ) (old kept : Received) (left : StreamState) → left ≡ read_off size kept.stream → kept ≡ old
    → left ≡ read_off size old.stream
behind size old kept left is same = is ∙ ap (λ (r : Received). read_off size r.stream) same

pub returns-in_default-clause-reads : goal.returns-in_default-clause-reads
returns-in_default-clause-reads g c = λ b before reading.
    forgot c.args.connection b c.loop-next.received.stream before _ (c.loop-next.invariant.reads b before reading)
    c.bytes_have_courses.ensures _

pub read_off-requires : goal.read_off-requires
read_off-requires g c =
    let st = c.loop-next.received.stream in
    let is : IsNext st.rest st.place (next.Whole c.in-Whole.it c.in-Whole.size) =
    subst (IsNext st.rest st.place) c.in-Whole.is c.in-Ok.ensures.next in
    let fits = whole_fits st.rest st.place c.in-Whole.size c.in-Whole.it is in
    subst (λ (r : Received). c.in-Whole.size ≤ length r.stream.rest) (sym c.first.ensures.same) fits.1

pub returns-in-Some-clause-reads : goal.returns-in-Some-clause-reads
returns-in-Some-clause-reads g c = λ b before reading.
    let st = c.loop-next.received.stream in
    let is : IsNext st.rest st.place (next.Whole c.in-Whole.it c.in-Whole.size) =
    subst (IsNext st.rest st.place) c.in-Whole.is c.in-Ok.ensures.next in
    c.in-Some.ensures.reads b st c.in-Whole.size before (c.loop-next.invariant.reads b before reading) is

pub loop-next-smaller : goal.loop-next-smaller
loop-next-smaller g c =
    let st = c.loop-next.received.stream in
    let is : IsNext st.rest st.place (next.Whole c.in-Whole.it c.in-Whole.size) =
    subst (IsNext st.rest st.place) c.in-Whole.is c.in-Ok.ensures.next in
    let fits = whole_fits st.rest st.place c.in-Whole.size c.in-Whole.it is in
    less_behind st c.read_off.new.self.stream c.in-Whole.size fits.0 fits.1
    (behind c.in-Whole.size _ _ _ c.read_off.ensures.stream c.first.ensures.same)

pub loop-next-preserved : goal.loop-next-preserved
loop-next-preserved g c = record {
  reads = λ b before reading.
      let k = c.args.connection in
      let st = c.loop-next.received.stream in
      let size = c.in-Whole.size in
      let is : IsNext st.rest st.place (next.Whole c.in-Whole.it size) =
      subst (IsNext st.rest st.place) c.in-Whole.is c.in-Ok.ensures.next in
      let on = c.packet.ensures.reads b st size before (c.loop-next.invariant.reads b before reading) is in
      let reads : IsReading k b (read_off size st) before (g.T.Turns.pairs c.packet.new.turns) =
      subst (ReadsOn k b (read_off size st) before (g.T.Turns.pairs c.packet.new.turns)
      (g.T.Turns.spent c.packet.new.turns)) c.in_default-packet.is on in
      subst (λ (s : StreamState). IsReading k b s before (g.T.Turns.pairs c.packet.new.turns))
      (sym (behind size _ _ _ c.read_off.ensures.stream c.first.ensures.same)) reads;
  taken = c.read_off.ensures.taken ∙ ap (λ (r : Received). r.taken) c.first.ensures.same ∙ c.loop-next.invariant.taken;
}

pub returns-in-BadBytes-clause-reads : goal.returns-in-BadBytes-clause-reads
returns-in-BadBytes-clause-reads g c = λ b before reading.
    let st = c.loop-next.received.stream in
    let n = c.in-BadBytes.number in
    let at = c.in-BadBytes.place in
    let is : IsNext st.rest st.place (next.BadBytes n at) =
    subst (IsNext st.rest st.place) c.in-BadBytes.is c.in-Ok.ensures.next in
    bad_read c.args.connection b st before _ (c.loop-next.invariant.reads b before reading) (next.BadBytes n at)
    (BadBytes n at) _ _ _ refl is refl c.refuse.ensures

pub returns-in-BadPacket-clause-reads : goal.returns-in-BadPacket-clause-reads
returns-in-BadPacket-clause-reads g c = λ b before reading.
    let st = c.loop-next.received.stream in
    let is : IsNext st.rest st.place next.BadPacket =
    subst (IsNext st.rest st.place) c.in-BadPacket.is c.in-Ok.ensures.next in
    bad_read c.args.connection b st before _ (c.loop-next.invariant.reads b before reading) next.BadPacket
    BadPacket _ _ _ refl is refl c.refuse-in-BadPacket.ensures

pub returns-in-Waits-clause-waits : goal.returns-in-Waits-clause-waits
returns-in-Waits-clause-waits g c =
    let st = c.loop-next.received.stream in
    let is : IsNext st.rest st.place next.Waits = subst (IsNext st.rest st.place) c.in-Waits.is c.in-Ok.ensures.next in
    subst (λ (r : Received). IsWaiting r.stream) (sym c.first.ensures.same) is

pub returns-in-Waits-clause-reads : goal.returns-in-Waits-clause-reads
returns-in-Waits-clause-reads g c = λ b before reading.
    subst (λ (r : Received). IsReading c.args.connection b r.stream before (g.T.Turns.pairs c.loop-next.turns))
    (sym c.first.ensures.same) (c.loop-next.invariant.reads b before reading)

pub returns-in-BadBytes-clause-inside : goal.returns-in-BadBytes-clause-inside
returns-in-BadBytes-clause-inside g c = refusal_inside _ _ _ _ _ c.refuse.ensures

pub returns-in-BadPacket-clause-inside : goal.returns-in-BadPacket-clause-inside
returns-in-BadPacket-clause-inside g c = refusal_inside _ _ _ _ _ c.refuse-in-BadPacket.ensures
