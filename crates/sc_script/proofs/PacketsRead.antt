-- The packets in a stream: how the course of all that are read goes on behind each, ends or stops.
use Rattle.std.proofs.Common.{◌≡◌, ℕ, suc, ◌<◌, ◌≤◌, List, Option, Some, None, Result, IfOk, IfErr, length, refl, sym}
use Rattle.std.proofs.Common.{ap, ◌∙◌, subst, arith, length-drop}
use Rattle.std.proofs.lemmas.Result.{IfOk-weaker, IfErr-weaker}
use Rattle.rl_packet.specs.declared.packets.Packet.{Packet}
use Rattle.rl_stream.specs.Nexts.{IsNext, Decider, Decides, AllTell}
use Rattle.rl_stream.specs.declared.nexts.Next.{Next}
use Rattle.rl_stream.specs.declared.nexts.Next.TheVariants.{Whole, BadBytes, BadPacket, Waits}
use Rattle.rl_stream.specs.Streams.{StreamState, read_off}
use Rattle.rl_stream.specs.Lemmas.Wholes.{whole_fits, less_left}
use Rattle.sc_script.specs.declared.faults.ScriptFault.{ScriptFault}
use Rattle.sc_script.specs.Runs.{Running, Course, with_packet, with_next, with_no_packet, all_read}
use Rattle.sc_script.specs.Keeping.{RunState, ReadsOn, RunsAs, StopsAs, IsAt, HasRun, IsStopped}
use Rattle.sc_script.proofs.Nexts.{read_first}

-- ---- courses

-- the course as a whole goes on from the state with the packets in the stream
abbrev pub ReadsFrom : Decider → ℕ → StreamState → RunState → Course → Type 0
ReadsFrom N k st s whole =
    (most : ℕ) × (length st.rest < most) × (now : Running) × IsAt now s × (whole ≡ all_read N k most st now)

-- so does a part of a run, over every decider, from where the run is
abbrev pub ReadsAs : RunState → (Decider → Running → Course) → ℕ → StreamState → RunState → Type 0
ReadsAs before part k st s =
    (N : Decider) → Decides N → (r : Running) → IsAt r before → ReadsFrom N k st s (part N r)

not_whole : (k : ℕ) (x : Next) (st : StreamState) (more : ℕ → Running → Course) (r : Running)
    → ((p : Packet) (size : ℕ) → x ≡ Whole p size → ⊥) → with_next k x st more r ≡ with_no_packet k x st r
not_whole k (Whole p size) st more r not = absurd (not p size refl)
not_whole k (BadBytes number place) st more r not = refl
not_whole k BadPacket st more r not = refl
not_whole k Waits st more r not = refl

module _ (k : ℕ) (st : StreamState) (x : Next) (told : AllTell st.rest st.place x) (before s : RunState)
    (part : Decider → Running → Course) (from : ReadsAs before part k st s) where
  next_first : (N : Decider) (d : Decides N) (r : Running) (at : IsAt r before)
      → (m : ℕ) × ((from N d r at).0 ≡ suc m)
      × (part N r ≡ with_next k x st (λ size. all_read N k m (read_off size st)) (from N d r at).2)
  next_first N d r at =
      let w = from N d r at in
      let f = read_first N k w.0 st w.2 x w.1 (told N d) in
      (f.0, f.1, w.4 ∙ f.2)

  -- what is next is no packet; the stream stays as it is
  module _ (not : (p : Packet) (size : ℕ) → x ≡ Whole p size → ⊥) (kept : StreamState) (so : kept ≡ st)
      (y : Result RunState ScriptFault) where
    no_packet : (N : Decider) → Decides N → (r : Running) → IsAt r before
        → (now : Running) × IsAt now s × (part N r ≡ with_no_packet k x kept now)
    no_packet N d r at =
        let w = from N d r at in
        let f = next_first N d r at in
        let e = f.2 ∙ not_whole k x st (λ size. all_read N k f.0 (read_off size st)) w.2 not in
        (w.2, w.3, e ∙ ap (λ b. with_no_packet k x b w.2) (sym so))

    pub no_packet_runs : IfOk y (RunsAs s (λ N. with_no_packet k x kept)) → IfOk y (RunsAs before part)
    no_packet_runs = IfOk-weaker y _ _ (λ t runs N d r at.
        let e = no_packet N d r at in
        subst (λ c. HasRun c t) (sym e.2) (runs N d e.0 e.1))

    pub no_packet_stops : IfErr y (StopsAs s (λ N. with_no_packet k x kept)) → IfErr y (StopsAs before part)
    no_packet_stops = IfErr-weaker y _ _ (λ f stop N d r at.
        let e = no_packet N d r at in
        subst (λ c. IsStopped c f) (sym e.2) (stop N d e.0 e.1))

  -- a packet is next; the stream behind it
  module _ (is : IsNext st.rest st.place x) (p : Packet) (size : ℕ) (whole : x ≡ Whole p size) (behind : StreamState)
      (so : behind ≡ read_off size st) where
    a_packet : (N : Decider) → Decides N → (r : Running) → IsAt r before
        → (m : ℕ) × (length behind.rest < m) × (now : Running) × IsAt now s
        × (part N r ≡ with_packet k p behind (all_read N k m behind) now)
    a_packet N d r at =
        let w = from N d r at in
        let f = next_first N d r at in (
          f.0,
          subst (λ (b : StreamState). length b.rest < f.0) (sym so)
              (less_left st.rest st.place size w.0 f.0 p (subst (IsNext st.rest st.place) whole is) w.1 f.1),
          w.2,
          w.3,
          f.2 ∙ ap (λ y. with_next k y st (λ n. all_read N k f.0 (read_off n st)) w.2) whole
              ∙ ap (λ b. with_packet k p b (all_read N k f.0 b) w.2) (sym so),
        )

    -- the packet is done with, and the stream is kept where more is read
    abbrev pub IsDone : RunState → Option StreamState → Type 0
    IsDone now kept = (N : Decider) → Decides N → (r : Running) → IsAt r s
        → ReadsOn now kept behind (λ more. with_packet k p behind more r)

    pub packet_reads : (now : RunState) (kept : Option StreamState) (left : StreamState) → kept ≡ Some left
        → IsDone now kept → ReadsAs before part k left now
    packet_reads now kept left is_left done = λ N d r at.
        let a = a_packet N d r at in
        let on : ReadsOn now (Some left) behind (λ more. with_packet k p behind more a.2) =
        subst (λ o. ReadsOn now o behind (λ more. with_packet k p behind more a.2)) is_left (done N d a.2 a.3) in (
          a.0,
          subst (λ (b : StreamState). length b.rest < a.0) (sym on.0) a.1,
          on.1,
          on.2,
          a.4 ∙ on.3 (all_read N k a.0 behind) ∙ ap (λ b. all_read N k a.0 b on.1) (sym on.0),
        )

    pub packet_runs : (now : RunState) (kept : Option StreamState) → kept ≡ None → IsDone now kept
        → RunsAs before part now
    packet_runs now kept is_none done = λ N d r at.
        let a = a_packet N d r at in
        let on : ReadsOn now None behind (λ more. with_packet k p behind more a.2) =
        subst (λ o. ReadsOn now o behind (λ more. with_packet k p behind more a.2)) is_none (done N d a.2 a.3) in
        subst (λ c. HasRun c now) (sym a.4) (on (all_read N k a.0 behind))

    pub packet_stops : (f : ScriptFault)
        → ((more : Running → Course) → StopsAs s (λ N. with_packet k p behind more) f) → StopsAs before part f
    packet_stops f stop = λ N d r at.
        let a = a_packet N d r at in
        subst (λ c. IsStopped c f) (sym a.4) (stop (all_read N k a.0 behind) N d a.2 a.3)

-- ---- what is left behind a packet is shorter

pub whole_size : (rest : List ℕ) (place size : ℕ) (x : Next) (p : Packet) → IsNext rest place x → x ≡ Whole p size
    → size ≤ length rest
whole_size rest place size x p is whole = (whole_fits rest place size p (subst (IsNext rest place) whole is)).1

pub whole_is_less : (st behind left : StreamState) (x : Next) (p : Packet) (size : ℕ) → IsNext st.rest st.place x
    → x ≡ Whole p size → behind ≡ read_off size st → left ≡ behind → length left.rest < length st.rest
whole_is_less st behind left x p size is whole so same =
    let fits = whole_fits st.rest st.place size p (subst (IsNext st.rest st.place) whole is) in
    omega (arith, fits.0, fits.1, length-drop size st.rest, ap (λ (s : StreamState). length s.rest) (same ∙ so))
