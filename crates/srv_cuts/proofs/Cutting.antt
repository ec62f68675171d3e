-- The packets of a stream that is cut.
use Rattle.std.proofs.Common.{ℕ, ◌<◌, List, [], ◌∷◌, ◌++◌, length, sym, ap, subst}
use Rattle.std.proofs.lemmas.List.Elements.{All-take, All-drop}
use Rattle.std.proofs.Math.Seq.{take-append_seam}
use Rattle.pv_binary.specs.OneOfThree.{AreBytes}
use Rattle.rl_packet.specs.declared.packets.Packet.{Packet}
use Rattle.rl_stream.specs.Nexts.{HasDecider}
use Rattle.rl_stream.specs.Streams.{StreamState, with_bytes, read_off}
use Rattle.rl_stream.specs.Courses.{StreamCourse, AreRead, ArePacketsOf, behind, packets_of}
use Rattle.rl_stream.specs.Laws.{DecidersTellPackets, OneCourse}
use Rattle.rl_stream.specs.Lemmas.Readers.{still_read, reading_goes_on, ends_stay}
use Rattle.srv_cuts.specs.Fronts.{with_more}
use Rattle.srv_cuts.specs.Laws.{CutsAreFronts}

left_are_bytes : (ps : List Packet) (st left : StreamState) → AreRead ps st left → AreBytes st.rest → AreBytes left.rest
left_are_bytes [] st left same are = subst (λ (s : StreamState). AreBytes s.rest) (sym same) are
left_are_bytes (p ∷ ps) st left (n, is, others) are =
    left_are_bytes ps (read_off n st) left others (All-drop (λ b. b < 256) n st.rest are)

pub front_bytes : (xs ys : List ℕ) → AreBytes (xs ++ ys) → AreBytes xs
front_bytes xs ys are =
    subst AreBytes (take-append_seam xs ys) (All-take (λ b. b < 256) (length xs) (xs ++ ys) are)

module _ (has : HasDecider) (told : DecidersTellPackets) (one : OneCourse) where
  -- the course of the whole goes on behind the packets of the cut
  goes_on : (st : StreamState) (more : List ℕ) (c : StreamCourse) → AreBytes (st.rest ++ more) → ArePacketsOf st c
      → (e : StreamCourse) × ArePacketsOf (with_bytes more st) (behind c.packets e)
  goes_on st more c are is =
      let left = with_bytes more c.left in
      let longer = still_read more c.packets st c.left is.packets in
      let all = left_are_bytes c.packets (with_bytes more st) left longer are in
      let e = packets_of has.0 left in
      (e, reading_goes_on st more c e is (told has.0 has.1 left all))

  pub cut_is_front : CutsAreFronts
  cut_is_front st more c d are is whole =
      let e = goes_on st more c are is in
      let same = one (with_bytes more st) d (behind c.packets e.0) are whole e.1 in
      record {
        packets = (e.0.packets, ap (λ (x : StreamCourse). x.packets) same);
        decided = λ stays. one (with_bytes more st) d (with_more more c) are whole (ends_stay st more c is stays);
      }
