-- What a reader of a stream keeps true: these packets were read, and this is left. A packet more is read, or bytes
-- come; where no packet is next, those that were read are the packets of the stream.
use Rattle.std.proofs.Common.{◌≡◌, ℕ, zero, suc, ◌+◌, ◌<◌, List, [], ◌∷◌, ◌++◌, length, false, refl, sym, ap, ◌∙◌}
use Rattle.std.proofs.Common.{subst, append_assoc, arith}
use Rattle.std.specs.List.{concat}
use Rattle.std.proofs.lemmas.List.{append-nil, drop-append-le}
use Rattle.std.proofs.Math.Seq.{take-append_seam}
use Rattle.std.proofs.lemmas.List.Elements.{All-take, All-drop}
use Rattle.pv_binary.specs.OneOfThree.{AreBytes}
use Rattle.rl_packet.specs.declared.packets.Packet.{Packet}
use Rattle.rl_stream.specs.declared.nexts.Next.{Next}
use Rattle.rl_stream.specs.declared.nexts.Next.TheVariants.{Whole, BadBytes, BadPacket, Waits}
use Rattle.rl_stream.specs.Nexts.{IsNext, OneNext, Decider, Decides}
use Rattle.rl_stream.specs.Streams.{StreamState, no_stream, with_bytes, read_off}
use Rattle.rl_stream.specs.Courses.{StreamCourse, AreRead, ArePacketsOf, is_packet, behind}
use Rattle.rl_stream.specs.Courses.{next_and_then, packets_within, packets_of, packets_by_pieces}
use Rattle.rl_stream.specs.Laws.{DecidersTellPackets, OneCourse, ReadingGoesOn, EndsStay, AnyCutIsOneCourse}
use Rattle.rl_stream.specs.Lemmas.Longer.{next_stays}
use Rattle.rl_stream.specs.Lemmas.Wholes.{whole_fits, less_left}

-- ---- one packet after another

pub more_read : (ps qs : List Packet) (st mid left : StreamState) → AreRead ps st mid → AreRead qs mid left
    → AreRead (ps ++ qs) st left
more_read [] qs st mid left first then = subst (λ (s : StreamState). AreRead qs s left) first then
more_read (p ∷ ps) qs st mid left (n, is, others) then = (n, is, more_read ps qs (read_off n st) mid left others then)

pub one_more_read : (ps : List Packet) (p : Packet) (n : ℕ) (st mid : StreamState) → AreRead ps st mid
    → IsNext mid.rest mid.place (Whole p n) → AreRead (ps ++ p ∷ []) st (read_off n mid)
one_more_read ps p n st mid read is = more_read ps (p ∷ []) st mid (read_off n mid) read (n, is, refl)

-- ---- more bytes

bytes_behind : (b : List ℕ) (n : ℕ) (p : Packet) (st : StreamState) → IsNext st.rest st.place (Whole p n)
    → with_bytes b (read_off n st) ≡ read_off n (with_bytes b st)
bytes_behind b n p st is =
    let e = drop-append-le n st.rest b (whole_fits st.rest st.place n p is).1 in
    λ i. record { rest = sym e i; place = st.place + n }

pub still_read : (b : List ℕ) (ps : List Packet) (st left : StreamState) → AreRead ps st left
    → AreRead ps (with_bytes b st) (with_bytes b left)
still_read b [] st left is = ap (with_bytes b) is
still_read b (p ∷ ps) st left (n, is, others) = (
  n,
  next_stays st.rest b st.place (Whole p n) refl is,
  subst (λ (s : StreamState). AreRead ps s (with_bytes b left)) (bytes_behind b n p st is)
      (still_read b ps (read_off n st) left others),
)

-- ---- laws

pub reading_goes_on : ReadingGoesOn
reading_goes_on st b c d first then = record {
  packets = more_read c.packets d.packets (with_bytes b st) (with_bytes b c.left) d.left
      (still_read b c.packets st c.left first.packets) then.packets;
  ends = then.ends;
  no_more = then.no_more;
}

pub ends_stay : EndsStay
ends_stay st b c first other = record {
  packets = still_read b c.packets st c.left first.packets;
  ends = next_stays c.left.rest b c.left.place c.ends other first.ends;
  no_more = first.no_more;
}

-- ---- there is one course

module _ (N : Decider) (decides : Decides N) where
  read_by : (m : ℕ) (st : StreamState) (x : Next) → AreBytes st.rest → length st.rest < suc m
      → IsNext st.rest st.place x
      → ((left : StreamState) → AreBytes left.rest → length left.rest < m → ArePacketsOf left (packets_within N m left))
      → ArePacketsOf st (next_and_then x st (packets_within N m))
  read_by m st (Whole p n) are few is others =
      let l = less_left st.rest st.place n (suc m) m p is few refl in
      let c = others (read_off n st) (All-drop (λ b. b < 256) n st.rest are) l in
      record { packets = (n, is, c.packets); ends = c.ends; no_more = c.no_more }
  read_by m st (BadBytes number at) are few is others = record { packets = refl; ends = is; no_more = refl }
  read_by m st BadPacket are few is others = record { packets = refl; ends = is; no_more = refl }
  read_by m st Waits are few is others = record { packets = refl; ends = is; no_more = refl }

  read_as : (most : ℕ) (st : StreamState) → AreBytes st.rest → length st.rest < most
      → ArePacketsOf st (packets_within N most st)
  read_as zero st are few = absurd (omega arith)
  read_as (suc m) st are few =
      read_by m st (N st.rest st.place) are few (decides st.rest st.place are) (read_as m)

pub deciders_tell : DecidersTellPackets
deciders_tell N decides st are = read_as N decides (suc (length st.rest)) st are (omega arith)

-- a packet is next, and then it isn't
no_packet : (st left : StreamState) (p : Packet) (n : ℕ) (x : Next) → OneNext → AreBytes st.rest → left ≡ st
    → IsNext st.rest st.place (Whole p n) → IsNext left.rest left.place x → is_packet x ≡ false → ⊥
no_packet st left p n x one are same is next none =
    let e = one st.rest st.place (Whole p n) x are is
    (subst (λ (s : StreamState). IsNext s.rest s.place x) same next) in
    cc (ap is_packet e, none)

same_ends : (st : StreamState) (l m : StreamState) (x y : Next) → OneNext → AreBytes st.rest → l ≡ st → m ≡ st
    → IsNext l.rest l.place x → IsNext m.rest m.place y → x ≡ y
same_ends st l m x y one are a b is so = one st.rest st.place x y are
    (subst (λ (s : StreamState). IsNext s.rest s.place x) a is)
    (subst (λ (s : StreamState). IsNext s.rest s.place y) b so)

same_packet : (st : StreamState) (p q : Packet) (n m : ℕ) → OneNext → AreBytes st.rest
    → IsNext st.rest st.place (Whole p n) → IsNext st.rest st.place (Whole q m) → (p ≡ q) × (m ≡ n)
same_packet st p q n m one are is so =
    let e = one st.rest st.place (Whole p n) (Whole q m) are is so in
    (cc, cc)

course : List Packet → StreamState → Next → StreamCourse
course ps l x = record { packets = ps; left = l; ends = x }

same_course : OneNext → (ps qs : List Packet) (st l m : StreamState) (x y : Next) → AreBytes st.rest
    → AreRead ps st l → AreRead qs st m → IsNext l.rest l.place x → IsNext m.rest m.place y
    → is_packet x ≡ false → is_packet y ≡ false → course ps l x ≡ course qs m y
unfolding course
same_course one [] [] st l m x y are a b is so u v =
    let e = same_ends st l m x y one are a b is so in
    let f = a ∙ sym b in
    λ i. record { packets = []; left = f i; ends = e i }
same_course one [] (q ∷ qs) st l m x y are a b is so u v = absurd (no_packet st l q b.0 x one are a b.1 is u)
same_course one (p ∷ ps) [] st l m x y are a b is so u v = absurd (no_packet st m p a.0 y one are b a.1 so v)
same_course one (p ∷ ps) (q ∷ qs) st l m x y are a b is so u v =
    let e = same_packet st p q a.0 b.0 one are a.1 b.1 in
    let others = subst (λ n. AreRead qs (read_off n st) m) e.1 b.2 in
    let all = All-drop (λ n. n < 256) a.0 st.rest are in
    let f = same_course one ps qs (read_off a.0 st) l m x y all a.2 others is so u v in
    λ i. behind (e.0 i ∷ []) (f i)

pub one_course_is : OneNext → OneCourse
unfolding course
one_course_is one st c d are a b = same_course one c.packets d.packets st c.left d.left c.ends d.ends are a.packets
    b.packets a.ends b.ends a.no_more b.no_more

-- ---- pieces

left_are_bytes : (ps : List Packet) (st left : StreamState) → AreRead ps st left → AreBytes st.rest → AreBytes left.rest
left_are_bytes [] st left same are = subst (λ (s : StreamState). AreBytes s.rest) (sym same) are
left_are_bytes (p ∷ ps) st left (n, is, others) are =
    left_are_bytes ps (read_off n st) left others (All-drop (λ b. b < 256) n st.rest are)

front_bytes : (xs ys : List ℕ) → AreBytes (xs ++ ys) → AreBytes xs
front_bytes xs ys are = subst AreBytes (take-append_seam xs ys) (All-take (λ b. b < 256) (length xs) (xs ++ ys) are)

pieces_read : (N : Decider) → Decides N → (bs : List (List ℕ)) (st : StreamState) → AreBytes (st.rest ++ concat bs)
    → ArePacketsOf (with_bytes (concat bs) st) (packets_by_pieces N st bs)
pieces_read N decides [] st are =
    let same : with_bytes [] st ≡ st = λ i. record { rest = append-nil st.rest i; place = st.place } in
    subst (λ (s : StreamState). ArePacketsOf s (packets_of N st)) (sym same)
    (deciders_tell N decides st (front_bytes st.rest [] are))
pieces_read N decides (b ∷ bs) st are =
    let c = packets_of N st in
    let first = deciders_tell N decides st (front_bytes st.rest (b ++ concat bs) are) in
    let longer = still_read (b ++ concat bs) c.packets st c.left first.packets in
    let all = left_are_bytes c.packets (with_bytes (b ++ concat bs) st) (with_bytes (b ++ concat bs) c.left)
    longer are in
    let then = pieces_read N decides bs (with_bytes b c.left)
    (subst AreBytes (sym (append_assoc c.left.rest b (concat bs))) all) in
    let same : with_bytes (concat bs) (with_bytes b c.left) ≡ with_bytes (b ++ concat bs) c.left =
    λ i. record { rest = append_assoc c.left.rest b (concat bs) i; place = c.left.place } in
    reading_goes_on st (b ++ concat bs) c (packets_by_pieces N (with_bytes b c.left) bs) first
    (subst (λ (s : StreamState). ArePacketsOf s (packets_by_pieces N (with_bytes b c.left) bs)) same then)

pub any_cut : OneNext → AnyCutIsOneCourse
any_cut one N decides pieces are = one_course_is one (with_bytes (concat pieces) no_stream)
    (packets_by_pieces N no_stream pieces) (packets_of N (with_bytes (concat pieces) no_stream)) are
    (pieces_read N decides pieces no_stream are) (deciders_tell N decides (with_bytes (concat pieces) no_stream) are)
