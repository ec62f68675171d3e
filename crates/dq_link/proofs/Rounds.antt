-- A query goes on over pieces, and ends.
use Rattle.std.proofs.Common.{◌≡◌, ℕ, ◌+◌, ◌<◌, List, [], ◌∷◌, ◌++◌, length, Option}
use Rattle.std.proofs.Common.{Ok, Err, refl, sym, subst, arith, length-append, inl, inr, ◌⊎◌}
use Rattle.std.proofs.lemmas.List.{append-nil}
use Rattle.std.proofs.lemmas.List.Elements.{All-append, All-nil}
use Rattle.out_ports.specs.Ports.{Appends, AppendsFront}
use Rattle.out_ports.specs.Dialled.{ToldHearing}
use Rattle.pv_binary.specs.OneOfThree.{AreBytes}
use Rattle.pv_binary.specs.Written.{written}
use Rattle.rl_packet.specs.Packets.{turn_value}
use Rattle.rl_packet.specs.declared.packets.Packet.{Packet}
use Rattle.rl_packet.specs.declared.packets.Turn.{Turn as TurnRecord}
use Rattle.rl_stream.specs.declared.nexts.Next.{Next}
use Rattle.rl_stream.specs.declared.nexts.Next.TheVariants as next
use Rattle.rl_stream.specs.Nexts.{IsNext}
use Rattle.rl_stream.specs.Streams.{StreamState, no_stream, with_bytes, read_off}
use Rattle.dq_core.specs.States.{ClientState}
use Rattle.dq_link.specs.Asked.{spelled, HasAsked, is_whole}
use Rattle.dq_link.specs.Going.{HaveCourses, Takes, IsGoing, HasGone, HasGoneAnyway, Hears, SayEnds}
use Rattle.dq_link.specs.declared.dialling.QueryEnd.{QueryEnd}
use Rattle.dq_link.specs.declared.dialling.QueryEnd.TheVariants as end
use Rattle.dq_link.specs.declared.asker.Asker.{Asker}
use Rattle.dq_link.specs.declared.received.Received.{Received}
use Rattle.dq_link.proofs.Putting.{front_of_first, front_none}
use Rattle.dq_link.proofs.Going.{going_are_bytes, goes_on, with_more, packet_taken, packet_gone, ends_on, ends_bare, ends_short, puts_behind}

abbrev Text : Type 0
Text = Option (List ℕ)

-- ---- one packet more

pub one_more : (a b c : Asker) (st mid : StreamState) (p : Packet) (size : ℕ)
    (wrote writing writes said saying says : Text)
    → IsGoing a st b mid wrote writing said saying → IsNext mid.rest mid.place (next.Whole p size)
    → Takes p b (Ok c) writing writes saying says → IsGoing a st c (read_off size mid) wrote writes said says
one_more a b c st mid p size wrote writing writes said saying says first is (r, brings, reacted) =
    goes_on a b c st mid (read_off size mid) wrote writing writes said saying says first
    (packet_taken b c mid p size r writing writes saying says is brings reacted)

pub packet_ends : (a b : Asker) (st mid : StreamState) (p : Packet) (size : ℕ)
    (wrote writing writes said saying says : Text)
    (e : QueryEnd) → HaveCourses → AreBytes mid.rest → 0 < b.left
    → IsGoing a st b mid wrote writing said saying → IsNext mid.rest mid.place (next.Whole p size)
    → Takes p b (Err e) writing writes saying says → HasGoneAnyway a st wrote writes said says e
packet_ends a b st mid p size wrote writing writes said saying says e have are some first is takes count h =
    ends_on a b st mid wrote writing writes said saying says count h e some first
    (packet_gone b mid p size writing writes saying says is have are some e takes count h)

-- ---- what is next is no packet

pub bad_bytes : (a b : Asker) (st mid : StreamState) (number at : ℕ) (wrote writes said says : Text) → 0 < b.left
    → IsGoing a st b mid wrote writes said says → IsNext mid.rest mid.place (next.BadBytes number at)
    → HasGoneAnyway a st wrote writes said says end.BadServer
bad_bytes a b st mid number at wrote writes said says some first is count h =
    ends_on a b st mid wrote writes writes said says says count h end.BadServer some first
    (ends_bare b mid writes says (next.BadBytes number at) count h end.BadServer refl refl is (some, inr (refl, refl)))

pub bad_packet : (a b : Asker) (st mid : StreamState) (wrote writes said says : Text) → 0 < b.left
    → IsGoing a st b mid wrote writes said says → IsNext mid.rest mid.place next.BadPacket
    → HasGoneAnyway a st wrote writes said says end.BadServer
bad_packet a b st mid wrote writes said says some first is count h =
    ends_on a b st mid wrote writes writes said says says count h end.BadServer some first
    (ends_bare b mid writes says next.BadPacket count h end.BadServer refl refl is (some, inr (refl, refl)))

pub bad_next : (a b : Asker) (st mid : StreamState) (x : Next) (wrote writes said says : Text) → 0 < b.left
    → IsGoing a st b mid wrote writes said says → IsNext mid.rest mid.place x
    → ((number : ℕ) × (at : ℕ) × (x ≡ next.BadBytes number at)) ⊎ (x ≡ next.BadPacket)
    → HasGoneAnyway a st wrote writes said says end.BadServer
bad_next a b st mid x wrote writes said says some first is (inl (number, at, same)) =
    bad_bytes a b st mid number at wrote writes said says some first (subst (IsNext mid.rest mid.place) same is)
bad_next a b st mid x wrote writes said says some first is (inr same) =
    bad_packet a b st mid wrote writes said says some first (subst (IsNext mid.rest mid.place) same is)

pub short : (a b : Asker) (st mid : StreamState) (wrote writes said says : Text) → HaveCourses → AreBytes mid.rest
    → 0 < b.left → IsGoing a st b mid wrote writes said says → HasGoneAnyway a st wrote writes said says end.NoMemory
short a b st mid wrote writes said says have are some first count h =
    ends_on a b st mid wrote writes writes said says says count h end.NoMemory some first
    (ends_short b mid writes says have are count h)

-- ---- a piece

no_bytes : (st : StreamState) → st ≡ with_bytes [] st
no_bytes st = λ i. record { rest = sym (append-nil st.rest) i; place = st.place }

pub nothing_heard : (a : Asker) (st : StreamState) (wrote writes said says : Text) (count : ℕ) (h : ToldHearing)
    (e : QueryEnd) → HasGone a st wrote writes said says count h e
    → HasGone a (with_bytes [] st) wrote writes said says (count + 0) h e
nothing_heard a st wrote writes said says count h e gone =
    let n : count ≡ count + 0 = omega arith in
    subst (λ (s : StreamState). HasGone a s wrote writes said says (count + 0) h e) (no_bytes st)
    (subst (λ (m : ℕ). HasGone a st wrote writes said says m h e) n gone)

module _ (b : Asker) (old new : Received) (wrote said : Text) (h : ToldHearing) (have : HaveCourses)
    (waits : IsNext old.stream.rest old.stream.place next.Waits) (were : AreBytes old.stream.rest) where
  at_none : (e : QueryEnd) (m : List ℕ) → m ≡ []
      → HasGone b old.stream wrote wrote said said old.count h e
      → HasGone b (with_bytes m old.stream) wrote wrote said said (old.count + length m) h e
  at_none e m none gone =
      subst (λ (xs : List ℕ). HasGone b (with_bytes xs old.stream) wrote wrote said said (old.count + length xs) h e)
      (sym none) (nothing_heard b old.stream wrote wrote said said old.count h e gone)

  pub hear_gone : (e : QueryEnd) (m : List ℕ) → AreBytes m → Hears m old new h (Err e)
      → HasGone b (with_bytes m old.stream) wrote wrote said said (old.count + length m) h e
  hear_gone end.Spent m are (none, full) =
      at_none end.Spent m none
      (ends_bare b old.stream wrote said next.Waits old.count h end.Spent refl refl waits ((b.some, refl, refl), full))
  hear_gone end.Left m are (none, ended) =
      at_none end.Left m none
      (ends_bare b old.stream wrote said next.Waits old.count h end.Left refl refl waits
      (inr ((b.some, refl, refl), ended)))
  hear_gone end.HearFailed m are none =
      at_none end.HearFailed m none
      (ends_bare b old.stream wrote said next.Waits old.count h end.HearFailed refl refl waits (b.some, refl, refl))
  hear_gone end.NoMemory m are is =
      ends_short b (with_bytes m old.stream) wrote said have (All-append (λ n. n < 256) old.stream.rest m were are)
      (old.count + length m) h
  hear_gone end.Done m are is = absurd is
  hear_gone end.DialFailed m are is = absurd is
  hear_gone end.Rejected m are is = absurd is
  hear_gone end.BadServer m are is = absurd is
  hear_gone end.SayFailed m are is = absurd is
  hear_gone end.OutputFailed m are is = absurd is

pub round_ends : (a b : Asker) (st : StreamState) (old new : Received) (wrote writes said says : Text) (h : ToldHearing)
    (e : QueryEnd) (m : List ℕ) (count : ℕ) → HaveCourses → IsNext old.stream.rest old.stream.place next.Waits
    → old.count ≡ count → AreBytes st.rest → AreBytes m → IsGoing a st b old.stream wrote writes said says
    → Hears m old new h (Err e)
    → HasGone a (with_bytes m st) wrote writes said says (count + length m) h e
round_ends a b st old new wrote writes said says h e m count have waits same were are first hears =
    subst (λ (n : ℕ). HasGone a (with_bytes m st) wrote writes said says (n + length m) h e) same
    (ends_on a b (with_bytes m st) (with_bytes m old.stream) wrote writes writes said says says (old.count + length m) h e
    b.some (with_more m a b st old.stream wrote writes said says first)
    (hear_gone b old new writes says h have waits
    (going_are_bytes a b st old.stream wrote writes said says first were) e m
    are hears))

-- ---- all of it

bytes_behind : (b m : List ℕ) → with_bytes m (with_bytes b no_stream) ≡ with_bytes (b ++ m) no_stream
bytes_behind b m = refl

pub all_gone : (first : TurnRecord) (a : Asker) (b m : List ℕ) (cur : Asker) (st : StreamState)
    (wrote writing writes said opened saying says : Text) (count : ℕ) (h : ToldHearing) (e : QueryEnd)
    → length b ≡ count → Appends said opened (spelled (first ∷ []))
    → IsGoing a (with_bytes b no_stream) cur st wrote writing opened saying
    → HasGone cur (with_bytes m st) writing writes saying says (count + length m) h e
    → HasAsked first a.client a.left (b ++ m) wrote writes said says h e
all_gone first a b m cur st wrote writing writes said opened saying says count h e counted opens going gone =
    let n : count + length m ≡ length (b ++ m) = omega (arith, length-append b m) in
    let all : HasGone a (with_bytes (b ++ m) no_stream) wrote writes opened says (length (b ++ m)) h e =
    subst (λ (k : ℕ). HasGone a (with_bytes (b ++ m) no_stream) wrote writes opened says k h e) n
    (ends_on a cur (with_bytes m (with_bytes b no_stream)) (with_bytes m st) wrote writing writes opened saying says
    (count + length m) h e cur.some
    (with_more m a cur (with_bytes b no_stream) st wrote writing opened saying going) gone) in
    record {
      course = all.course;
      is = all.is;
      ends = all.ends;
      writing = all.writing;
      saying = puts_behind (is_whole e) said opened says (written (turn_value first)) _
          (subst (Appends said opened) (append-nil (written (turn_value first))) opens) all.saying;
    }

-- the first turn wasn't said
pub unsaid : (first : TurnRecord) (c : ClientState) (n : ℕ) (wrote said says : Text) (h : ToldHearing) (e : QueryEnd)
    (m k : ℕ) → HaveCourses → SayEnds e m k → AppendsFront said says (spelled (first ∷ []))
    → HasAsked first c n [] wrote wrote said says h e
unsaid first c n wrote said says h e m k have ends front = by e ends
  where
    cut : (ts : List TurnRecord) → AppendsFront said says (spelled (first ∷ ts))
    cut ts = front_of_first said says (written (turn_value first)) (spelled ts)
        (subst (AppendsFront said says) (append-nil (written (turn_value first))) front)

    by : (x : QueryEnd) → SayEnds x m k → HasAsked first c n [] wrote wrote said says h x
    by end.SayFailed is =
        let t = have no_stream (All-nil (λ b. b < 256)) in
        record { course = t.0; is = t.1; ends = tt; writing = front_none wrote wrote _ refl; saying = cut _ }
    by end.NoMemory is =
        let t = have no_stream (All-nil (λ b. b < 256)) in
        record { course = t.0; is = t.1; ends = tt; writing = front_none wrote wrote _ refl; saying = cut _ }
    by end.Done is = absurd is
    by end.DialFailed is = absurd is
    by end.Rejected is = absurd is
    by end.Spent is = absurd is
    by end.Left is = absurd is
    by end.BadServer is = absurd is
    by end.HearFailed is = absurd is
    by end.OutputFailed is = absurd is

-- nothing was said
pub undialled : (first : TurnRecord) (c : ClientState) (n : ℕ) (wrote said : Text) (h : ToldHearing) → HaveCourses
    → HasAsked first c n [] wrote wrote said said h end.DialFailed
undialled first c n wrote said h have =
    let t = have no_stream (All-nil (λ b. b < 256)) in
    record {
      course = t.0;
      is = t.1;
      ends = refl;
      writing = front_none wrote wrote _ refl;
      saying = front_none said said _ refl;
    }

pub unasked : (first : TurnRecord) (c : ClientState) (n : ℕ) (wrote said : Text) (h : ToldHearing) → HaveCourses
    → HasAsked first c n [] wrote wrote said said h end.NoMemory
unasked first c n wrote said h have =
    let t = have no_stream (All-nil (λ b. b < 256)) in
    record {
      course = t.0;
      is = t.1;
      ends = tt;
      writing = front_none wrote wrote _ refl;
      saying = front_none said said _ refl;
    }
