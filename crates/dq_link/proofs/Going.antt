-- A query goes on for packets and for bytes, and ends.
use Rattle.std.proofs.Common.{◌≡◌, ℕ, zero, suc, ◌+◌, ◌-◌, ◌≤◌, ◌<◌, List, [], ◌∷◌, ◌++◌, length, take, Bool, true, false, Option}
use Rattle.std.proofs.Common.{Ok, Err, refl, sym, ap, ◌∙◌, subst, arith, length-append, inl, inr}
use Rattle.std.proofs.lemmas.List.Elements.{All-drop}
use Rattle.out_ports.specs.Ports.{Appends, AppendsFront}
use Rattle.out_ports.specs.Dialled.{ToldHearing}
use Rattle.pv_binary.specs.OneOfThree.{AreBytes}
use Rattle.rl_packet.specs.declared.packets.Packet.{Packet}
use Rattle.rl_stream.specs.declared.nexts.Next.{Next}
use Rattle.rl_stream.specs.declared.nexts.Next.TheVariants as next
use Rattle.rl_stream.specs.Nexts.{IsNext}
use Rattle.rl_stream.specs.Streams.{StreamState, with_bytes, read_off}
use Rattle.rl_stream.specs.Courses.{StreamCourse, ArePacketsOf, AreRead, is_packet, is_waiting}
use Rattle.rl_stream.specs.Courses as courses
use Rattle.rl_stream.specs.Lemmas.Readers.{more_read, still_read}
use Rattle.dq_core.specs.declared.client.Reaction.{Reaction}
use Rattle.dq_core.specs.declared.client.QueryFault.{QueryFault}
use Rattle.dq_core.specs.declared.client.QueryFault.TheVariants as fault
use Rattle.dq_core.specs.States.{ClientState}
use Rattle.dq_core.specs.Lines.{lines_text}
use Rattle.dq_core.specs.Reactions.{Told, told, behind, heard, lines_in, asks_in, turn_in}
use Rattle.dq_core.specs.Lemmas.Goes.{told-append}
use Rattle.dq_link.specs.Asked.{to_write, to_say, spelled, EndsFor, AreFew, IsWaiting, Puts, is_whole}
use Rattle.dq_link.specs.Going.{HaveCourses, IsReacted, IsCut, IsLast, StopsAt, FaultEnds, Takes, IsGoing, HasGone}
use Rattle.dq_link.specs.Going.{HasGoneAnyway}
use Rattle.dq_link.specs.declared.dialling.QueryEnd.{QueryEnd}
use Rattle.dq_link.specs.declared.dialling.QueryEnd.TheVariants as end
use Rattle.dq_link.specs.declared.asker.Asker.{Asker}
use Rattle.dq_link.proofs.Putting.{puts_none, puts_both, front_of_first, all_of_first, front_none, puts_front}
use Rattle.dq_link.proofs.Bringing.{lines-append, asks-append, text-append, spelled-append, write-append, say-append}
use Rattle.dq_link.proofs.Bringing.{done_before, first_of, whole_of, split_take, single_lines, single_asks}
use Rattle.dq_link.proofs.Bringing.{told_one, told_fault}

abbrev Text : Type 0
Text = Option (List ℕ)

-- ---- packets

-- nothing was done yet
pub still : (a : Asker) (st : StreamState) (wrote said : Text) → IsGoing a st a st wrote wrote said said
still a st wrote said = record {
  packets = [];
  read = refl;
  follows = refl;
  fewer = omega arith;
  writing = puts_none wrote wrote refl;
  saying = puts_none said said refl;
}

pub goes_on : (a b c : Asker) (st mid left : StreamState) (wrote writing writes said saying says : Text)
    → IsGoing a st b mid wrote writing said saying → IsGoing b mid c left writing writes saying says
    → IsGoing a st c left wrote writes said says
goes_on a b c st mid left wrote writing writes said saying says first then =
    let t = told first.packets a.client in
    let u = told then.packets b.client in
    let whole : told (first.packets ++ then.packets) a.client ≡ behind t.reactions u =
    told-append first.packets then.packets a.client b.client first.follows in
    let e : length (lines_in (t.reactions ++ u.reactions))
    ≡ length (lines_in t.reactions) + length (lines_in u.reactions) =
    ap length (lines-append t.reactions u.reactions) ∙ length-append (lines_in t.reactions) (lines_in u.reactions) in
    let few = first.fewer in
    let fewer' = then.fewer in
    record {
      packets = first.packets ++ then.packets;
      read = more_read first.packets then.packets st mid left first.read then.read;
      follows = ap (λ (w : Told). w.ends) whole ∙ then.follows;
      fewer = subst (λ (w : Told). length (lines_in w.reactions) + c.left ≡ a.left) (sym whole) (omega arith);
      writing = subst (λ (w : Told). Appends wrote writes (lines_text (lines_in w.reactions))) (sym whole)
          (subst (Appends wrote writes)
          (sym (ap lines_text (lines-append t.reactions u.reactions)
          ∙ text-append (lines_in t.reactions) (lines_in u.reactions)))
          (puts_both wrote writing writes _ _ first.writing then.writing));
      saying = subst (λ (w : Told). Appends said says (spelled (asks_in w.reactions))) (sym whole)
          (subst (Appends said says)
          (sym (ap spelled (asks-append t.reactions u.reactions)
          ∙ spelled-append (asks_in t.reactions) (asks_in u.reactions)))
          (puts_both said saying says _ _ first.saying then.saying));
    }

-- more bytes came
pub with_more : (m : List ℕ) (a b : Asker) (st left : StreamState) (wrote writes said says : Text)
    → IsGoing a st b left wrote writes said says
    → IsGoing a (with_bytes m st) b (with_bytes m left) wrote writes said says
with_more m a b st left wrote writes said says is = record {
  packets = is.packets;
  read = still_read m is.packets st left is.read;
  follows = is.follows;
  fewer = is.fewer;
  writing = is.writing;
  saying = is.saying;
}

-- what is left of bytes are bytes
pub left_are_bytes : (ps : List Packet) (st left : StreamState) → AreRead ps st left → AreBytes st.rest
    → AreBytes left.rest
left_are_bytes [] st left same are = subst (λ (s : StreamState). AreBytes s.rest) (sym same) are
left_are_bytes (p ∷ ps) st left (n, is, others) are =
    left_are_bytes ps (read_off n st) left others (All-drop (λ b. b < 256) n st.rest are)

pub going_are_bytes : (a b : Asker) (st left : StreamState) (wrote writes said says : Text)
    → IsGoing a st b left wrote writes said says → AreBytes st.rest → AreBytes left.rest
going_are_bytes a b st left wrote writes said says is are = left_are_bytes is.packets st left is.read are

-- a packet was taken, and what it brings was written and said
pub packet_taken : (a b : Asker) (st : StreamState) (p : Packet) (size : ℕ) (r : Reaction)
    (wrote writes said says : Text) → IsNext st.rest st.place (next.Whole p size) → heard p a.client ≡ Ok (b.client, r)
    → IsReacted r a.left b.left wrote writes said says
    → IsGoing a st b (read_off size st) wrote writes said says
packet_taken a b st p size r wrote writes said says is brings reacted =
    let whole : told (p ∷ []) a.client ≡ record { reactions = r ∷ []; ends = Ok b.client } =
    told_one p [] a.client (b.client, r) brings in
    let few = reacted.fewer in
    let e : length (lines_in (r ∷ [])) ≡ length r.lines = ap length (single_lines r) in
    record {
      packets = p ∷ [];
      read = (size, is, refl);
      follows = ap (λ (w : Told). w.ends) whole;
      fewer = subst (λ (w : Told). length (lines_in w.reactions) + b.left ≡ a.left) (sym whole) (omega arith);
      writing = subst (λ (w : Told). Appends wrote writes (lines_text (lines_in w.reactions))) (sym whole)
          (subst (λ ls. Appends wrote writes (lines_text ls)) (sym (single_lines r)) reacted.writing);
      saying = subst (λ (w : Told). Appends said says (spelled (asks_in w.reactions))) (sym whole)
          (subst (λ ts. Appends said says (spelled ts)) (sym (single_asks r)) reacted.saying);
    }

-- ---- ends

-- what comes behind packets ends the query for all of them
ends_behind : (rs : List Reaction) (t : Told) (c : StreamCourse) (ps : List Packet) (n left count : ℕ) (h : ToldHearing)
    (e : QueryEnd) → length (lines_in rs) + left ≡ n → EndsFor left t c count h e
    → EndsFor n (behind rs t) (courses.behind ps c) count h e
ends_behind rs t c ps n left count h e is ends = by e ends
  where
    lines : length (lines_in (rs ++ t.reactions)) ≡ length (lines_in rs) + length (lines_in t.reactions)
    lines = ap length (lines-append rs t.reactions) ∙ length-append (lines_in rs) (lines_in t.reactions)

    few : AreFew left t → AreFew n (behind rs t)
    few l = omega (arith, lines, is, l)

    waiting : IsWaiting left t c → IsWaiting n (behind rs t) (courses.behind ps c)
    waiting w = (few w.0, w.1, w.2)

    by : (x : QueryEnd) → EndsFor left t c count h x → EndsFor n (behind rs t) (courses.behind ps c) count h x
    by end.Done l = omega (arith, lines, is, l)
    by end.DialFailed l = l
    by end.Rejected l = (few l.0, l.1)
    by end.Spent l = (waiting l.0, l.1)
    by end.Left (inl l) = inl (few l.0, l.1)
    by end.Left (inr l) = inr (waiting l.0, l.1)
    by end.BadServer l = (few l.0, l.1)
    by end.HearFailed l = waiting l
    by end.SayFailed l = tt
    by end.OutputFailed l = tt
    by end.NoMemory l = tt

pub puts_behind : (w : Bool) (before mid now : Text) (x y : List ℕ) → Appends before mid x → Puts w mid now y
    → Puts w before now (x ++ y)
puts_behind true before mid now x y first then = puts_both before mid now x y first then
puts_behind false before mid now x y first then = puts_front before mid now x y first then

pub ends_on : (a b : Asker) (st mid : StreamState) (wrote writing writes said saying says : Text) (count : ℕ)
    (h : ToldHearing) (e : QueryEnd) → 0 < b.left → IsGoing a st b mid wrote writing said saying
    → HasGone b mid writing writes saying says count h e → HasGone a st wrote writes said says count h e
ends_on a b st mid wrote writing writes said saying says count h e some first then =
    let rs = (told first.packets a.client).reactions in
    let u = told then.course.packets b.client in
    let whole : told (first.packets ++ then.course.packets) a.client ≡ behind rs u =
    told-append first.packets then.course.packets a.client b.client first.follows in
    record {
      course = courses.behind first.packets then.course;
      is = record {
        packets = more_read first.packets then.course.packets st mid then.course.left first.read then.is.packets;
        ends = then.is.ends;
        no_more = then.is.no_more;
      };
      ends = subst (λ (w : Told). EndsFor a.left w (courses.behind first.packets then.course) count h e) (sym whole)
          (ends_behind rs u then.course first.packets a.left b.left count h e first.fewer then.ends);
      writing = subst (λ (w : Told). Puts (is_whole e) wrote writes (to_write a.left w)) (sym whole)
          (subst (Puts (is_whole e) wrote writes) (sym (write-append rs u a.left b.left first.fewer))
          (puts_behind (is_whole e) wrote writing writes _ _ first.writing then.writing));
      saying = subst (λ (w : Told). Puts (is_whole e) said says (spelled (to_say a.left w))) (sym whole)
          (subst (Puts (is_whole e) said says)
          (sym (ap spelled (say-append rs u a.left b.left some first.fewer)
          ∙ spelled-append (asks_in rs) (to_say b.left u)))
          (puts_behind (is_whole e) said saying says _ _ first.saying then.saying));
    }

-- ---- no packet is next

module _ (a : Asker) (st : StreamState) (wrote said : Text) where
  -- what is next is no packet
  abbrev bare : Next → StreamCourse
  bare x = record { packets = []; left = st; ends = x }

  nothing_said : (n : ℕ) → Appends said said (spelled (to_say n (told [] a.client)))
  nothing_said n = puts_none said said refl

  write_none : (n : ℕ) (c : ClientState) → to_write n (told [] c) ≡ []
  write_none zero c = refl
  write_none (suc n) c = refl

  nothing_written : (n : ℕ) → Appends wrote wrote (to_write n (told [] a.client))
  nothing_written n = subst (Appends wrote wrote) (sym (write_none n a.client)) (puts_none wrote wrote refl)

  pub ends_bare : (x : Next) (count : ℕ) (h : ToldHearing) (e : QueryEnd) → is_packet x ≡ false → is_whole e ≡ true
      → IsNext st.rest st.place x → EndsFor a.left (told [] a.client) (bare x) count h e
      → HasGone a st wrote wrote said said count h e
  ends_bare x count h e none whole is ends = record {
    course = bare x;
    is = record { packets = refl; ends = is; no_more = none };
    ends = ends;
    writing = subst (λ w. Puts w wrote wrote (to_write a.left (told [] a.client))) (sym whole) (nothing_written a.left);
    saying = subst (λ w. Puts w said said (spelled (to_say a.left (told [] a.client)))) (sym whole)
        (nothing_said a.left);
  }

  -- want of memory
  pub ends_short : HaveCourses → AreBytes st.rest → (count : ℕ) (h : ToldHearing)
      → HasGone a st wrote wrote said said count h end.NoMemory
  ends_short have are count h =
      let c = have st are in
      record {
        course = c.0;
        is = c.1;
        ends = tt;
        writing = front_none wrote wrote _ refl;
        saying = front_none said said _ refl;
      }

-- ---- a packet is next

module _ (a : Asker) (st : StreamState) (p : Packet) (size : ℕ) (wrote writes said says : Text)
    (is : IsNext st.rest st.place (next.Whole p size)) (have : HaveCourses) (are : AreBytes st.rest)
    (some : 0 < a.left) where
  rest : (c : StreamCourse) × ArePacketsOf (read_off size st) c
  rest = have (read_off size st) (All-drop (λ n. n < 256) size st.rest are)

  abbrev course : StreamCourse → StreamCourse
  course c = courses.behind (p ∷ []) c

  is_course : (c : StreamCourse) → ArePacketsOf (read_off size st) c → ArePacketsOf st (course c)
  is_course c left = record { packets = (size, is, left.packets); ends = left.ends; no_more = left.no_more }

  -- the packet brings nothing more
  fault_gone : (e : QueryEnd) (f : QueryFault) (count : ℕ) (h : ToldHearing) → heard p a.client ≡ Err f
      → writes ≡ wrote → says ≡ said → is_whole e ≡ true
      → ((t : Told) → t ≡ record { reactions = []; ends = Err f } → (c : StreamCourse) → EndsFor a.left t c count h e)
      → HasGone a st wrote writes said says count h e
  fault_gone e f count h brings w s whole ends =
      let c = rest in
      let t : told (p ∷ c.0.packets) a.client ≡ record { reactions = []; ends = Err f } =
      told_fault p c.0.packets a.client f brings in
      record {
        course = course c.0;
        is = is_course c.0 c.1;
        ends = ends (told (p ∷ c.0.packets) a.client) t (course c.0);
        writing = subst (λ (u : Told). Puts (is_whole e) wrote writes (to_write a.left u)) (sym t)
            (subst (λ b. Puts b wrote writes (to_write a.left (record { reactions = []; ends = Err f }))) (sym whole)
            (subst (Appends wrote writes) (sym (take_none a.left)) (puts_none wrote writes w)));
        saying = subst (λ (u : Told). Puts (is_whole e) said says (spelled (to_say a.left u))) (sym t)
            (subst (λ b. Puts b said says []) (sym whole) (puts_none said says s));
      }
    where
      take_none : (n : ℕ) → to_write n (record { reactions = []; ends = Err f }) ≡ []
      take_none zero = refl
      take_none (suc n) = refl

  pub packet_fault : (e : QueryEnd) (count : ℕ) (h : ToldHearing) → FaultEnds (heard p a.client) e → writes ≡ wrote
      → says ≡ said → HasGone a st wrote writes said says count h e
  packet_fault end.Rejected count h brings w s =
      fault_gone end.Rejected fault.Rejected count h brings w s refl
      (λ t same c. (subst (AreFew a.left) (sym same) some, ap (λ (u : Told). u.ends) same))
  packet_fault end.Left count h brings w s =
      fault_gone end.Left fault.ServerError count h brings w s refl
      (λ t same c. inl (subst (AreFew a.left) (sym same) some, ap (λ (u : Told). u.ends) same))
  packet_fault end.BadServer count h brings w s =
      fault_gone end.BadServer fault.BadServer count h brings w s refl
      (λ t same c. (subst (AreFew a.left) (sym same) some, inl (ap (λ (u : Told). u.ends) same)))
  packet_fault end.NoMemory count h brings w s =
      let c = have st are in
      record {
        course = c.0;
        is = c.1;
        ends = tt;
        writing = front_none wrote writes _ w;
        saying = front_none said says _ s;
      }
  packet_fault end.Done count h brings w s = absurd brings
  packet_fault end.DialFailed count h brings w s = absurd brings
  packet_fault end.Spent count h brings w s = absurd brings
  packet_fault end.HearFailed count h brings w s = absurd brings
  packet_fault end.SayFailed count h brings w s = absurd brings
  packet_fault end.OutputFailed count h brings w s = absurd brings

  -- the packet brings a reaction, which wasn't finished
  module _ (x : ClientState × Reaction) (brings : heard p a.client ≡ Ok x) where
    all : (c : StreamCourse) → told (p ∷ c.packets) a.client ≡ behind (x.1 ∷ []) (told c.packets x.0)
    all c = told_one p c.packets a.client x brings

    cut_writing : (ls : List Reaction) → IsCut x.1 a.left wrote writes said says
        → AppendsFront wrote writes (lines_text (take a.left (x.1.lines ++ lines_in ls)))
    cut_writing ls (inl (front, same)) =
        subst (AppendsFront wrote writes)
        (sym (ap lines_text (split_take a.left x.1.lines (lines_in ls))
        ∙ text-append (take a.left x.1.lines) (take (a.left - length x.1.lines) (lines_in ls))))
        (front_of_first wrote writes _ _ front)
    cut_writing ls (inr (few, lines, front)) =
        subst (AppendsFront wrote writes)
        (sym (ap lines_text (whole_of x.1 (lines_in ls) a.left (a.left - length x.1.lines) (omega arith))
        ∙ text-append x.1.lines (take (a.left - length x.1.lines) (lines_in ls))))
        (all_of_first wrote writes _ _ lines)

    cut_saying : (t : Told) → IsCut x.1 a.left wrote writes said says
        → AppendsFront said says (spelled (to_say a.left (behind (x.1 ∷ []) t)))
    cut_saying t (inl (front, same)) = front_none said says _ same
    cut_saying t (inr (few, lines, front)) =
        let m : ℕ = a.left - length x.1.lines in
        let whole : length (lines_in (x.1 ∷ [])) + m ≡ a.left =
        (let e : length (lines_in (x.1 ∷ [])) ≡ length x.1.lines = ap length (single_lines x.1) in omega arith) in
        let more : 0 < m = omega arith in
        subst (AppendsFront said says)
        (sym (ap spelled (say-append (x.1 ∷ []) t a.left m more whole
        ∙ ap (λ ts. ts ++ to_say m t) (single_asks x.1))
        ∙ spelled-append (turn_in x.1.ask) (to_say m t)))
        (front_of_first said says _ _ front)

    cut_gone : (e : QueryEnd) (count : ℕ) (h : ToldHearing) → is_whole e ≡ false
        → ((t : Told) (c : StreamCourse) → EndsFor a.left t c count h e) → IsCut x.1 a.left wrote writes said says
        → HasGone a st wrote writes said says count h e
    cut_gone e count h half ends cut =
        let c = rest in
        let t = told c.0.packets x.0 in
        record {
          course = course c.0;
          is = is_course c.0 c.1;
          ends = ends (told (p ∷ c.0.packets) a.client) (course c.0);
          writing = subst (λ (u : Told). Puts (is_whole e) wrote writes (to_write a.left u)) (sym (all c.0))
              (subst (λ b. Puts b wrote writes (to_write a.left (behind (x.1 ∷ []) t))) (sym half)
              (cut_writing t.reactions cut));
          saying = subst (λ (u : Told). Puts (is_whole e) said says (spelled (to_say a.left u))) (sym (all c.0))
              (subst (λ b. Puts b said says (spelled (to_say a.left (behind (x.1 ∷ []) t)))) (sym half)
              (cut_saying t cut));
        }

    done_gone : (count : ℕ) (h : ToldHearing) → IsLast x.1 a.left wrote writes said says
        → HasGone a st wrote writes said says count h end.Done
    done_gone count h last =
        let c = rest in
        let t = told c.0.packets x.0 in
        let l : length (x.1.lines ++ lines_in t.reactions) ≡ length x.1.lines + length (lines_in t.reactions) =
        length-append x.1.lines (lines_in t.reactions) in
        let enough = last.enough in
        record {
          course = course c.0;
          is = is_course c.0 c.1;
          ends = subst (λ (u : Told). a.left ≤ length (lines_in u.reactions)) (sym (all c.0)) (omega arith);
          writing = subst (λ (u : Told). Appends wrote writes (to_write a.left u)) (sym (all c.0))
              (subst (λ ls. Appends wrote writes (lines_text ls))
              (sym (first_of x.1 (lines_in t.reactions) a.left enough)) last.writing);
          saying = subst (λ (u : Told). Appends said says (spelled (to_say a.left u))) (sym (all c.0))
              (subst (λ rs. Appends said says (spelled (asks_in rs)))
              (sym (done_before x.1 t.reactions a.left enough)) (puts_none said says last.saying));
        }

    pub packet_stops : (e : QueryEnd) (count : ℕ) (h : ToldHearing) → StopsAt x.1 a.left wrote writes said says e
        → HasGone a st wrote writes said says count h e
    packet_stops end.Done count h stops = done_gone count h stops
    packet_stops end.SayFailed count h stops = cut_gone end.SayFailed count h refl (λ t c. tt) stops
    packet_stops end.OutputFailed count h stops = cut_gone end.OutputFailed count h refl (λ t c. tt) stops
    packet_stops end.NoMemory count h stops = cut_gone end.NoMemory count h refl (λ t c. tt) stops
    packet_stops end.Rejected count h stops = absurd stops
    packet_stops end.Left count h stops = absurd stops
    packet_stops end.BadServer count h stops = absurd stops
    packet_stops end.DialFailed count h stops = absurd stops
    packet_stops end.Spent count h stops = absurd stops
    packet_stops end.HearFailed count h stops = absurd stops

  pub packet_gone : (e : QueryEnd) → Takes p a (Err e) wrote writes said says
      → HasGoneAnyway a st wrote writes said says e
  packet_gone e (inl (x, brings, stops)) count h = packet_stops x brings e count h stops
  packet_gone e (inr (ends, w, s)) count h = packet_fault e count h ends w s
