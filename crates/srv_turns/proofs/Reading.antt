-- How far a reader is: a packet more is read, or it ends.
use Rattle.std.proofs.Common.{◌≡◌, inl, inr, ℕ, List, [], ◌∷◌, ◌++◌, map, length, Bool, true, false, Option, None}
use Rattle.std.proofs.Common.{Some, ◌<◌, ◌^◌, ◌==◌, if◌then◌else◌, refl, sym, ap, ◌∙◌, subst}
use Rattle.std.proofs.lemmas.List.{append-nil, map-append}
use Rattle.std.proofs.lemmas.List.Elements.{All-nil, All-append, All-drop}
use Rattle.std.proofs.Math.Dec.{eqb-suc-zero}
use Rattle.pv_binary.specs.OneOfThree.{AreBytes}
use Rattle.pv_value.specs.Plain.{Plain}
use Rattle.rl_packet.specs.declared.packets.Turn.{Turn as TurnRecord}
use Rattle.rl_packet.specs.declared.packets.Packet.{Packet}
use Rattle.rl_packet.specs.declared.packets.Packet.TheVariants as packet
use Rattle.rl_stream.specs.declared.nexts.Next.{Next}
use Rattle.rl_stream.specs.declared.nexts.Next.TheVariants as next
use Rattle.rl_stream.specs.Nexts.{IsNext}
use Rattle.rl_stream.specs.Streams.{StreamState, no_stream, with_bytes, read_off}
use Rattle.rl_stream.specs.Courses.{StreamCourse, ArePacketsOf, AreRead, behind, is_packet}
use Rattle.rl_stream.specs.Lemmas.Readers.{more_read, one_more_read, still_read}
use Rattle.hub_machine.specs.declared.faults.Fault.{Fault}
use Rattle.hub_machine.specs.declared.steps.Step.{Step}
use Rattle.hub_machine.specs.declared.steps.Step.TheVariants as steps
use Rattle.hub_machine.specs.declared.steps.Reply.{Reply}
use Rattle.hub_machine.specs.declared.steps.Reply.TheVariants as reply
use Rattle.srv_turns.specs.Rounds.{Pair, Round, IsTakenRound, is_taken, pairs_in}
use Rattle.srv_turns.specs.Rounds.{step_of}
use Rattle.srv_turns.specs.Reading.{has_error, packets_due, steps_due, IsReadTo, IsReadFront, IsCutIn, IsClosed}
use Rattle.srv_turns.specs.Reading.{IsReadOut, EndsFor, HasRead, is_sent}
use Rattle.srv_turns.specs.Keeping.{end_of, IsDone, IsCut, IsCutFor, IsRefusal, Closes, Sends, IsReading, HaveCourses}
use Rattle.srv_turns.specs.Keeping.{IsWaiting, ReadsOn, link_end}
use Rattle.srv_turns.specs.declared.reader.ReaderEnd.{ReaderEnd}
use Rattle.srv_turns.specs.declared.reader.ReaderEnd.TheVariants as end
use Rattle.srv_turns.specs.Replies.{CanBeReplied, IsPacketReply, IsBadReply}
use Rattle.srv_turns.proofs.Replying.{packet_replied, bad_replied}
use Rattle.srv_turns.proofs.Pairs.{all_snoc, pairs_more}
use Rattle.srv_turns.proofs.Dues.{error_behind, due_behind, steps_behind}

-- ---- what is left

pub left_are_bytes : (ps : List Packet) (st left : StreamState) → AreRead ps st left → AreBytes st.rest
    → AreBytes left.rest
left_are_bytes [] st left same are = subst (λ (s : StreamState). AreBytes s.rest) (sym same) are
left_are_bytes (p ∷ ps) st left (n, is, others) are =
    left_are_bytes ps (read_off n st) left others (All-drop (λ b. b < 256) n st.rest are)

not_cut : (es : List Step) → IsCutIn es []
not_cut [] = refl
not_cut (e ∷ es) = inl refl

bad_is_packet : (r : Reply) → IsBadReply r → IsPacketReply r
bad_is_packet reply.Worn is = tt
bad_is_packet reply.Gone is = tt
bad_is_packet (reply.Refused f) is = tt
bad_is_packet r is = absurd is

module _ (k : ℕ) (b : List ℕ) (st : StreamState) (before mid : List Pair) (reading : IsReading k b st before mid) where
  -- the course of all the bytes, by that of those that are left
  abbrev pub whole : StreamCourse → StreamCourse
  whole c = behind reading.packets c

  pub is_whole : (c : StreamCourse) → ArePacketsOf st c → ArePacketsOf (with_bytes b no_stream) (whole c)
  is_whole c is = record {
    packets = more_read reading.packets c.packets (with_bytes b no_stream) st c.left reading.read is.packets;
    ends = is.ends;
    no_more = is.no_more;
  }

  whole_due : (c : StreamCourse) → steps_due k (whole c) ≡ map step_of reading.rounds ++ steps_due k c
  whole_due c =
      steps_behind k reading.packets c reading.no_error
      ∙ ap (λ (ss : List Step). ss ++ steps_due k c) (sym reading.done)

  pub left_course : HaveCourses → (c : StreamCourse) × ArePacketsOf st c
  left_course courses = courses st (left_are_bytes reading.packets (with_bytes b no_stream) st reading.read reading.bytes)

  -- the step that is due next was done
  pub reads_to : (c : StreamCourse) (e : Step) (r : Reply) (later : List Step) (now : List Pair)
      → steps_due k c ≡ e ∷ later → (r ≡ reply.Taken → later ≡ []) → IsDone e r mid now
      → IsReadTo k (whole c) before now e r
  reads_to c e r later now due stops (rs, round, pairs) = record {
    front = reading.rounds;
    work = rs;
    later = later;
    due = whole_due c ∙ ap (λ (ss : List Step). map step_of reading.rounds ++ ss) due;
    taken = reading.taken;
    round = round;
    pairs = pairs_more reading.rounds (record { step = e; reply = r; work = rs }) before mid now reading.pairs pairs;
    stops = stops;
  }

  -- it wasn't
  pub reads_front : (c : StreamCourse) (e : Step) (later : List Step) (now : List Pair)
      → steps_due k c ≡ e ∷ later → IsCut e mid now → IsReadFront k (whole c) before now
  reads_front c e later now due (half, cut, pairs) = record {
    front = reading.rounds;
    half = half;
    later = e ∷ later;
    due = whole_due c ∙ ap (λ (ss : List Step). map step_of reading.rounds ++ ss) due;
    taken = reading.taken;
    cut = cut;
    pairs = pairs ∙ ap (λ (ps : List Pair). ps ++ half) reading.pairs;
  }

  cut_for : (c : StreamCourse) (e : Step) (later : List Step) (now : List Pair) (n : ℕ) (spent : Bool) (x : ReaderEnd)
      → steps_due k c ≡ e ∷ later → IsCutFor e mid now spent x → EndsFor k (whole c) n before now spent x
  cut_for c e later now n spent x due (cut, inl is) =
      subst (EndsFor k (whole c) n before now spent) (sym is) (reads_front c e later now due cut)
  cut_for c e later now n spent x due (cut, inr (is, all)) =
      subst (EndsFor k (whole c) n before now spent) (sym is) (inr (reads_front c e later now due cut, all))

  nothing_more : (c : StreamCourse) → IsReadFront k (whole c) before mid
  nothing_more c = record {
    front = reading.rounds;
    half = [];
    later = steps_due k c;
    due = whole_due c;
    taken = reading.taken;
    cut = not_cut (steps_due k c);
    pairs = reading.pairs ∙ sym (append-nil (before ++ pairs_in reading.rounds));
  }

  refusal_for : (c : StreamCourse) (e : Step) (r : Reply) (n : ℕ) (spent : Bool) (now : List Pair)
      → IsPacketReply r → is_taken r ≡ false → is_sent e ≡ true → IsReadTo k (whole c) before now e r
      → EndsFor k (whole c) n before now spent (end_of r)
  refusal_for c e (reply.Refused f) n spent now is not sent to = (e, sent, to)
  refusal_for c e reply.Gone n spent now is not sent to = (e, sent, to)
  refusal_for c e reply.Worn n spent now is not sent to = (e, sent, to)
  refusal_for c e reply.Taken n spent now is not sent to = absurd cc
  refusal_for c e r n spent now is not sent to = absurd is

  -- the step that is due next wasn't taken
  pub refused : (c : StreamCourse) → ArePacketsOf st c → (e : Step) (later : List Step) (now : List Pair) (spent : Bool)
      (x : ReaderEnd) → steps_due k c ≡ e ∷ later → is_sent e ≡ true
      → ((r : Reply) → CanBeReplied e r → IsPacketReply r) → IsRefusal e mid now spent x
      → HasRead k b before now spent x
  refused c is e later now spent x due sent replies (inl (r, can, not, done, same)) =
      let stops : r ≡ reply.Taken → later ≡ [] = λ taken. absurd (cc (ap is_taken taken, not)) in
      record {
        course = whole c;
        is = is_whole c is;
        ends = subst (EndsFor k (whole c) (length b) before now spent) (sym same)
            (refusal_for c e r (length b) spent now (replies r can) not sent
            (reads_to c e r later now due stops done));
      }
  refused c is e later now spent x due sent replies (inr cut) = record {
    course = whole c;
    is = is_whole c is;
    ends = cut_for c e later now (length b) spent x due cut;
  }

  -- the connection was closed
  pub closed : (c : StreamCourse) → ArePacketsOf st c → (now : List Pair) (spent : Bool) (for x : ReaderEnd)
      → steps_due k c ≡ steps.Close k ∷ []
      → (IsClosed k (whole c) before now → EndsFor k (whole c) (length b) before now spent for)
      → Closes k mid now spent for x → HasRead k b before now spent x
  closed c is now spent for x due fits (inl (r, done, same)) = record {
    course = whole c;
    is = is_whole c is;
    ends = subst (EndsFor k (whole c) (length b) before now spent) (sym same)
        (fits (r, reads_to c (steps.Close k) r [] now due (λ _. refl) done));
  }
  closed c is now spent for x due fits (inr cut) = record {
    course = whole c;
    is = is_whole c is;
    ends = cut_for c (steps.Close k) [] now (length b) spent x due cut;
  }

  -- ---- no packet is next

  -- the course of what is left, where this is next in it
  abbrev pub ends_with : Next → StreamCourse
  ends_with x = record { packets = []; left = st; ends = x }

  pub is_ends_with : (x : Next) → is_packet x ≡ false → IsNext st.rest st.place x → ArePacketsOf st (ends_with x)
  is_ends_with x none is = record { packets = refl; ends = is; no_more = none }

  pub no_error_left : (x : Next) → has_error (whole (ends_with x)).packets ≡ false
  no_error_left x = error_behind reading.packets [] reading.no_error

  -- the link ended or failed, or no more is taken
  pub closed_out : (now : List Pair) (spent : Bool) (for x : ReaderEnd) → IsWaiting st
      → (IsClosed k (whole (ends_with next.Waits)) before now → IsReadOut (whole (ends_with next.Waits))
      → EndsFor k (whole (ends_with next.Waits)) (length b) before now spent for)
      → Closes k mid now spent for x → HasRead k b before now spent x
  closed_out now spent for x waits fits closes =
      closed (ends_with next.Waits) (is_ends_with next.Waits refl waits) now spent for x refl
      (λ closed. fits closed (no_error_left next.Waits, refl)) closes

  -- what is no packet was refused
  pub bad_read : (x : Next) (f : Fault) (now : List Pair) (spent : Bool) (y : ReaderEnd) → is_packet x ≡ false
      → IsNext st.rest st.place x → steps_due k (ends_with x) ≡ steps.Bad k f ∷ []
      → IsRefusal (steps.Bad k f) mid now spent y → HasRead k b before now spent y
  bad_read x f now spent y none is due refusal =
      refused (ends_with x) (is_ends_with x none is) (steps.Bad k f) [] now spent y due refl
      (λ r can. bad_is_packet r (bad_replied k f r can)) refusal

  -- nothing more was done, for want of memory
  pub forgot : HaveCourses → (spent : Bool) → HasRead k b before mid spent end.NoMemory
  forgot courses spent =
      let c = left_course courses in
      record {
        course = whole c.0;
        is = is_whole c.0 c.1;
        ends = nothing_more c.0;
      }

  -- ---- a packet is next
  module _ (size : ℕ) (p : Packet) (is : IsNext st.rest st.place (next.Whole p size)) where
    abbrev pub with_packet : StreamCourse → StreamCourse
    with_packet c = behind (p ∷ []) c

    pub is_with_packet : (c : StreamCourse) → ArePacketsOf (read_off size st) c → ArePacketsOf st (with_packet c)
    is_with_packet c left = record { packets = (size, is, left.packets); ends = left.ends; no_more = left.no_more }

    pub behind_course : HaveCourses → (c : StreamCourse) × ArePacketsOf (read_off size st) c
    behind_course courses = courses (read_off size st) (All-drop (λ n. n < 256) size st.rest
        (left_are_bytes reading.packets (with_bytes b no_stream) st reading.read reading.bytes))

    -- it was passed over
    pub passed : has_error (p ∷ []) ≡ false → packets_due k (p ∷ []) ≡ [] → IsReading k b (read_off size st) before mid
    passed none due = record {
      bytes = reading.bytes;
      packets = reading.packets ++ p ∷ [];
      read = one_more_read reading.packets p size (with_bytes b no_stream) st reading.read is;
      no_error = error_behind reading.packets (p ∷ []) reading.no_error ∙ none;
      rounds = reading.rounds;
      done = reading.done ∙ sym (due_behind k reading.packets (p ∷ []) reading.no_error
          ∙ ap (λ (ss : List Step). packets_due k reading.packets ++ ss) due
          ∙ append-nil (packets_due k reading.packets));
      taken = reading.taken;
      pairs = reading.pairs;
    }

    -- its turn was taken
    pub taken : (t : TurnRecord) (now : List Pair) → p ≡ packet.Turn t
        → IsDone (steps.Packet k t) reply.Taken mid now → IsReading k b (read_off size st) before now
    taken t now same (rs, round, pairs) =
        let d : Round = record { step = steps.Packet k t; reply = reply.Taken; work = rs } in
        let due : packets_due k (p ∷ []) ≡ steps.Packet k t ∷ [] = ap (λ q. packets_due k (q ∷ [])) same in
        record {
          bytes = reading.bytes;
          packets = reading.packets ++ p ∷ [];
          read = one_more_read reading.packets p size (with_bytes b no_stream) st reading.read is;
          no_error = error_behind reading.packets (p ∷ []) reading.no_error ∙ ap (λ q. has_error (q ∷ [])) same;
          rounds = reading.rounds ++ d ∷ [];
          done = map-append step_of reading.rounds (d ∷ [])
              ∙ ap (λ (ss : List Step). ss ++ steps.Packet k t ∷ []) reading.done
              ∙ sym (due_behind k reading.packets (p ∷ []) reading.no_error
              ∙ ap (λ (ss : List Step). packets_due k reading.packets ++ ss) due);
          taken = all_snoc IsTakenRound reading.rounds d reading.taken (refl, round);
          pairs = pairs_more reading.rounds d before mid now reading.pairs pairs;
        }

-- ---- what each part of a reader makes of it

module _ (k : ℕ) (b : List ℕ) (st : StreamState) (before mid : List Pair) (reading : IsReading k b st before mid)
    (size : ℕ) where
  pub turn_read : HaveCourses → (t : TurnRecord) → IsNext st.rest st.place (next.Whole (packet.Turn t) size)
      → (now : List Pair) (spent : Bool) (o : Option ReaderEnd) → Sends k t mid now spent o
      → ReadsOn k b (read_off size st) before now spent o
  turn_read courses t is now spent None done =
      taken k b st before mid reading size (packet.Turn t) is t now refl done
  turn_read courses t is now spent (Some x) refusal =
      let c = behind_course k b st before mid reading size (packet.Turn t) is courses in
      refused k b st before mid reading (with_packet k b st before mid reading size (packet.Turn t) is c.0)
      (is_with_packet k b st before mid reading size (packet.Turn t) is c.0 c.1) (steps.Packet k t)
      (steps_due k c.0) now spent x refl refl (packet_replied k t) refusal

  pub error_read : HaveCourses → (m d : Plain) → IsNext st.rest st.place (next.Whole (packet.Error m d) size)
      → (now : List Pair) (spent : Bool) (x : ReaderEnd) → Closes k mid now spent end.PeerError x
      → HasRead k b before now spent x
  error_read courses m d is now spent x closes =
      let p = packet.Error m d in
      let c = behind_course k b st before mid reading size p is courses in
      let cs = with_packet k b st before mid reading size p is c.0 in
      closed k b st before mid reading cs (is_with_packet k b st before mid reading size p is c.0 c.1) now spent
      end.PeerError x refl (λ closed. (closed, error_behind reading.packets cs.packets reading.no_error)) closes

-- ---- nothing was taken yet, and more is taken

pub begins : (k : ℕ) (before : List Pair) → IsReading k [] no_stream before before
begins k before = record {
  bytes = All-nil (λ n. n < 256);
  packets = [];
  read = refl;
  no_error = refl;
  rounds = [];
  done = refl;
  taken = tt;
  pairs = sym (append-nil before);
}

module _ (k : ℕ) (b : List ℕ) (st : StreamState) (before mid : List Pair) (reading : IsReading k b st before mid) where
  pub more_taken : (more : List ℕ) → AreBytes more → IsReading k (b ++ more) (with_bytes more st) before mid
  more_taken more are = record {
    bytes = All-append (λ n. n < 256) b more reading.bytes are;
    packets = reading.packets;
    read = still_read more reading.packets (with_bytes b no_stream) st reading.read;
    no_error = reading.no_error;
    rounds = reading.rounds;
    done = reading.done;
    taken = reading.taken;
    pairs = reading.pairs;
  }

  link_fits : (c : StreamCourse) (n : ℕ) (now : List Pair) (spent : Bool) (rest : List ℕ) → c.left.rest ≡ rest
      → IsClosed k c before now → IsReadOut c
      → EndsFor k c n before now spent (if length rest == 0 then end.Clean else end.Cut)
  link_fits c n now spent [] is closed out = (closed, out, is)
  link_fits c n now spent (x ∷ xs) is closed out =
      subst (λ t. EndsFor k c n before now spent (if t then end.Clean else end.Cut)) (sym (eqb-suc-zero (length xs)))
      (closed, out, λ none. absurd (cc (none, is)))

  module _ (now : List Pair) (spent : Bool) (x : ReaderEnd) (waits : IsWaiting st) where
    with_none : HasRead k b before now spent x → HasRead k (b ++ []) before now spent x
    with_none read = subst (λ (xs : List ℕ). HasRead k xs before now spent x) (sym (append-nil b)) read

    -- its link ended
    pub link_ended : (for : ReaderEnd) → for ≡ link_end st → Closes k mid now spent for x
        → HasRead k (b ++ []) before now spent x
    link_ended for is closes = with_none (closed_out k b st before mid reading now spent (link_end st) x waits
        (λ closed out. link_fits (whole k b st before mid reading (ends_with k b st before mid reading next.Waits))
        (length b) now spent st.rest refl closed out)
        (subst (λ f. Closes k mid now spent f x) is closes))

    -- its link failed
    pub link_failed : Closes k mid now spent end.ReadFault x → HasRead k (b ++ []) before now spent x
    link_failed closes = with_none (closed_out k b st before mid reading now spent end.ReadFault x waits
        (λ closed out. (closed, out)) closes)

    -- it took all that it may
    pub all_taken : length b ≡ 2 ^ 40 → Closes k mid now spent end.Spent x → HasRead k (b ++ []) before now spent x
    all_taken full closes = with_none (closed_out k b st before mid reading now spent end.Spent x waits
        (λ closed out. inl (closed, out, full)) closes)
