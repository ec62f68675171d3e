-- The run of a load, where packets are told as they stand: no step of it passes a limit.
use Rattle.std.proofs.Common.{◌≡◌, ℕ, zero, suc, ◌+◌, ◌*◌, ◌^◌, ◌<◌, ◌≤◌, List, [], ◌∷◌, ◌++◌, length, drop, Bool}
use Rattle.std.proofs.Common.{true, false, cond, nat_le, nat_lt, Option, Some, None, refl, sym, subst, ap, ◌∙◌, arith}
use Rattle.std.proofs.Common.{length-append, append-nil, append_assoc}
use Rattle.std.specs.Prelude.{unwrap_or}
use Rattle.std.specs.List.{AllByRecursion}
use Rattle.std.proofs.lemmas.Bool.Decides.{nat_tests}
use Rattle.pv_binary.specs.Written.{written}
use Rattle.ac_world.specs.Worlds.{entry_of}
use Rattle.ac_world.specs.Lemmas.Entries.{each_with, each_without, each_found}
use Rattle.rl_packet.specs.Packets.{packet_value, spoken}
use Rattle.rl_packet.specs.declared.packets.Packet.{Packet}
use Rattle.rl_packet.specs.declared.packets.Dialect.TheVariants.{Newer}
use Rattle.rl_packet.specs.declared.packets.Turn.{Turn as TurnRecord}
use Rattle.rl_packet.specs.declared.packets.TurnEvent.{TurnEvent}
use Rattle.rl_stream.specs.declared.nexts.Next.TheVariants as next
use Rattle.rl_stream.specs.Nexts.{OneNext, Decider, Decides}
use Rattle.rl_stream.specs.Streams.{StreamState, no_stream, with_bytes, read_off}
use Rattle.hub_machine.specs.Limits.{worn_handle, worn_connections}
use Rattle.hub_machine.specs.State.{State, opening, ports_of, is_there}
use Rattle.hub_machine.specs.Machine.{After, unchanged, arrive_unless, is_worn, done, step as step_of}
use Rattle.hub_machine.specs.Replays.{run_from, lowest, packet_in}
use Rattle.hub_machine.specs.Lemmas.ReplayLaws.{replay-more}
use Rattle.hub_machine.specs.declared.steps.Step.{Step}
use Rattle.hub_machine.specs.declared.steps.Step.TheVariants as step
use Rattle.hub_machine.specs.declared.steps.Reply.{Reply}
use Rattle.hub_machine.specs.declared.steps.Reply.TheVariants as reply
use Rattle.sc_schema.specs.Courses.{GoesTo}
use Rattle.sc_script.specs.Limits.{most_sent}
use Rattle.sc_script.specs.Runs.{Running, Course, goes, stops, goes_on, limit, state_of, sent_size, with_step}
use Rattle.sc_script.specs.Runs.{all_sent_from, spelled, by_reply, stepped, turned_where, drained}
use Rattle.sc_script.specs.Runs.{stream_of, with_stream, read_where, with_next, all_read, without_stream, bytes_come}
use Rattle.sc_load.specs.Loads.{newer_packet}
use Rattle.load_laws.proofs.Costs.{rows_cost, actors_cost}
use Rattle.load_laws.proofs.Loaded.{IsLoaded, Pays, may_come, reply_size, packet_pays, turn_pays, arrival_pays}
use Rattle.load_laws.proofs.Opened.{IsOpen, IsDone, Does, packet_open, turn_open, arrives, may_come_in}
use Rattle.load_laws.proofs.Packets.{IsEvent}
use Rattle.load_laws.proofs.Framed.{IsSent, turn_next, nothing_next}

-- ---- what is sent in one step more

all_sent_more : (s : State) (es : List Step) (e : Step)
    → all_sent_from s (es ++ e ∷ []) ≡ all_sent_from s es ++ packet_in (step_of (run_from s es) e).reply
all_sent_more s [] e = append-nil (packet_in (step_of s e).reply)
all_sent_more s (f ∷ es) e =
    ap (λ ps. packet_in (step_of s f).reply ++ ps) (all_sent_more (step_of s f).state es e)
    ∙ sym (append_assoc (packet_in (step_of s f).reply) (all_sent_from (step_of s f).state es)
    (packet_in (step_of (run_from (step_of s f).state es) e).reply))

spelled_more : (ps qs : List Packet) → length (spelled (ps ++ qs)) ≡ length (spelled ps) + length (spelled qs)
spelled_more [] qs = omega arith
spelled_more (p ∷ ps) qs =
    let later = spelled_more ps qs in
    omega (
      arith,
      later,
      length-append (written (packet_value p)) (spelled (ps ++ qs)),
      length-append (written (packet_value p)) (spelled ps),
    )

reply_spelled : (r : Reply) → length (spelled (packet_in r)) ≡ reply_size r
reply_spelled (reply.Sent p) = ap (λ (bs : List ℕ). length bs) (append-nil (written (packet_value p)))
reply_spelled r = refl

sent_more : (e : Step) (r : Running)
    → sent_size (with_step e r) ≡ sent_size r + reply_size (step_of (state_of r) e).reply
sent_more e r =
    let answer : Reply = (step_of (state_of r) e).reply in
    ap (λ ps. length (spelled ps)) (all_sent_more (opening r.schema) r.steps e)
    ∙ spelled_more (all_sent_from (opening r.schema) r.steps) (packet_in answer)
    ∙ ap (λ m. sent_size r + m) (reply_spelled answer)

-- ---- numbers

no_more : (a : ℕ) → 100 * a + 200 ≤ 100 * a + 200
no_more a = omega arith

four_more : (a b : ℕ) → 100 * (a + 4 * b) + 200 ≤ 100 * a + (400 * b + 200)
four_more a b = omega arith

-- ---- runs

-- nothing of it is left to be read
abbrev pub IsRead : ℕ × StreamState → Type 0
IsRead e = e.1.rest ≡ []

nothing_left : (bs : List ℕ) → drop (length bs) bs ≡ []
nothing_left [] = refl
nothing_left (b ∷ bs) = nothing_left bs

module _ (start n : ℕ) (few : n ≤ 20000) where
  -- k connections have come, nothing but the load goes on, all that came is read, and what was sent and what may come
  -- take no more than c bytes
  pub record IsKept (k c : ℕ) (r : Running) : Type 0 where
    pub opened : IsOpen k (state_of r)
    pub loaded : IsLoaded start n few (state_of r)
    pub streams : AllByRecursion IsRead r.streams
    pub cost : sent_size r + 100 * may_come (state_of r) ≤ c

  abbrev pub Goes : ℕ → ℕ → Course → Type 0
  Goes k c course = GoesTo (IsKept k c) course

  pub on_kept : (k c m d : ℕ) (more : Running → Course) (course : Course) → Goes k c course
      → ((r : Running) → IsKept k c r → Goes m d (more r)) → Goes m d (goes_on more course)
  on_kept k c m d more (goes r) p later = later r p
  on_kept k c m d more (stops x) p later = absurd p

  pub more_kept : (k c d : ℕ) (r : Running) → c ≤ d → IsKept k c r → IsKept k d r
  more_kept k c d r less p = record {
    opened = p.opened;
    loaded = p.loaded;
    streams = p.streams;
    cost = let x = p.cost in omega (arith, x, less);
  }

  -- ---- a step

  module _ (k m c x z : ℕ) (e : Step) (r : Running) where
    with_step_kept : is_worn (state_of r) e ≡ false → Does m (done (state_of r) e)
        → Pays start n few x (done (state_of r) e) → 100 * x + 200 ≤ 100 * may_come (state_of r) + z → IsKept k c r
        → IsKept m (c + z) (with_step e r)
    with_step_kept unworn does pays less p =
        let s : State = state_of r in
        let same : step_of s e ≡ done s e = ap (λ b. cond b (unchanged s reply.Worn) (done s e)) unworn in
        let state : state_of (with_step e r) ≡ (done s e).state =
        replay-more r.schema r.steps e ∙ ap (λ (a : After). a.state) same in
        let size : sent_size (with_step e r) ≡ sent_size r + reply_size (done s e).reply =
        sent_more e r ∙ ap (λ (a : After). sent_size r + reply_size a.reply) same in
        let come : may_come (state_of (with_step e r)) ≡ may_come (done s e).state = ap may_come state in
        record {
          opened = subst (IsOpen m) (sym state) does.state;
          loaded = subst (IsLoaded start n few) (sym state) pays.loaded;
          streams = p.streams;
          cost = sums (sent_size r) (reply_size (done s e).reply) (may_come (done s e).state) (may_come s)
              (sent_size (with_step e r)) (may_come (state_of (with_step e r))) pays.cost less p.cost size come;
        }
      where
        sums : (a b d f g h : ℕ) → b + 100 * d ≤ 100 * x + 200 → 100 * x + 200 ≤ 100 * f + z → a + 100 * f ≤ c
            → g ≡ a + b → h ≡ d → g + 100 * h ≤ c + z
        sums a b d f g h one two three four five = omega (arith, one, two, three, four, five)

  -- whatever is replied, the run goes on
  reply_kept : (k c : ℕ) (answer : Reply) (r : Running) → IsDone answer → c ≤ most_sent → IsKept k c r
      → Goes k c (by_reply answer r)
  reply_kept k c reply.Worn r is few_sent p = absurd is
  reply_kept k c reply.Full r is few_sent p = absurd is
  reply_kept k c (reply.Sent q) r is few_sent p =
      let small : nat_lt most_sent (sent_size r) ≡ false = below (sent_size r) (may_come (state_of r)) p.cost in
      subst (λ b. Goes k c (cond b (stops (limit 4)) (goes r))) (sym small) p
    where
      below : (a b : ℕ) → a + 100 * b ≤ c → nat_lt most_sent a ≡ false
      below a b l = let m : a ≤ most_sent = omega (arith, l, few_sent) in grind (arith, nat_tests, m)
  reply_kept k c answer r is few_sent p = p

  step_kept : (k m c x z : ℕ) (e : Step) (r : Running) → is_worn (state_of r) e ≡ false → Does m (done (state_of r) e)
      → Pays start n few x (done (state_of r) e) → 100 * x + 200 ≤ 100 * may_come (state_of r) + z
      → c + z ≤ most_sent → IsKept k c r → Goes m (c + z) (stepped e r)
  step_kept k m c x z e r unworn does pays less most p =
      let s : State = state_of r in
      let same : step_of s e ≡ done s e = ap (λ b. cond b (unchanged s reply.Worn) (done s e)) unworn in
      let kept = with_step_kept k m c x z e r unworn does pays less p in
      subst (λ (a : After). Goes m (c + z) (by_reply a.reply (with_step e r))) (sym same)
      (reply_kept m (c + z) (done s e).reply (with_step e r) does.done most kept)

  -- the numbers aren't used up
  handles_left : (k c : ℕ) (r : Running) → c ≤ most_sent → IsKept k c r
      → nat_le worn_handle (state_of r).world.table.next ≡ false
  handles_left k c r most p =
      by (state_of r).world.table.next (sent_size r) (rows_cost (state_of r).world.table.rows)
      (actors_cost (state_of r).world.table.actors) p.cost
    where
      by : (next a rows actors : ℕ) → a + 100 * (next + rows + actors) ≤ c → nat_le worn_handle next ≡ false
      by next a rows actors l =
          let m : next < 2 ^ 62 = omega (arith, l, most) in grind (arith, nat_tests, m)

  -- ---- turns

  turned_kept : (k c : ℕ) (o : Option ℕ) (r : Running) → c + 200 ≤ most_sent → IsKept k c r
      → Goes k (c + 200) (turned_where o r)
  turned_kept k c None r most p = more_kept k c (c + 200) r (omega arith) p
  turned_kept k c (Some a) r most p =
      step_kept k k c (may_come (state_of r)) 200 (step.Turn a) r
      (handles_left k c r (omega (arith, most)) p) (turn_open k a (state_of r) p.opened)
      (turn_pays start n few a (state_of r) p.loaded) (no_more (may_come (state_of r))) most p

  pub drained_kept : (k c m : ℕ) (r : Running) → c + 200 * m ≤ most_sent → IsKept k c r
      → Goes k (c + 200 * m) (drained m r)
  drained_kept k c zero r most p = more_kept k c (c + 200 * 0) r (omega arith) p
  drained_kept k c (suc m) r most p =
      let same : c + 200 + 200 * m ≡ c + 200 * suc m = omega arith in
      subst (λ d. Goes k d (drained (suc m) r)) same
      (on_kept k (c + 200) k (c + 200 + 200 * m) (drained m) (turned_where (lowest (state_of r)) r)
      (turned_kept k c (lowest (state_of r)) r (omega (arith, most)) p)
      (λ t q. drained_kept k (c + 200) m t (omega (arith, most)) q))

  -- ---- arrivals

  pub arrived_kept : (k c : ℕ) (r : Running) → k < 32 → c + 200 ≤ most_sent → IsKept k c r
      → Goes (suc k) (c + 200) (stepped (step.Arrive 1) r)
  arrived_kept k c r room most p =
      let s : State = state_of r in
      let free = may_come_in k s room p.opened in
      let handles = handles_left k c r (omega (arith, most)) p in
      let many = p.opened.many in
      let numbers : nat_le worn_connections s.world.opened ≡ false = numbers_left s.world.opened many in
      let unworn : is_worn s (step.Arrive 1) ≡ false = rw (handles, numbers) refl in
      step_kept k (suc k) c (may_come s) 200 (step.Arrive 1) r unworn
      (subst (λ o. Does (suc k) (arrive_unless o 1 s)) (sym free) (arrives k s p.opened))
      (subst (λ o. Pays start n few (may_come s) (arrive_unless o 1 s)) (sym free)
      (arrival_pays start n few s p.loaded)) (no_more (may_come s)) most p
    where
      numbers_left : (o : ℕ) → k ≡ o → nat_le worn_connections o ≡ false
      numbers_left o same = let l : o < 2 ^ 31 = omega (arith, same, room) in grind (arith, nat_tests, l)

  -- ---- bytes

  -- what a connection's stream has left
  stream_read : (j : ℕ) (r : Running) → AllByRecursion IsRead r.streams → (stream_of j r).rest ≡ []
  stream_read j r all = by (entry_of j r.streams) refl
    where
      by : (o : Option StreamState) → entry_of j r.streams ≡ o → (unwrap_or o no_stream).rest ≡ []
      by None is = refl
      by (Some st) is = each_found IsRead j st r.streams all is

  put_back : (k c j : ℕ) (st : StreamState) (r : Running) → st.rest ≡ [] → IsKept k c r
      → IsKept k c (with_stream j st r)
  put_back k c j st r none p = record {
    opened = p.opened;
    loaded = p.loaded;
    streams = each_with IsRead j st r.streams none p.streams;
    cost = p.cost;
  }

  taken_out : (k c j : ℕ) (r : Running) → IsKept k c r → IsKept k c (without_stream j r)
  taken_out k c j r p = record {
    opened = p.opened;
    loaded = p.loaded;
    streams = each_without IsRead j r.streams p.streams;
    cost = p.cost;
  }

  module _ (one : OneNext) (N : Decider) (decides : Decides N) (j : ℕ) where
    -- nothing more is read
    rest_kept : (k c m : ℕ) (st : StreamState) (r : Running) → st.rest ≡ [] → IsKept k c r
        → Goes k c (all_read N j m st r)
    rest_kept k c zero st r none p = put_back k c j st r none p
    rest_kept k c (suc m) st r none p =
        let waits : N st.rest st.place ≡ next.Waits = ap (λ b. N b st.place) none ∙ nothing_next one N decides st.place in
        subst (λ y. Goes k c (with_next j y st (λ size. all_read N j m (read_off size st)) r)) (sym waits)
        (put_back k c j st r none p)

    where_kept : (k c m : ℕ) (st : StreamState) (r : Running) → st.rest ≡ [] → IsKept k c r
        → Goes k c (read_where j st (all_read N j m st) r)
    where_kept k c m st r none p = by (is_there j (state_of r)) (rest_kept k c m st r none p)
      where
        by : (there : Bool) → Goes k c (all_read N j m st r)
            → Goes k c (cond there (all_read N j m st r) (goes (with_stream j st r)))
        by true later = later
        by false later = put_back k c j st r none p

    -- one turn comes
    module _ (k c : ℕ) (es : List TurnEvent) (events : AllByRecursion (IsEvent start n few j) es)
        (sent : AllByRecursion IsSent es) (short : length (written (packet_value (newer_packet es))) ≤ 125002)
        (most : c + (400 * length es + 200) ≤ most_sent) where
      abbrev bytes : List ℕ
      bytes = written (packet_value (newer_packet es))

      abbrev turn : TurnRecord
      turn = spoken Newer es

      abbrev end : ℕ
      end = c + (400 * length es + 200)

      packet_kept : (r : Running) → IsKept k c r → Goes k end (stepped (step.Packet j turn) r)
      packet_kept r p =
          let s : State = state_of r in
          step_kept k k c (may_come s + 4 * length es) (400 * length es + 200) (step.Packet j turn) r
          (handles_left k c r (omega (arith, most)) p) (packet_open k j (ports_of j s) turn s refl p.opened)
          (packet_pays start n few j (ports_of j s) turn s refl events p.loaded) (four_more (may_come s) (length es))
          most p

      turn_read : (m place : ℕ) (r : Running) → IsKept k c r
          → Goes k end (all_read N j (suc m) (record { rest = bytes; place = place }) r)
      turn_read m place r p =
          let st : StreamState = record { rest = bytes; place = place } in
          let whole = turn_next one N decides es place sent (omega (arith, short)) in
          let left : StreamState = read_off (length bytes) st in
          subst (λ y. Goes k end (with_next j y st (λ size. all_read N j m (read_off size st)) r)) (sym whole)
          (on_kept k end k end (read_where j left (all_read N j m left)) (stepped (step.Packet j turn) r)
          (packet_kept r p) (λ t q. where_kept k end m left t (nothing_left bytes) q))

      pub bytes_kept : (r : Running) → IsKept k c r → Goes k end (bytes_come N j bytes r)
      bytes_kept r p = by (is_there j (state_of r))
        where
          st : StreamState
          st = stream_of j r

          is : with_bytes bytes st ≡ record { rest = bytes; place = st.place }
          is = λ i. record { rest = stream_read j r p.streams i ++ bytes; place = st.place }

          all : Goes k end (all_read N j (suc (length (with_bytes bytes st).rest)) (with_bytes bytes st)
              (without_stream j r))
          all =
              subst (λ (y : StreamState). Goes k end (all_read N j (suc (length y.rest)) y (without_stream j r))) (sym is)
              (turn_read (length bytes) st.place (without_stream j r) (taken_out k c j r p))

          by : (there : Bool)
              → Goes k end (cond there (all_read N j (suc (length (with_bytes bytes st).rest)) (with_bytes bytes st)
              (without_stream j r)) (goes r))
          by true = all
          by false = more_kept k c end r (omega arith) p
