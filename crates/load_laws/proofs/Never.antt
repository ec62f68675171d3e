-- A load never stops: the run of all its values goes on, one turn and one drain behind another.
use Rattle.std.proofs.Common.{◌≡◌, ℕ, zero, suc, ◌+◌, ◌*◌, ◌-◌, ◌^◌, ◌<◌, ◌≤◌, inl, inr, List, [], ◌∷◌, ◌++◌}
use Rattle.std.proofs.Common.{length, min, true, Option, Some, None, refl, sym, subst, ap, ◌∙◌, arith, codes, cond}
use Rattle.std.specs.Prelude.{IsSomeAnd}
use Rattle.std.specs.List.{AllByRecursion}
use Rattle.pv_value.specs.Plain.{Plain}
use Rattle.pv_words.specs.Words.{labelled, number}
use Rattle.pv_binary.specs.Written.{written}
use Rattle.rl_packet.specs.Packets.{packet_value}
use Rattle.rl_packet.specs.declared.packets.TurnEvent.{TurnEvent}
use Rattle.rl_stream.specs.Nexts.{OneNext, Decider, Decides}
use Rattle.sc_events.specs.Events.{event_of}
use Rattle.sc_events.specs.declared.events.ScriptEvent.{ScriptEvent}
use Rattle.sc_events.specs.declared.events.ScriptEvent.TheVariants.{Bytes, Drain}
use Rattle.sc_events.specs.declared.inputs.Form.TheVariants.{Binary}
use Rattle.sc_schema.specs.Courses.{after_value, after_values, ended, course_of, IsCourseOfValues}
use Rattle.sc_schema.specs.Firsts.{first_text, IsVerdict}
use Rattle.sc_schema.specs.Lemmas.Courses.{in_parts, IsOneReading}
use Rattle.sc_load.specs.Loads.{rounded_up, observes, loads, newer_packet, bytes_event, sent_by, events_of}
use Rattle.sc_load.specs.Loads.{connection_of, turn_of, turns_of, all_turns, opens, load_events, load_bytes}
use Rattle.sc_script.specs.Limits.{most_sent}
use Rattle.sc_script.specs.Runs.{Running, Cause, Course, goes, stops, bad, beginning, doing, after_event, bytes_come}
use Rattle.load_laws.specs.LoadEvents.{connections_of, IsArrival, WriteEvents}
use Rattle.load_laws.specs.Loads.{LoadsNeverStop}
use Rattle.load_laws.proofs.Course.{opened_once}
use Rattle.load_laws.proofs.LoadEvents.{loads_of_events, bytes_written, begins, own_turn, few_connections}
use Rattle.load_laws.proofs.Loaded.{loaded_first, first_cost}
use Rattle.load_laws.proofs.Opened.{open_first}
use Rattle.load_laws.proofs.Packets.{IsEvent}
use Rattle.load_laws.proofs.Reading.{load_read}
use Rattle.load_laws.proofs.Framed.{IsSent, observes_sent, loads_sent}
use Rattle.load_laws.proofs.Runs.{IsKept, Goes, on_kept, more_kept, drained_kept, arrived_kept, bytes_kept}
use Rattle.load_laws.proofs.Sizes.{AreShort, events_all, events_count, packet_of_turn, observes_short, loads_short}
use Rattle.load_laws.proofs.Sizes.{few_turns, load_short}
use Rattle.load_laws.proofs.Whole.{no_text, in_order, opens_counted, sent_in}

-- ---- what each value writes

-- the bytes of a turn that connection j sends
abbrev IsTurnOf : ℕ → List TurnEvent → ScriptEvent → Type 0
IsTurnOf j es e = e ≡ Bytes j (written (packet_value (newer_packet es)))

-- a drain of 10,000 turns at most
abbrev IsDrain : ScriptEvent → Type 0
IsDrain e = (m : ℕ) × (m ≤ 10000) × (e ≡ Drain m)

-- the items of turn t are of one connection
one_connection : (t i : ℕ) → 500 * t ≤ i → i < 500 * t + 500 → connection_of i ≡ connection_of (500 * t)
one_connection t i low high = omega (arith, low, high)

-- and each is there
item_there : (n t i : ℕ) → 500 * t < n → i < 500 * t + min 500 (n - 500 * t) → i < n
item_there n t i low below = omega (arith, low, below)

item_near : (n t i : ℕ) → i < 500 * t + min 500 (n - 500 * t) → i < 500 * t + 500
item_near n t i below = omega (arith, below)

few_items : (n t : ℕ) → min 500 (n - 500 * t) ≤ 500
few_items n t = omega arith

positive : (i : ℕ) → 1 ≤ connection_of i
positive i = omega arith

-- either kind of events: each is one of its item, may be sent, and is short
record AreKind (start n : ℕ) (few : n ≤ 20000) (event : ℕ → TurnEvent) : Type 0 where
  pub own : (j i : ℕ) → i < n → connection_of i ≡ j → IsEvent start n few j (event i)
  pub sent : (i : ℕ) → i < n → IsSent (event i)
  pub short : AreShort event

module _ (start n : ℕ) (few : n ≤ 20000) (one : OneNext) (N : Decider) (decides : Decides N) where
  -- ---- one value

  drain_kept : (k c d m : ℕ) (o : Option ScriptEvent) (r : Running) → c + 2000000 ≡ d → d ≤ most_sent
      → IsSomeAnd o IsDrain → IsKept start n few k c r → Goes start n few k d (after_value (doing N) m o r)
  drain_kept k c d m None r less most is p = absurd is
  drain_kept k c d m (Some e) r less most (turns, low, is) p =
      let f : ℕ = d - 200 * turns in
      let same : f + 200 * turns ≡ d = omega (arith, low, less) in
      let all = drained_kept start n few k f turns r (omega (arith, same, most))
      (more_kept start n few k c f r (omega (arith, low, less)) p) in
      subst (λ x. Goes start n few k d (after_event N m x r)) (sym is)
      (subst (λ b. Goes start n few k b (after_event N m (Drain turns) r)) same all)

  turn_kept : (k c j m : ℕ) (es : List TurnEvent) (o : Option ScriptEvent) (r : Running) → 1 ≤ j → j ≤ k
      → AllByRecursion (IsEvent start n few j) es → AllByRecursion IsSent es
      → length (written (packet_value (newer_packet es))) ≤ 125002 → length es ≤ 500 → c + 200200 ≤ most_sent
      → IsSomeAnd o (IsTurnOf j es) → IsKept start n few k c r
      → Goes start n few k (c + 200200) (after_value (doing N) m o r)
  turn_kept k c j m es None r some own events sent short count most is p = absurd is
  turn_kept k c j m es (Some e) r some own events sent short count most is p =
      let b : List ℕ = written (packet_value (newer_packet es)) in
      let less : c + (400 * length es + 200) ≤ c + 200200 = omega (arith, count) in
      let all = bytes_kept start n few one N decides j k c es events sent short (omega (arith, less, most)) r p in
      subst (λ x. Goes start n few k (c + 200200) (after_event N m x r)) (sym is)
      (subst (λ t. Goes start n few k (c + 200200) (cond t (bytes_come N j b r) (stops (bad m))))
      (sym (opened_once k j r some own p.opened))
      (weaker k (c + (400 * length es + 200)) (c + 200200) less (bytes_come N j b r) all))
    where
      weaker : (k c d : ℕ) → c ≤ d → (course : Course) → Goes start n few k c course → Goes start n few k d course
      weaker k c d less (goes r) q = more_kept start n few k c d r less q
      weaker k c d less (stops x) q = absurd q

  -- ---- one turn, and the drain behind it

  pair_kept : (k c m j : ℕ) (es : List TurnEvent) (r : Running) → 1 ≤ j → j ≤ k → k ≤ 10
      → AllByRecursion (IsEvent start n few j) es → AllByRecursion IsSent es
      → length (written (packet_value (newer_packet es))) ≤ 125002 → length es ≤ 500 → c + 2200200 ≤ most_sent
      → IsKept start n few k c r → Goes start n few k (c + 2200200) (after_values (doing N) m (sent_by j es) r)
  pair_kept k c m j es r some own low events sent short count most p =
      let drain : Plain = labelled (codes "drain") (number 10000 ∷ []) in
      on_kept start n few k (c + 200200) k (c + 2200200) (after_values (doing N) (m + 1) (drain ∷ []))
      (after_value (doing N) m (event_of (bytes_event j es)) r)
      (turn_kept k c j m es (event_of (bytes_event j es)) r some own events sent short count (first most)
      (subst (λ o. IsSomeAnd o (IsTurnOf j es)) (sym (bytes_written j es (small own low))) refl) p)
      (λ t q. on_kept start n few k (c + 2200200) k (c + 2200200) (after_values (doing N) (m + 1 + 1) [])
      (after_value (doing N) (m + 1) (event_of drain) t)
      (drain_kept k (c + 200200) (c + 2200200) (m + 1) (event_of drain) t (second c) most (10000, ten, refl) q)
      (λ u v. v))
    where
      first : c + 2200200 ≤ most_sent → c + 200200 ≤ most_sent
      first l = omega (arith, l)

      second : (a : ℕ) → a + 200200 + 2000000 ≡ a + 2200200
      second a = omega arith

      ten : 10000 ≤ 10000
      ten = omega arith

      small : j ≤ k → k ≤ 10 → j < 2 ^ 32
      small l h = omega (arith, l, h)

  -- ---- all turns of either kind

  module _ (event : ℕ → TurnEvent) (kind : AreKind start n few event) (k : ℕ) (are : k ≡ connections_of n) (low : k ≤ 10)
    where
      one_turn_kept : (c m t : ℕ) (r : Running) → t < rounded_up n 500 → c + 2200200 ≤ most_sent
          → IsKept start n few k c r → Goes start n few k (c + 2200200) (after_values (doing N) m (turn_of event n t) r)
      one_turn_kept c m t r there most p =
          pair_kept k c m (connection_of (500 * t)) (events_of event (500 * t) (min 500 (n - 500 * t))) r
          (positive (500 * t)) (subst (λ x. connection_of (500 * t) ≤ x) (sym are) (own_turn n t there)) low
          (events_all (IsEvent start n few (connection_of (500 * t))) event (500 * t) (min 500 (n - 500 * t))
          (λ i above below. kind.own (connection_of (500 * t)) i (item_there n t i (begins n t there) below)
          (one_connection t i above (item_near n t i below))))
          (events_all IsSent event (500 * t) (min 500 (n - 500 * t))
          (λ i above below. kind.sent i (item_there n t i (begins n t there) below)))
          (packet_of_turn event (500 * t) (min 500 (n - 500 * t)) kind.short (few_items n t))
          (subst (λ x. x ≤ 500) (sym (events_count event (500 * t) (min 500 (n - 500 * t)))) (few_items n t)) most p

      turns_kept : (c m t : ℕ) (r : Running) → t ≤ rounded_up n 500 → c + 2200200 * t ≤ most_sent
          → IsKept start n few k c r
          → Goes start n few k (c + 2200200 * t) (after_values (doing N) m (turns_of event n t) r)
      turns_kept c m zero r there most p = more_kept start n few k c (c + 2200200 * 0) r (omega arith) p
      turns_kept c m (suc t) r there most p =
          let b : ℕ = c + 2200200 * t in
          let same : b + 2200200 ≡ c + 2200200 * suc t = omega arith in
          let first = turns_kept c m t r (omega (arith, there)) (omega (arith, most)) p in
          subst (λ d. Goes start n few k d (after_values (doing N) m (turns_of event n (suc t)) r)) same
          (subst (Goes start n few k (b + 2200200))
          (sym (in_parts (doing N) m (turns_of event n t) (turn_of event n t) r))
          (on_kept start n few k b k (b + 2200200)
          (after_values (doing N) (m + length (turns_of event n t)) (turn_of event n t))
          (after_values (doing N) m (turns_of event n t) r) first
          (λ u q. one_turn_kept b (m + length (turns_of event n t)) t u (omega (arith, there)) (omega (arith, most)) q)))

  -- ---- arrivals

  arrivals_kept : (k c m i : ℕ) (vs : List Plain) (r : Running) → m ≡ k + length vs → m ≤ 10
      → c + 200 * length vs ≤ most_sent → WriteEvents IsArrival vs → IsKept start n few k c r
      → Goes start n few m (c + 200 * length vs) (after_values (doing N) i vs r)
  arrivals_kept k c m i [] r counted low most all p =
      let same : k ≡ m = omega (arith, counted) in
      subst (λ x. IsKept start n few x (c + 200 * 0) r) same (more_kept start n few k c (c + 200 * 0) r (omega arith) p)
  arrivals_kept k c m i (v ∷ vs) r counted low most all p =
      let same : c + 200 + 200 * length vs ≡ c + 200 * length (v ∷ vs) = omega arith in
      subst (λ d. Goes start n few m d (after_values (doing N) i (v ∷ vs) r)) same
      (on_kept start n few (suc k) (c + 200) m (c + 200 + 200 * length vs) (after_values (doing N) (i + 1) vs)
      (after_value (doing N) i (event_of v) r)
      (arrival_kept k c i (event_of v) r (omega (arith, counted, low)) (omega (arith, most)) all.0 p)
      (λ t q. arrivals_kept (suc k) (c + 200) m (i + 1) vs t (omega (arith, counted)) low (omega (arith, most)) all.1 q))
    where
      arrival_kept : (k c i : ℕ) (o : Option ScriptEvent) (r : Running) → k < 32 → c + 200 ≤ most_sent
          → IsSomeAnd o IsArrival → IsKept start n few k c r
          → Goes start n few (suc k) (c + 200) (after_value (doing N) i o r)
      arrival_kept k c i None r room most is p = absurd is
      arrival_kept k c i (Some e) r room most is p =
          subst (λ x. Goes start n few (suc k) (c + 200) (after_event N i x r)) (sym is)
          (arrived_kept start n few k c r room most p)

-- ---- the law

observes_kind : (start n : ℕ) (few : n ≤ 20000) → AreKind start n few observes
observes_kind start n few = record {
  own = λ j i low own. (i, low, own, inl refl);
  sent = λ i low. observes_sent i (omega (arith, low, few));
  short = observes_short;
}

loads_kind : (start n : ℕ) (few : n ≤ 20000) → AreKind start n few (loads start)
loads_kind start n few = record {
  own = λ j i low own. (i, low, own, inr refl);
  sent = λ i low. loads_sent start i (omega (arith, low, few));
  short = loads_short start;
}

module _ (one : OneNext) (start n : ℕ) (few : n ≤ 20000) (N : Decider) (decides : Decides N) where
  abbrev k : ℕ
  k = connections_of n

  abbrev t : ℕ
  t = rounded_up n 500

  abbrev first_end : ℕ
  first_end = 100 + 200 * length (opens k)

  abbrev second_end : ℕ
  second_end = first_end + 2200200 * t

  abbrev last_end : ℕ
  last_end = second_end + 2200200 * t

  ends_low : length (opens k) ≤ 10 → t ≤ 40 → last_end ≤ most_sent
  ends_low connections turns = omega (arith, connections, turns)

  few_opens : length (opens k) ≤ 10
  few_opens = subst (λ x. x ≤ 10) (sym (opens_counted k)) (few_connections n few)

  first_kept : IsKept start n few 0 100 (beginning [])
  first_kept = record {
    opened = open_first [];
    loaded = loaded_first start n few [];
    streams = tt;
    cost = omega (arith, first_cost start n few []);
  }

  sent_kept : (m : ℕ) (r : Running) → IsKept start n few k first_end r
      → Goes start n few k last_end (after_values (doing N) m (sent_in start n) r)
  sent_kept m r p =
      let turns = few_turns n few in
      let most = ends_low few_opens turns in
      let low = few_connections n few in
      subst (Goes start n few k last_end)
      (sym (in_parts (doing N) m (all_turns observes n) (all_turns (loads start) n) r))
      (on_kept start n few k second_end k last_end
      (after_values (doing N) (m + length (all_turns observes n)) (all_turns (loads start) n))
      (after_values (doing N) m (all_turns observes n) r)
      (turns_kept start n few one N decides observes (observes_kind start n few) k refl low first_end m t r (same t)
      (omega (arith, most)) p)
      (λ u q. turns_kept start n few one N decides (loads start) (loads_kind start n few) k refl low second_end
      (m + length (all_turns observes n)) t u (same t) most q))
    where
      same : (x : ℕ) → x ≤ x
      same x = omega arith

  all_kept : Goes start n few k last_end (course_of (doing N) (Some []) (opens k ++ sent_in start n) true)
  all_kept =
      let l = loads_of_events start n few in
      let most = ends_low few_opens (few_turns n few) in
      on_kept start n few k last_end k last_end (ended (doing N) true (length (opens k ++ sent_in start n)))
      (after_values (doing N) 0 (opens k ++ sent_in start n) (beginning []))
      (subst (Goes start n few k last_end) (sym (in_parts (doing N) 0 (opens k) (sent_in start n) (beginning [])))
      (on_kept start n few k first_end k last_end (after_values (doing N) (0 + length (opens k)) (sent_in start n))
      (after_values (doing N) 0 (opens k) (beginning []))
      (arrivals_kept start n few one N decides 0 100 k 0 (opens k) (beginning []) (counted (opens_counted k)) l.few
      (omega (arith, most)) l.arrivals first_kept)
      (λ r q. sent_kept (0 + length (opens k)) r q)))
      (λ r q. q)
    where
      counted : length (opens k) ≡ k → k ≡ 0 + length (opens k)
      counted is = omega (arith, is)

  never_read : IsOneReading → (c : Cause) → IsCourseOfValues (doing N) Binary (load_bytes start n) (stops c) → ⊥
  never_read reading c (vs, whole, read, o, verdict, is) =
      let l = loads_of_events start n few in
      let back = load_read start n few (load_short start n few) in
      let same = reading Binary (load_bytes start n) vs (load_events start n) whole true read back in
      let parts : vs ≡ opens k ++ sent_in start n = same.0 ∙ in_order start n in
      let none : first_text (opens k ++ sent_in start n) ≡ None =
      no_text k (opens k) (sent_in start n) l.arrivals l.sendings
      in
      let without : o ≡ Some [] = subst (λ x. IsVerdict x o) (ap first_text parts ∙ none) verdict in
      let all : stops c ≡ course_of (doing N) (Some []) (opens k ++ sent_in start n) true =
      is ∙ (λ i. course_of (doing N) (without i) (parts i) (same.1 i)) in
      subst (Goes start n few k last_end) (sym all) all_kept

pub never_stop : OneNext → IsOneReading → LoadsNeverStop
never_stop one reading start n few N decides c (inl long) =
    let short = load_short start n few in absurd (omega (arith, long.0, short))
never_stop one reading start n few N decides c (inr short) = never_read one start n few N decides reading c short.1
