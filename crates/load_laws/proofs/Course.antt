-- A course over the events of a load: as many connections come as should, and then what they send is no bad event; where
-- it stops, the numbers are used up, or too much is sent.
use Rattle.std.proofs.Common.{◌≡◌, ℕ, zero, suc, ◌+◌, ◌≤◌, inl, inr, List, [], ◌∷◌, length, Bool, true, false, cond}
use Rattle.std.proofs.Common.{◌<◌, ◌⊎◌, ◌&&◌, nat_le, nat_lt, Option, Some, None, refl, sym, subst, ap, ◌∙◌, arith}
use Rattle.std.proofs.lemmas.Bool.Decides.{nat_tests}
use Rattle.std.specs.Prelude.{IsSomeAnd}
use Rattle.pv_value.specs.Plain.{Plain}
use Rattle.rl_packet.specs.declared.packets.Packet.{Packet}
use Rattle.rl_packet.specs.declared.packets.Packet.TheVariants as packet
use Rattle.rl_stream.specs.declared.nexts.Next.{Next}
use Rattle.rl_stream.specs.declared.nexts.Next.TheVariants as next
use Rattle.rl_stream.specs.Nexts.{Decider}
use Rattle.rl_stream.specs.Streams.{StreamState, with_bytes, read_off}
use Rattle.hub_machine.specs.declared.faults.Fault.TheVariants as fault
use Rattle.hub_machine.specs.State.{is_there}
use Rattle.hub_machine.specs.Machine.{step as step_of}
use Rattle.hub_machine.specs.Replays.{lowest}
use Rattle.hub_machine.specs.Lemmas.ReplayLaws.{replay-more}
use Rattle.hub_machine.specs.declared.steps.Step.{Step}
use Rattle.hub_machine.specs.declared.steps.Step.TheVariants as step
use Rattle.hub_machine.specs.declared.steps.Reply.{Reply}
use Rattle.hub_machine.specs.declared.steps.Reply.TheVariants as reply
use Rattle.sc_events.specs.Events.{event_of}
use Rattle.sc_events.specs.declared.events.ScriptEvent.{ScriptEvent}
use Rattle.sc_events.specs.declared.events.ScriptEvent.TheVariants.{Bytes, Drain}
use Rattle.sc_schema.specs.Courses.{after_value, after_values}
use Rattle.sc_script.specs.Limits.{most_sent}
use Rattle.sc_script.specs.Runs.{Running, Cause, Course, goes, stops, goes_on, bad, limit, state_of, sent_size}
use Rattle.sc_script.specs.Runs.{with_step}
use Rattle.sc_script.specs.Runs.{unless_too_much, by_reply, stepped, turned_where, drained, stream_of, with_stream}
use Rattle.sc_script.specs.Runs.{read_where, with_packet, with_no_packet, with_next, all_read, without_stream}
use Rattle.sc_script.specs.Runs.{bytes_come, was_opened, after_event, doing}
use Rattle.load_laws.specs.LoadEvents.{IsArrival, IsSending, WriteEvents}
use Rattle.load_laws.proofs.Opened.{IsOpen, HasRoom, KeepsOpen, come, packet_keeps, bad_keeps, close_keeps}
use Rattle.load_laws.proofs.Opened.{turn_keeps}

-- too much is sent, or the numbers are used up
abbrev pub IsLate : Cause → Type 0
IsLate c = (c ≡ limit 4) ⊎ (c ≡ limit 5)

-- it goes to where k connections have come, or one of these stops it
abbrev pub IsFine : ℕ → Course → Type 0
IsFine k (goes r) = IsOpen k (state_of r)
IsFine k (stops c) = IsLate c

-- where a first part is fine, so is the whole that goes on with a later one
pub on_fine : (k m : ℕ) (more : Running → Course) (c : Course) → IsFine k c
    → ((r : Running) → IsOpen k (state_of r) → IsFine m (more r)) → IsFine m (goes_on more c)
on_fine k m more (goes r) p later = later r p
on_fine k m more (stops c) p later = p

-- ---- steps

module _ (k : ℕ) where
  -- too much is sent, or the course goes on
  much_fine : (r : Running) → IsOpen k (state_of r) → IsFine k (unless_too_much r)
  much_fine r p = by (nat_lt most_sent (sent_size r))
    where
      by : (much : Bool) → IsFine k (cond much (stops (limit 4)) (goes r))
      by true = inl refl
      by false = p

  -- whatever a step replies, only one of the two stops the course
  reply_fine : (answer : Reply) (r : Running) → HasRoom answer → IsOpen k (state_of r) → IsFine k (by_reply answer r)
  reply_fine reply.Worn r room p = inr refl
  reply_fine reply.Full r room p = absurd room
  reply_fine (reply.Sent q) r room p = much_fine r p
  reply_fine answer r room p = p

  -- the state behind one more step
  step_made : (e : Step) (r : Running) → IsOpen k (step_of (state_of r) e).state → IsOpen k (state_of (with_step e r))
  step_made e r p = subst (IsOpen k) (sym (replay-more r.schema r.steps e)) p

  stepped_fine : (e : Step) (r : Running) → KeepsOpen k e → IsOpen k (state_of r) → IsFine k (stepped e r)
  stepped_fine e r keeps p =
      let stays = keeps (state_of r) p in
      reply_fine (step_of (state_of r) e).reply (with_step e r) stays.room (step_made e r stays.state)

  -- so it is with a turn, and with many
  turned_fine : (o : Option ℕ) (r : Running) → IsOpen k (state_of r) → IsFine k (turned_where o r)
  turned_fine None r p = p
  turned_fine (Some a) r p = stepped_fine (step.Turn a) r (turn_keeps k a) p

  drained_fine : (m : ℕ) (r : Running) → IsOpen k (state_of r) → IsFine k (drained m r)
  drained_fine zero r p = p
  drained_fine (suc m) r p =
      on_fine k k (drained m) (turned_where (lowest (state_of r)) r) (turned_fine (lowest (state_of r)) r p)
      (λ t q. drained_fine m t q)

  -- ---- bytes of connection j

  module _ (j : ℕ) where
    -- more is read where the connection is still there
    where_fine : (st : StreamState) (more : Running → Course) (r : Running) → IsOpen k (state_of r)
        → ((t : Running) → IsOpen k (state_of t) → IsFine k (more t)) → IsFine k (read_where j st more r)
    where_fine st more r p later = by (is_there j (state_of r))
      where
        by : (there : Bool) → IsFine k (cond there (more r) (goes (with_stream j st r)))
        by true = later r p
        by false = p

    -- a packet, what is none, and what is next of either kind
    packet_fine : (p : Packet) (st : StreamState) (more : Running → Course) (r : Running) → IsOpen k (state_of r)
        → ((t : Running) → IsOpen k (state_of t) → IsFine k (more t)) → IsFine k (with_packet j p st more r)
    packet_fine (packet.Turn t) st more r o later =
        on_fine k k (read_where j st more) (stepped (step.Packet j t) r)
        (stepped_fine (step.Packet j t) r (packet_keeps k j t) o) (λ u q. where_fine st more u q later)
    packet_fine (packet.Error message detail) st more r o later =
        stepped_fine (step.Close j) (with_stream j st r) (close_keeps k j) o
    packet_fine packet.Nop st more r o later = later r o
    packet_fine (packet.Extension v) st more r o later = later r o

    none_fine : (x : Next) (st : StreamState) (r : Running) → IsOpen k (state_of r) → IsFine k (with_no_packet j x st r)
    none_fine (next.BadBytes number place) st r p =
        stepped_fine (step.Bad j (fault.BadBytes number place)) (with_stream j st r)
        (bad_keeps k j (fault.BadBytes number place)) p
    none_fine next.BadPacket st r p =
        stepped_fine (step.Bad j fault.BadPacket) (with_stream j st r) (bad_keeps k j fault.BadPacket) p
    none_fine other st r p = p

    next_fine : (x : Next) (st : StreamState) (more : ℕ → Running → Course) (r : Running) → IsOpen k (state_of r)
        → ((size : ℕ) (t : Running) → IsOpen k (state_of t) → IsFine k (more size t))
        → IsFine k (with_next j x st more r)
    next_fine (next.Whole p size) st more r o later =
        packet_fine p (read_off size st) (more size) r o (λ t q. later size t q)
    next_fine other st more r o later = none_fine other st r o

    module _ (N : Decider) where
      -- all that is read, and the bytes that come
      read_fine : (m : ℕ) (st : StreamState) (r : Running) → IsOpen k (state_of r) → IsFine k (all_read N j m st r)
      read_fine zero st r p = p
      read_fine (suc m) st r p =
          next_fine (N st.rest st.place) st (λ size. all_read N j m (read_off size st)) r p
          (λ size t q. read_fine m (read_off size st) t q)

      come_fine : (b : List ℕ) (r : Running) → IsOpen k (state_of r) → IsFine k (bytes_come N j b r)
      come_fine b r p = by (is_there j (state_of r))
        where
          st : StreamState
          st = with_bytes b (stream_of j r)

          by : (there : Bool)
              → IsFine k (cond there (all_read N j (suc (length st.rest)) st (without_stream j r)) (goes r))
          by true = read_fine (suc (length st.rest)) st (without_stream j r) p
          by false = p

-- ---- events

both_true : (a b : Bool) → a ≡ true → b ≡ true → (a && b) ≡ true
both_true a b first second = ap (λ c. c && b) first ∙ second

-- whose number is no greater than that of those that have come was opened
pub opened_once : (k j : ℕ) (r : Running) → 1 ≤ j → j ≤ k → IsOpen k (state_of r) → was_opened j r ≡ true
opened_once k j r some own p =
    let many = p.many in
    let come : j ≤ (state_of r).world.opened = omega (arith, many, own) in
    let first : nat_le 1 j ≡ true = grind (arith, nat_tests, some) in
    let second : nat_le j (state_of r).world.opened ≡ true = grind (arith, nat_tests, come) in
    both_true (nat_le 1 j) (nat_le j (state_of r).world.opened) first second

-- one more connection comes, or the numbers are used up
arrived_fine : (k : ℕ) (r : Running) → k < 32 → IsOpen k (state_of r) → IsFine (suc k) (stepped (step.Arrive 1) r)
arrived_fine k r room p = elim (come k (state_of r) room p) [
  | inl worn ↦ subst (λ a. IsFine (suc k) (by_reply a (with_step (step.Arrive 1) r))) (sym worn) (inr refl)
  | inr more ↦
      reply_fine (suc k) (step_of (state_of r) (step.Arrive 1)).reply (with_step (step.Arrive 1) r) more.room
      (step_made (suc k) (step.Arrive 1) r more.state)
]

module _ (N : Decider) where
  -- a value that opens a connection
  arrival_fine : (k n : ℕ) (o : Option ScriptEvent) (r : Running) → k < 32 → IsSomeAnd o IsArrival
      → IsOpen k (state_of r) → IsFine (suc k) (after_value (doing N) n o r)
  arrival_fine k n None r room is p = absurd is
  arrival_fine k n (Some e) r room is p =
      subst (λ x. IsFine (suc k) (after_event N n x r)) (sym is) (arrived_fine k r room p)

  -- an event that one of k connections sends, or a drain
  sending_fine : (k n : ℕ) (e : ScriptEvent) (r : Running) → IsSending k e → IsOpen k (state_of r)
      → IsFine k (after_event N n e r)
  sending_fine k n (Bytes j b) r is p =
      subst (λ c. IsFine k (cond c (bytes_come N j b r) (stops (bad n)))) (sym (opened_once k j r is.0 is.1 p))
      (come_fine k j N b r p)
  sending_fine k n (Drain m) r is p = drained_fine k m r p
  sending_fine k n e r is p = absurd is

  sending_value : (k n : ℕ) (o : Option ScriptEvent) (r : Running) → IsSomeAnd o (IsSending k) → IsOpen k (state_of r)
      → IsFine k (after_value (doing N) n o r)
  sending_value k n None r is p = absurd is
  sending_value k n (Some e) r is p = sending_fine k n e r is p

  -- ---- values

  -- as many connections come as there are values
  pub arrivals_fine : (k m n : ℕ) (vs : List Plain) (r : Running) → m ≡ k + length vs → m ≤ 32
      → WriteEvents IsArrival vs → IsOpen k (state_of r) → IsFine m (after_values (doing N) n vs r)
  arrivals_fine k m n [] r counted few all p =
      let same : k ≡ m = omega (arith, counted) in subst (λ j. IsOpen j (state_of r)) same p
  arrivals_fine k m n (v ∷ vs) r counted few all p =
      on_fine (suc k) m (after_values (doing N) (n + 1) vs) (after_value (doing N) n (event_of v) r)
      (arrival_fine k n (event_of v) r (omega (arith, counted, few)) all.0 p)
      (λ t q. arrivals_fine (suc k) m (n + 1) vs t (omega (arith, counted)) few all.1 q)

  -- and behind them what they send
  pub sendings_fine : (k n : ℕ) (vs : List Plain) (r : Running) → WriteEvents (IsSending k) vs → IsOpen k (state_of r)
      → IsFine k (after_values (doing N) n vs r)
  sendings_fine k n [] r all p = p
  sendings_fine k n (v ∷ vs) r all p =
      on_fine k k (after_values (doing N) (n + 1) vs) (after_value (doing N) n (event_of v) r)
      (sending_value k n (event_of v) r all.0 p) (λ t q. sendings_fine k (n + 1) vs t all.1 q)
