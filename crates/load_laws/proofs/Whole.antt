-- The course of a load's script as a whole.
use Rattle.std.proofs.Common.{◌≡◌, ℕ, zero, suc, ◌+◌, ◌≤◌, inl, inr, List, [], ◌∷◌, ◌++◌, length, true, Option}
use Rattle.std.proofs.Common.{Some, None, refl, sym, subst, ap, ◌∙◌, arith, codes, length-append, append_assoc}
use Rattle.std.specs.Prelude.{IsSomeAnd}
use Rattle.pv_value.specs.Plain.{Plain}
use Rattle.pv_words.specs.Words.{labelled, number}
use Rattle.rl_stream.specs.Nexts.{Decider}
use Rattle.sc_events.specs.Events.{event_of}
use Rattle.sc_events.specs.declared.events.ScriptEvent.{ScriptEvent}
use Rattle.sc_events.specs.declared.events.ScriptEvent.TheVariants.{Bytes, Drain}
use Rattle.sc_events.specs.declared.inputs.Form.TheVariants.{Binary}
use Rattle.sc_schema.specs.Courses.{after_values, ended, course_of, IsCourseOfValues}
use Rattle.sc_schema.specs.Firsts.{text_in, first_text, IsVerdict}
use Rattle.sc_schema.specs.Lemmas.Courses.{in_parts, IsOneReading}
use Rattle.sc_load.specs.Limits.{most_items}
use Rattle.sc_load.specs.Loads.{observes, loads, all_turns, opens, load_events, load_bytes}
use Rattle.sc_script.specs.Runs.{Running, Cause, stops, state_of, beginning, doing}
use Rattle.load_laws.specs.LoadEvents.{connections_of, IsArrival, IsSending, WriteEvents}
use Rattle.load_laws.specs.Loads.{LoadsStopForLimits, LoadsStopForTwoLimits}
use Rattle.load_laws.proofs.Course.{IsFine, IsLate, on_fine, arrivals_fine, sendings_fine}
use Rattle.load_laws.proofs.LoadEvents.{loads_of_events}
use Rattle.load_laws.proofs.Opened.{IsOpen, open_first}
use Rattle.load_laws.proofs.Reading.{load_read}
use Rattle.load_laws.proofs.Sizes.{load_short}

-- ---- no schema

-- an event of a load gives no schema
no_text_sent : (k : ℕ) (o : Option ScriptEvent) → IsSomeAnd o (IsSending k) → text_in o ≡ None
no_text_sent k None is = absurd is
no_text_sent k (Some (Bytes j b)) is = refl
no_text_sent k (Some (Drain m)) is = refl
no_text_sent k (Some e) is = absurd is

no_text_come : (o : Option ScriptEvent) → IsSomeAnd o IsArrival → text_in o ≡ None
no_text_come None is = absurd is
no_text_come (Some e) is = ap (λ x. text_in (Some x)) is

-- neither a connection that comes nor what one sends gives a schema
pub no_text : (k : ℕ) (vs ws : List Plain) → WriteEvents IsArrival vs → WriteEvents (IsSending k) ws
    → first_text (vs ++ ws) ≡ None
no_text k [] [] come sent = refl
no_text k [] (w ∷ ws) come sent = no_text_sent k (event_of w) sent.0
no_text k (v ∷ vs) ws come sent = no_text_come (event_of v) come.0

-- ---- the values one behind another

-- as many values open connections as should come
one_longer : (vs : List Plain) (v : Plain) → length (vs ++ v ∷ []) ≡ suc (length vs)
one_longer vs v = omega (arith, length-append vs (v ∷ []))

pub opens_counted : (k : ℕ) → length (opens k) ≡ k
opens_counted zero = refl
opens_counted (suc k) = one_longer (opens k) (labelled (codes "open") (number 1 ∷ [])) ∙ ap suc (opens_counted k)

-- what stands behind the connections
abbrev pub sent_in : ℕ → ℕ → List Plain
sent_in start n = all_turns observes n ++ all_turns (loads start) n

-- they stand behind the connections
pub in_order : (start n : ℕ) → load_events start n ≡ opens (connections_of n) ++ sent_in start n
in_order start n = append_assoc (opens (connections_of n)) (all_turns observes n) (all_turns (loads start) n)

module _ (N : Decider) (k : ℕ) (ws : List Plain) (sent : WriteEvents (IsSending k) ws)
    (come : WriteEvents IsArrival (opens k)) (few : k ≤ 10) where
  -- first the connections come, and then they send
  parts_fine : (r : Running) → IsOpen 0 (state_of r) → IsFine k (after_values (doing N) 0 (opens k ++ ws) r)
  parts_fine r p =
      subst (IsFine k) (sym (in_parts (doing N) 0 (opens k) ws r))
      (on_fine k k (after_values (doing N) (0 + length (opens k)) ws) (after_values (doing N) 0 (opens k) r)
      (arrivals_fine N 0 k 0 (opens k) r (omega (arith, opens_counted k)) (omega (arith, few)) come p)
      (λ t q. sendings_fine N k (0 + length (opens k)) ws t sent q))

  -- from the beginning, without a schema
  whole_fine : IsFine k (course_of (doing N) (Some []) (opens k ++ ws) true)
  whole_fine =
      on_fine k k (ended (doing N) true (length (opens k ++ ws)))
      (after_values (doing N) 0 (opens k ++ ws) (beginning [])) (parts_fine (beginning []) (open_first []))
      (λ t q. q)

-- ---- the law

module _ (one : IsOneReading) (start n : ℕ) (few : n ≤ most_items) (N : Decider) (c : Cause) where
  -- what is read of the bytes is the load
  read_as_load : IsCourseOfValues (doing N) Binary (load_bytes start n) (stops c) → IsLate c
  read_as_load (vs, whole, read, o, verdict, is) =
      let l = loads_of_events start n few in
      let k : ℕ = connections_of n in
      let ws : List Plain = sent_in start n in
      let back = load_read start n few (load_short start n few) in
      let same = one Binary (load_bytes start n) vs (load_events start n) whole true read back in
      let parts : vs ≡ opens k ++ ws = same.0 ∙ in_order start n in
      let none : first_text (opens k ++ ws) ≡ None = no_text k (opens k) ws l.arrivals l.sendings in
      let without : o ≡ Some [] = subst (λ t. IsVerdict t o) (ap first_text parts ∙ none) verdict in
      let all : stops c ≡ course_of (doing N) (Some []) (opens k ++ ws) true =
      is ∙ (λ i. course_of (doing N) (without i) (parts i) (same.1 i)) in
      subst (IsFine k) (sym all) (whole_fine N k ws l.sendings l.arrivals l.few)

-- a load isn't too long
pub two_limits : IsOneReading → LoadsStopForTwoLimits
two_limits one start n few N c (inl long) =
    let short = load_short start n few in absurd (omega (arith, long.0, short))
two_limits one start n few N c (inr short) = read_as_load one start n few N c short.1

-- so a limit stops it, where anything does
pub limits_alone : IsOneReading → LoadsStopForLimits
limits_alone one start n few N c course = elim (two_limits one start n few N c course) [
  | inl sent ↦ (4, sent)
  | inr worn ↦ (5, worn)
]
