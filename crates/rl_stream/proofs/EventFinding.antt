-- The event that a value is in a dialect, at an object or by itself, and the events of a turn, where there are any.
use Rattle.std.proofs.Common.{◌≡◌, ℕ, pos, ◌<◌, ◌^◌, true, nat_lt, List, [], ◌∷◌, map, Option, Some, None}
use Rattle.std.proofs.Common.{is_some, refl, ap, ◌∙◌, arith}
use Rattle.std.specs.List.{AllByRecursion}
use Rattle.std.specs.Str.{bytes_eq}
use Rattle.std.proofs.lemmas.Bool.Decides.{nat_tests}
use Rattle.std.proofs.lemmas.Slice.Eq.{bytes_eq-Decides}
use Rattle.pv_value.specs.Plain.{Plain, integer, symbol, record_of, sequence, plains, Plains, no_more, then_more}
use Rattle.pv_words.specs.Words.{number}
use Rattle.rl_packet.specs.declared.packets.Dialect.{Dialect}
use Rattle.rl_packet.specs.declared.packets.Event.{Event}
use Rattle.rl_packet.specs.declared.packets.Event.TheVariants.{Assert, Retract, Message, Sync}
use Rattle.rl_packet.specs.declared.packets.TurnEvent.{TurnEvent}
use Rattle.rl_packet.specs.Packets.{assert_word, retract_word, message_word, sync_word, event_value, aimed_value}
use Rattle.rl_packet.specs.Grammar.{is_wired, is_peer, IsEvent, IsTurnEvent, IsTurnEventOf, IsEventOf}
use Rattle.rl_stream.proofs.Finding.{when, when_some, then_find, then_some, or_find, first_some, second_some}

-- ---- numbers

abbrev IsNumber : Plain → ℕ → Type 0
IsNumber v n = (v ≡ number n) × (n < 2 ^ 63)

pub is_small : (n : ℕ) → nat_lt n (2 ^ 63) ≡ true → n < 2 ^ 63
is_small n p = grind (arith, nat_tests, p)

abbrev number_of : (v : Plain) → Option ((n : ℕ) × IsNumber v n)
number_of (integer (pos n)) = when (nat_lt n (2 ^ 63)) (λ p. Some (n, (refl, is_small n p)))
number_of v = None

number_some : (n : ℕ) → n < 2 ^ 63 → is_some (number_of (number n)) ≡ true
number_some n l = when_some (nat_lt n (2 ^ 63)) _ (grind (arith, nat_tests, l)) (λ q. refl)

-- ---- events

abbrev FoundAs : Dialect → List ℕ → Plains → Type 0
FoundAs d word fs = Option ((e : Event) × IsEventOf d (record_of (symbol word) fs) e)

abbrev assert_of : (d : Dialect) (fs : Plains) → FoundAs d (assert_word d) fs
assert_of d (then_more v (then_more h no_more)) = when (is_wired v) (λ w. then_find (number_of h) (λ n.
    Some (
      Assert v n.0,
      ((w, n.1.1), ap (λ k. record_of (symbol (assert_word d)) (then_more v (then_more k no_more))) n.1.0),
    )))
assert_of d fs = None

abbrev retract_of : (d : Dialect) (fs : Plains) → FoundAs d (retract_word d) fs
retract_of d (then_more h no_more) = then_find (number_of h) (λ n.
    Some (Retract n.0, (n.1.1, ap (λ k. record_of (symbol (retract_word d)) (then_more k no_more)) n.1.0)))
retract_of d fs = None

abbrev message_of : (d : Dialect) (fs : Plains) → FoundAs d (message_word d) fs
message_of d (then_more v no_more) = when (is_wired v) (λ w. Some (Message v, (w, refl)))
message_of d fs = None

abbrev sync_of : (d : Dialect) (fs : Plains) → FoundAs d (sync_word d) fs
sync_of d (then_more v no_more) = when (is_peer v) (λ w. Some (Sync v, (w, refl)))
sync_of d fs = None

-- where the word is this one
abbrev where_word : (d : Dialect) (word s : List ℕ) (fs : Plains) → FoundAs d word fs → FoundAs d s fs
where_word d word s fs found = when (bytes_eq s word) (λ p. then_find found (λ e.
    Some (e.0, (e.1.0, ap (λ t. record_of (symbol t) fs) ((bytes_eq-Decides s word).0 p) ∙ e.1.1))))

worded_some : (d : Dialect) (word : List ℕ) (fs : Plains) (found : FoundAs d word fs) → is_some found ≡ true
    → is_some (where_word d word word fs found) ≡ true
worded_some d word fs found some =
    when_some (bytes_eq word word) _ ((bytes_eq-Decides word word).1 refl) (λ p. then_some found _ some (λ e. refl))

-- of any word, whichever event it is
module _ (d : Dialect) (s : List ℕ) (fs : Plains) where
  abbrev asserted : FoundAs d s fs
  asserted = where_word d (assert_word d) s fs (assert_of d fs)

  abbrev retracted : FoundAs d s fs
  retracted = where_word d (retract_word d) s fs (retract_of d fs)

  abbrev said : FoundAs d s fs
  said = where_word d (message_word d) s fs (message_of d fs)

  abbrev synced : FoundAs d s fs
  synced = where_word d (sync_word d) s fs (sync_of d fs)

  abbrev found : FoundAs d s fs
  found = or_find asserted (or_find retracted (or_find said synced))

  where_retracted : is_some retracted ≡ true → is_some found ≡ true
  where_retracted p =
      second_some asserted (or_find retracted (or_find said synced)) (first_some retracted (or_find said synced) p)

  where_said : is_some said ≡ true → is_some found ≡ true
  where_said p =
      second_some asserted (or_find retracted (or_find said synced))
      (second_some retracted (or_find said synced) (first_some said synced p))

  where_synced : is_some synced ≡ true → is_some found ≡ true
  where_synced p =
      second_some asserted (or_find retracted (or_find said synced))
      (second_some retracted (or_find said synced) (second_some said synced p))

abbrev event_of : (d : Dialect) (v : Plain) → Option ((e : Event) × IsEventOf d v e)
event_of d (record_of (symbol s) fs) = found d s fs
event_of d v = None

event_some : (d : Dialect) (e : Event) → IsEvent e → is_some (event_of d (event_value d e)) ≡ true
event_some d (Assert v h) p =
    let fs = plains (v ∷ number h ∷ []) in
    first_some _ _ (worded_some d (assert_word d) fs (assert_of d fs)
    (when_some (is_wired v) _ p.0 (λ w. then_some (number_of (number h)) _ (number_some h p.1) (λ n. refl))))
event_some d (Retract h) p =
    let fs = plains (number h ∷ []) in
    where_retracted d (retract_word d) fs (worded_some d (retract_word d) fs (retract_of d fs)
    (then_some (number_of (number h)) _ (number_some h p) (λ n. refl)))
event_some d (Message v) p =
    let fs = plains (v ∷ []) in
    where_said d (message_word d) fs (worded_some d (message_word d) fs (message_of d fs)
    (when_some (is_wired v) _ p (λ w. refl)))
event_some d (Sync v) p =
    let fs = plains (v ∷ []) in
    where_synced d (sync_word d) fs (worded_some d (sync_word d) fs (sync_of d fs)
    (when_some (is_peer v) _ p (λ w. refl)))

-- ---- turns

abbrev aimed_of : (d : Dialect) (v : Plain) → Option ((e : TurnEvent) × IsTurnEventOf d v e)
aimed_of d (sequence (then_more o (then_more v no_more))) = then_find (number_of o) (λ n. then_find (event_of d v) (λ e.
    Some (
      record { oid = n.0; event = e.0 },
      ((n.1.1, e.1.0), λ i. sequence (then_more (n.1.0 i) (then_more (e.1.1 i) no_more))),
    )))
aimed_of d v = None

aimed_some : (d : Dialect) (e : TurnEvent) → IsTurnEvent e → is_some (aimed_of d (aimed_value d e)) ≡ true
aimed_some d e p =
    then_some (number_of (number e.oid)) _ (number_some e.oid p.0)
    (λ n. then_some (event_of d (event_value d e.event)) _ (event_some d e.event p.1) (λ x. refl))

abbrev pub AreTurnEvents : Dialect → Plains → List TurnEvent → Type 0
AreTurnEvents d xs es = AllByRecursion IsTurnEvent es × (xs ≡ plains (map (aimed_value d) es))

abbrev pub turn_of : (d : Dialect) (xs : Plains) → Option ((es : List TurnEvent) × AreTurnEvents d xs es)
turn_of d no_more = Some ([], (tt, refl))
turn_of d (then_more x xs) = then_find (aimed_of d x) (λ e. then_find (turn_of d xs) (λ es.
    Some (e.0 ∷ es.0, ((e.1.0, es.1.0), λ i. then_more (e.1.1 i) (es.1.1 i)))))

pub turn_some : (d : Dialect) (es : List TurnEvent) → AllByRecursion IsTurnEvent es
    → is_some (turn_of d (plains (map (aimed_value d) es))) ≡ true
turn_some d [] p = refl
turn_some d (e ∷ es) p =
    then_some (aimed_of d (aimed_value d e)) _ (aimed_some d e p.0)
    (λ x. then_some (turn_of d (plains (map (aimed_value d) es))) _ (turn_some d es p.1) (λ y. refl))
