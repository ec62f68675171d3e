-- How many bytes what a load says and is told takes at most.
use Rattle.std.proofs.Common.{◌≡◌, ℕ, zero, suc, ◌+◌, ◌*◌, ◌<◌, ◌≤◌, List, [], ◌∷◌, ◌++◌, length, Bool, true, cond}
use Rattle.std.proofs.Common.{refl, sym, subst, arith, length-append, nat_lt, pos, codes, ◌%◌, ◌/◌, ◌-◌, false, map}
use Rattle.std.proofs.Common.{min}
use Rattle.std.specs.List.{AllByRecursion, flat_map}
use Rattle.std.proofs.lemmas.Grind.{div_ceil_times}
use Rattle.std.proofs.lemmas.Bool.Decides.{nat_tests}
use Rattle.pv_value.specs.Plain.{Plain, sequence, byte_string, plains}
use Rattle.rl_packet.specs.Packets.{packet_value, aimed_value, spoken}
use Rattle.rl_packet.specs.declared.packets.Packet.TheVariants.{Turn}
use Rattle.rl_packet.specs.declared.packets.Dialect.{Dialect}
use Rattle.rl_packet.specs.declared.packets.Dialect.TheVariants.{Newer, Older}
use Rattle.rl_packet.specs.declared.packets.Event.TheVariants.{Assert, Retract}
use Rattle.rl_packet.specs.declared.packets.TurnEvent.{TurnEvent}
use Rattle.hub_machine.specs.declared.faults.Fault.{Fault}
use Rattle.hub_machine.specs.declared.faults.Fault.TheVariants.{BadBytes, BadPacket, UnknownOid, HandleInUse}
use Rattle.hub_machine.specs.declared.faults.Fault.TheVariants.{UnknownHandle, Limit, Overrun, Spread}
use Rattle.hub_machine.specs.Faults.{error_of}
use Rattle.sc_events.specs.Limits.{most_input}
use Rattle.sc_load.specs.Limits.{most_items}
use Rattle.sc_load.specs.Loads.{observation, loading, drawn, rounded_up, observes, loads, newer_packet, bytes_event}
use Rattle.sc_load.specs.Loads.{sent_by, events_of, connection_of, turn_of, turns_of, all_turns, opens, load_events}
use Rattle.sc_load.specs.Loads.{load_bytes}
use Rattle.pv_words.specs.Words.{labelled, number}
use Rattle.pv_binary.specs.Written.{written, written_all}
use Rattle.pv_binary.specs.Numbers.{varint, varint_in, int_bytes}
use Rattle.pv_binary.proofs.Ints.{int_bytes_short}

-- a count below 128 takes a byte
varint_one : (k : ℕ) → k < 128 → length (varint k) ≡ 1
unfolding varint
varint_one zero small = refl
varint_one (suc k) small = let is : nat_lt (suc k) 128 ≡ true = grind (arith, nat_tests, small) in rw is refl

pub number_short : (n : ℕ) → length (written (number n)) ≤ 18
number_short n =
    let few = int_bytes_short (pos n) in
    let one = varint_one (length (int_bytes (pos n))) (omega (arith, few)) in
    omega (arith, few, one, length-append (varint (length (int_bytes (pos n)))) (int_bytes (pos n)))

-- its parts
number_parts : (n : ℕ) → length (varint (length (int_bytes (pos n)))) + length (int_bytes (pos n)) ≤ 17
number_parts n =
    let few = int_bytes_short (pos n) in
    let one = varint_one (length (int_bytes (pos n))) (omega (arith, few)) in
    omega (arith, few, one)

-- any count takes no more than one byte more than it counts
varint_few : (k n : ℕ) → length (varint_in k n) ≤ k + 1
varint_few zero n = omega arith
varint_few (suc k) n = by (nat_lt n 128) (varint_few k (n / 128))
  where
    by : (b : Bool) → length (varint_in k (n / 128)) ≤ k + 1
        → length (cond b (n ∷ []) ((n % 128 + 128) ∷ varint_in k (n / 128))) ≤ suc k + 1
    by true later = omega arith
    by false later = omega (arith, later)

pub bytes_short : (s : List ℕ) → length (written (byte_string s)) ≤ 2 * length s + 2
unfolding varint
bytes_short s =
    let few = varint_few (length s) (length s) in
    omega (arith, few, length-append (varint (length s)) s)

bytes_parts : (s : List ℕ) → length (varint (length s)) + length s ≤ 2 * length s + 1
unfolding varint
bytes_parts s = let few = varint_few (length s) (length s) in omega (arith, few)

-- ---- events, as values

-- `[oid <A v h>]`, or `[oid <assert v h>]`
abbrev pub asserting : Dialect → ℕ → Plain → ℕ → Plain
asserting d oid v h = aimed_value d (record { oid = oid; event = Assert v h })

-- it takes 50 bytes more than what it asserts, at most
pub asserting_short : (d : Dialect) (oid : ℕ) (v : Plain) (h : ℕ)
    → length (written (asserting d oid v h)) ≤ length (written v) + 50
asserting_short Newer oid v h =
    let a = number_parts oid in
    let b = number_parts h in
    let c = varint_one 1 (omega arith) in
    simp length-append (omega (arith, a, b, c))
asserting_short Older oid v h =
    let a = number_parts oid in
    let b = number_parts h in
    let c = varint_one 6 (omega arith) in
    simp length-append (omega (arith, a, b, c))

-- `[n]`
pub told_short : (d : Dialect) (oid n h : ℕ)
    → length (written (asserting d oid (sequence (plains (number n ∷ []))) h)) ≤ 100
told_short d oid n h =
    let a = number_parts n in
    let b = asserting_short d oid (sequence (plains (number n ∷ []))) h in
    let c : length (written (sequence (plains (number n ∷ [])))) ≤ 20 = simp length-append (omega (arith, a)) in
    omega (arith, b, c)

pub observation_short : (i h : ℕ) → length (written (asserting Newer 0 (observation i) h)) ≤ 250
observation_short i h =
    let a = number_parts i in
    let b = number_parts (i + 1) in
    let c = number_parts 0 in
    let d = number_parts 1 in
    let v1 = varint_one 1 (omega arith) in
    let v3 = varint_one 3 (omega arith) in
    let v4 = varint_one 4 (omega arith) in
    let v5 = varint_one 5 (omega arith) in
    let v7 = varint_one 7 (omega arith) in
    let all = asserting_short Newer 0 (observation i) h in
    let own : length (written (observation i)) ≤ 200 =
    simp length-append (omega (arith, a, b, c, d, v1, v3, v4, v5, v7)) in
    omega (arith, all, own)

pub loading_short : (start i h : ℕ) → length (written (asserting Newer 0 (loading start i) h)) ≤ 250
loading_short start i h =
    let a = number_parts i in
    let b = number_parts (drawn start i) in
    let v4 = varint_one 4 (omega arith) in
    let all = asserting_short Newer 0 (loading start i) h in
    let own : length (written (loading start i)) ≤ 200 = simp length-append (omega (arith, a, b, v4)) in
    omega (arith, all, own)

-- `[oid <R h>]`, or `[oid <retract h>]`
pub retracting_short : (d : Dialect) (oid h : ℕ)
    → length (written (aimed_value d (record { oid = oid; event = Retract h }))) ≤ 100
retracting_short Newer oid h =
    let a = number_parts oid in
    let b = number_parts h in
    let c = varint_one 1 (omega arith) in
    simp length-append (omega (arith, a, b, c))
retracting_short Older oid h =
    let a = number_parts oid in
    let b = number_parts h in
    let c = varint_one 7 (omega arith) in
    simp length-append (omega (arith, a, b, c))

-- ---- packets

-- the value of a turn in a dialect
pub spoken_value : (d : Dialect) (es : List TurnEvent)
    → packet_value (Turn (spoken d es)) ≡ sequence (plains (map (aimed_value d) es))
spoken_value d [] = refl
spoken_value d (e ∷ es) = refl

module _ (d : Dialect) (c : ℕ) where
  abbrev AreNoLonger : List TurnEvent → Type 0
  AreNoLonger es = AllByRecursion (λ e. length (written (aimed_value d e)) ≤ c) es

  all_short : (es : List TurnEvent) → AreNoLonger es
      → length (written_all (plains (map (aimed_value d) es))) ≤ c * length es
  all_short [] all = omega arith
  all_short (e ∷ es) all =
      let later = all_short es all.1 in
      let first = all.0 in
      omega (
        arith,
        first,
        later,
        length-append (written (aimed_value d e)) (written_all (plains (map (aimed_value d) es))),
      )

  -- a turn takes two bytes more than its events
  pub turn_short : (es : List TurnEvent) → AreNoLonger es
      → length (written (packet_value (Turn (spoken d es)))) ≤ 2 + c * length es
  turn_short es all =
      let few = all_short es all in
      subst (λ v. length (written v) ≤ 2 + c * length es) (sym (spoken_value d es))
      (omega (arith, few, length-append (written_all (plains (map (aimed_value d) es))) (0x84 ∷ [])))

-- so does an error
pub error_short : (f : Fault) → length (written (packet_value (error_of f))) ≤ 200
error_short (BadBytes kind place) =
    let a = number_parts kind in
    let b = number_parts place in
    let v5 = varint_one 5 (omega arith) in
    let v9 = varint_one 9 (omega arith) in
    simp length-append (omega (arith, a, b, v5, v9))
error_short BadPacket =
    let a = number_parts 30 in
    let v5 = varint_one 5 (omega arith) in
    let v10 = varint_one 10 (omega arith) in
    simp length-append (omega (arith, a, v5, v10))
error_short (UnknownOid n) =
    let a = number_parts 31 in
    let b = number_parts n in
    let v5 = varint_one 5 (omega arith) in
    let v11 = varint_one 11 (omega arith) in
    simp length-append (omega (arith, a, b, v5, v11))
error_short (HandleInUse h) =
    let a = number_parts 32 in
    let b = number_parts h in
    let v5 = varint_one 5 (omega arith) in
    let v13 = varint_one 13 (omega arith) in
    simp length-append (omega (arith, a, b, v5, v13))
error_short (UnknownHandle h) =
    let a = number_parts 33 in
    let b = number_parts h in
    let v5 = varint_one 5 (omega arith) in
    let v14 = varint_one 14 (omega arith) in
    simp length-append (omega (arith, a, b, v5, v14))
error_short (Limit which n) =
    let a = number_parts 34 in
    let b = number_parts which in
    let c = number_parts n in
    let v5 = varint_one 5 (omega arith) in
    simp length-append (omega (arith, a, b, c, v5))
error_short (Overrun which n) =
    let a = number_parts 35 in
    let b = number_parts which in
    let c = number_parts n in
    let v5 = varint_one 5 (omega arith) in
    let v7 = varint_one 7 (omega arith) in
    simp length-append (omega (arith, a, b, c, v5, v7))
error_short (Spread n) =
    let a = number_parts 36 in
    let b = number_parts n in
    let v5 = varint_one 5 (omega arith) in
    let v6 = varint_one 6 (omega arith) in
    simp length-append (omega (arith, a, b, v5, v6))

-- ---- the script

abbrev size : List Plain → ℕ
size vs = length (flat_map written vs)

size_append : (xs ys : List Plain) → size (xs ++ ys) ≡ size xs + size ys
size_append [] ys = omega arith
size_append (x ∷ xs) ys =
    let later = size_append xs ys in
    omega (
      arith,
      later,
      length-append (written x) (flat_map written (xs ++ ys)),
      length-append (written x) (flat_map written xs),
    )

single_size : (v : Plain) → size (v ∷ []) ≡ length (written v)
single_size v = omega (arith, length-append (written v) [])

open_short : length (written (labelled (codes "open") (number 1 ∷ []))) ≤ 100
open_short =
    let a = number_parts 1 in
    let v4 = varint_one 4 (omega arith) in
    simp length-append (omega (arith, a, v4))

opens_short : (k : ℕ) → size (opens k) ≤ 100 * k
opens_short zero = omega arith
opens_short (suc k) =
    let v : Plain = labelled (codes "open") (number 1 ∷ []) in
    let later = opens_short k in
    sums (size (opens k)) (length (written v)) (size (v ∷ [])) (size (opens (suc k))) k later open_short (single_size v)
    (size_append (opens k) (v ∷ []))
  where
    sums : (a b c d m : ℕ) → a ≤ 100 * m → b ≤ 100 → c ≡ b → d ≡ a + c → d ≤ 100 * suc m
    sums a b c d m one two three four = omega (arith, one, two, three, four)

-- the events of some items
pub events_count : (event : ℕ → TurnEvent) (i k : ℕ) → length (events_of event i k) ≡ k
events_count event i zero = refl
events_count event i (suc k) =
    let later = events_count event i k in
    omega (arith, later, length-append (events_of event i k) (event (i + k) ∷ []))

pub events_all : (P : TurnEvent → Type 0) (event : ℕ → TurnEvent) (i k : ℕ)
    → ((m : ℕ) → i ≤ m → m < i + k → P (event m)) → AllByRecursion P (events_of event i k)
events_all P event i zero holds = tt
events_all P event i (suc k) holds =
    behind (events_of event i k) (events_all P event i k (λ m low high. holds m low (omega (arith, high))))
    (holds (i + k) (omega arith) (omega arith))
  where
    behind : (es : List TurnEvent) → AllByRecursion P es → P (event (i + k))
        → AllByRecursion P (es ++ event (i + k) ∷ [])
    behind [] all one = (one, tt)
    behind (e ∷ es) all one = (all.0, behind es all.1 one)

-- each takes 250 bytes at most
abbrev pub AreShort : (ℕ → TurnEvent) → Type 0
AreShort event = (m : ℕ) → length (written (aimed_value Newer (event m))) ≤ 250

pub packet_of_turn : (event : ℕ → TurnEvent) (i k : ℕ) → AreShort event → k ≤ 500
    → length (written (packet_value (newer_packet (events_of event i k)))) ≤ 125002
packet_of_turn event i k short few =
    let all = events_all (λ e. length (written (aimed_value Newer e)) ≤ 250) event i k (λ m low high. short m) in
    let turn = turn_short Newer 250 (events_of event i k) all in
    let count = events_count event i k in
    omega (arith, turn, count, few)

-- bytes of a connection, and two values
sent_bytes : (j : ℕ) (b : List ℕ) → length b ≤ 125002
    → length (written (labelled (codes "bytes") (number j ∷ byte_string b ∷ []))) ≤ 250100
sent_bytes j b few =
    let a = number_parts j in
    let c = bytes_parts b in
    let v5 = varint_one 5 (omega arith) in
    simp length-append (omega (arith, a, c, v5, few))

drain_short : length (written (labelled (codes "drain") (number 10000 ∷ []))) ≤ 50
drain_short =
    let a = number_parts 10000 in
    let v5 = varint_one 5 (omega arith) in
    simp length-append (omega (arith, a, v5))

pair_size : (v w : Plain) → size (v ∷ w ∷ []) ≡ length (written v) + length (written w)
pair_size v w =
    omega (arith, length-append (written v) (written w ++ []), length-append (written w) [])

sent_short : (j : ℕ) (es : List TurnEvent) → length (written (packet_value (newer_packet es))) ≤ 125002
    → size (sent_by j es) ≤ 250200
sent_short j es few =
    sums (length (written (bytes_event j es))) (length (written (labelled (codes "drain") (number 10000 ∷ []))))
    (size (sent_by j es)) (sent_bytes j (written (packet_value (newer_packet es))) few) drain_short
    (pair_size (bytes_event j es) (labelled (codes "drain") (number 10000 ∷ [])))
  where
    sums : (a b c : ℕ) → a ≤ 250100 → b ≤ 50 → c ≡ a + b → c ≤ 250200
    sums a b c l m is = omega (arith, l, m, is)

turns_short : (event : ℕ → TurnEvent) (n t : ℕ) → AreShort event → size (turns_of event n t) ≤ 250200 * t
turns_short event n zero short = omega arith
turns_short event n (suc t) short =
    let first : ℕ = 500 * t in
    let k : ℕ = min 500 (n - first) in
    let later = turns_short event n t short in
    let turn = sent_short (connection_of first) (events_of event first k)
    (packet_of_turn event first k short (omega arith)) in
    sums (size (turns_of event n t)) (size (turn_of event n t)) (size (turns_of event n (suc t))) t later turn
    (size_append (turns_of event n t) (turn_of event n t))
  where
    sums : (a b c m : ℕ) → a ≤ 250200 * m → b ≤ 250200 → c ≡ a + b → c ≤ 250200 * suc m
    sums a b c m one two three = omega (arith, one, two, three)

pub observes_short : AreShort observes
observes_short m = observation_short m (2 * m)

pub loads_short : (start : ℕ) → AreShort (loads start)
loads_short start m = loading_short start m (2 * m + 1)

pub few_turns : (n : ℕ) → n ≤ most_items → rounded_up n 500 ≤ 40
few_turns n few = omega (arith, (div_ceil_times n 500 (omega arith)).1, few)

-- the script of a load isn't too long
pub load_short : (start n : ℕ) → n ≤ most_items → length (load_bytes start n) ≤ most_input
load_short start n few =
    let k : ℕ = rounded_up n 2000 in
    let t : ℕ = rounded_up n 500 in
    sums (size (opens k)) (size (all_turns observes n)) (size (all_turns (loads start) n))
    (size (opens k ++ all_turns observes n)) (size (load_events start n)) k t
    (omega (arith, (div_ceil_times n 2000 (omega arith)).1, few)) (few_turns n few) (opens_short k)
    (turns_short observes n t observes_short) (turns_short (loads start) n t (loads_short start))
    (size_append (opens k) (all_turns observes n))
    (size_append (opens k ++ all_turns observes n) (all_turns (loads start) n))
  where
    sums : (a b c d e k t : ℕ) → k ≤ 10 → t ≤ 40 → a ≤ 100 * k → b ≤ 250200 * t → c ≤ 250200 * t → d ≡ a + b
        → e ≡ d + c → e ≤ most_input
    sums a b c d e k t few_k few_t one two three four five =
        omega (arith, few_k, few_t, one, two, three, four, five)
