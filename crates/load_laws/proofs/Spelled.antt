-- What is written of what a load asserts are bytes, and reading them gives it back.
use Rattle.std.proofs.Common.{◌≡◌, ℕ, zero, suc, ◌+◌, ◌*◌, ◌/◌, ◌%◌, ◌^◌, ◌<◌, ◌≤◌, List, [], ◌∷◌, ◌++◌, length}
use Rattle.std.proofs.Common.{Bool, true, false, cond, ◌&&◌, ◌==◌, ℤ, nat_lt, refl, sym, subst, arith, take, ltb-true}
use Rattle.std.proofs.lemmas.Bool.{and_parts}
use Rattle.std.proofs.lemmas.Bool.Decides.{nat_tests}
use Rattle.std.proofs.lemmas.List.{take_all}
use Rattle.std.proofs.lemmas.List.Elements.{All-from_recursion}
use Rattle.std.specs.Int.{w128, bytes_high_first, byte_at, cast_unsigned}
use Rattle.std.specs.Int.RustNames.{FitsSigned}
use Rattle.std.specs.List.Sorted.{IsStrictlySortedBy}
use Rattle.std.proofs.lemmas.Str.{IsUtf8-append, IsUtf8-nil, IsUtf8-encode, encode_ascii}
use Rattle.std.specs.Str.{IsUtf8}
use lib.Utf8.{low_scalar}
use Rattle.pv_value.specs.Plain.{Plain, boolean, double, integer, string, byte_string, symbol, record_of, sequence}
use Rattle.pv_value.specs.Plain.{set_of, dictionary, embedded, Plains, no_more, then_more, PlainPairs, no_pairs}
use Rattle.pv_value.specs.Plain.{then_pair, paired}
use Rattle.pv_value.specs.Depth.{depth}
use Rattle.pv_value.specs.WellFormed.{IsWellFormed, AreWellFormed, ArePairsWellFormed, KeysAscend}
use Rattle.pv_words.specs.Words.{number}
use Rattle.pv_read.specs.Limits.{read_depth}
use Rattle.pv_binary.specs.Numbers.{varint, varint_in, counted, int_bytes, minimal, repeats_sign}
use Rattle.pv_binary.specs.OneOfThree.{AreBytes}
use Rattle.pv_binary.specs.Reads.{BeginsWith}
use Rattle.pv_binary.specs.Spells.{Spells}
use Rattle.pv_binary.specs.Written.{written, written_all, written_pairs}
use Rattle.pv_binary.proofs.Varints.{IsBytes}
use Rattle.pv_binary.proofs.Written.{spelled}
use Rattle.rl_packet.specs.declared.packets.Dialect.TheVariants.{Newer}
use Rattle.sc_load.specs.Loads.{observation, loading, drawn}
use Rattle.load_laws.proofs.Sizes.{asserting}

-- ---- words

-- each is an ASCII character
abbrev pub all_small : List ℕ → Bool
all_small [] = true
all_small (b ∷ bs) = nat_lt b 128 && all_small bs

-- such bytes are UTF-8
pub small_text : (bs : List ℕ) → all_small bs ≡ true → IsUtf8 bs
small_text [] small = IsUtf8-nil
small_text (b ∷ bs) small =
    let h = and_parts (nat_lt b 128) (all_small bs) small in
    let low : b < 128 = ltb-true b 128 h.0 in
    IsUtf8-append (b ∷ []) bs (subst IsUtf8 (encode_ascii b low) (IsUtf8-encode b (low_scalar b (omega (arith, low)))))
    (small_text bs h.1)

small_bytes : (bs : List ℕ) → all_small bs ≡ true → IsBytes bs
small_bytes [] small = tt
small_bytes (b ∷ bs) small =
    let h = and_parts (nat_lt b 128) (all_small bs) small in
    let low : b < 128 = ltb-true b 128 h.0 in
    (omega (arith, low), small_bytes bs h.1)

-- ---- values of short words and numbers

abbrev mutual
  pub IsSmall : Plain → Type 0
  IsSmall (integer z) = FitsSigned w128 z
  IsSmall (symbol s) = (all_small s ≡ true) × (length s < 100)
  IsSmall (record_of l fs) = IsSmall l × AreSmall fs
  IsSmall (sequence xs) = AreSmall xs
  IsSmall (dictionary ps) = KeysAscend (paired ps) × ArePairsSmall ps
  IsSmall (embedded x) = IsSmall x
  IsSmall (boolean b) = ⊥
  IsSmall (double n) = ⊥
  IsSmall (string s) = ⊥
  IsSmall (byte_string s) = ⊥
  IsSmall (set_of xs) = ⊥

  pub AreSmall : Plains → Type 0
  AreSmall no_more = Unit {0}
  AreSmall (then_more x xs) = IsSmall x × AreSmall xs

  pub ArePairsSmall : PlainPairs → Type 0
  ArePairsSmall no_pairs = Unit {0}
  ArePairsSmall (then_pair k v ps) = IsSmall k × IsSmall v × ArePairsSmall ps

mutual
  well_formed : (v : Plain) → IsSmall v → IsWellFormed v
  well_formed (integer z) h = h
  well_formed (symbol s) h = let few = h.1 in (small_text s h.0, omega (arith, few))
  well_formed (record_of l fs) h = (well_formed l h.0, all_well_formed fs h.1)
  well_formed (sequence xs) h = all_well_formed xs h
  well_formed (dictionary ps) h = (h.0, pairs_well_formed ps h.1)
  well_formed (embedded x) h = well_formed x h
  well_formed (boolean b) h = absurd h
  well_formed (double n) h = absurd h
  well_formed (string s) h = absurd h
  well_formed (byte_string s) h = absurd h
  well_formed (set_of xs) h = absurd h

  all_well_formed : (xs : Plains) → AreSmall xs → AreWellFormed xs
  all_well_formed no_more h = tt
  all_well_formed (then_more x xs) h = (well_formed x h.0, all_well_formed xs h.1)

  pairs_well_formed : (ps : PlainPairs) → ArePairsSmall ps → ArePairsWellFormed ps
  pairs_well_formed no_pairs h = tt
  pairs_well_formed (then_pair k v ps) h = (well_formed k h.0, well_formed v h.1, pairs_well_formed ps h.2)

-- ---- bytes

bytes_append : (xs ys : List ℕ) → IsBytes xs → IsBytes ys → IsBytes (xs ++ ys)
bytes_append [] ys a b = b
bytes_append (x ∷ xs) ys a b = (a.0, bytes_append xs ys a.1 b)

varint_bytes : (k n : ℕ) → n ≤ k → IsBytes (varint_in k n)
varint_bytes zero n few = (omega (arith, few), tt)
varint_bytes (suc k) n few = by (nat_lt n 128) refl (λ l. varint_bytes k (n / 128) l)
  where
    by : (b : Bool) → nat_lt n 128 ≡ b → (n / 128 ≤ k → IsBytes (varint_in k (n / 128)))
        → IsBytes (cond b (n ∷ []) ((n % 128 + 128) ∷ varint_in k (n / 128)))
    by true is later = let low : n < 128 = ltb-true n 128 is in (omega (arith, low), tt)
    by false is later = let high : 128 ≤ n =
        grind (arith, nat_tests, is) in (omega arith, later (omega (arith, high, few)))

counted_bytes : (bs : List ℕ) → IsBytes bs → IsBytes (counted bs)
unfolding varint
counted_bytes bs h =
    bytes_append (varint_in (length bs) (length bs)) bs (varint_bytes (length bs) (length bs) (omega arith)) h

minimal_bytes : (bs : List ℕ) → IsBytes bs → IsBytes (minimal bs)
minimal_bytes [] h = tt
minimal_bytes (b ∷ []) h = by (b == 0)
  where
    by : (t : Bool) → IsBytes (cond t [] (b ∷ []))
    by true = tt
    by false = h
minimal_bytes (b ∷ c ∷ bs) h = by (repeats_sign b c) (minimal_bytes (c ∷ bs) h.1)
  where
    by : (t : Bool) → IsBytes (minimal (c ∷ bs)) → IsBytes (cond t (minimal (c ∷ bs)) (b ∷ c ∷ bs))
    by true later = later
    by false later = h

high_bytes : (k n : ℕ) → IsBytes (bytes_high_first k n)
high_bytes zero n = tt
high_bytes (suc k) n = (small k, high_bytes k n)
  where
    small : (i : ℕ) → byte_at i n < 256
    small zero = omega arith
    small (suc i) = omega arith

int_small : (z : ℤ) → IsBytes (int_bytes z)
unfolding int_bytes
int_small z = minimal_bytes (bytes_high_first 16 (cast_unsigned w128 z)) (high_bytes 16 (cast_unsigned w128 z))

mutual
  written_bytes : (v : Plain) → IsSmall v → IsBytes (written v)
  written_bytes (integer z) h = (omega arith, counted_bytes (int_bytes z) (int_small z))
  written_bytes (symbol s) h = (omega arith, counted_bytes s (small_bytes s h.0))
  written_bytes (record_of l fs) h = (
    omega arith,
    bytes_append (written l) _ (written_bytes l h.0)
        (bytes_append (written_all fs) (0x84 ∷ []) (all_bytes fs h.1) (omega arith, tt)),
  )
  written_bytes (sequence xs) h =
      (omega arith, bytes_append (written_all xs) (0x84 ∷ []) (all_bytes xs h) (omega arith, tt))
  written_bytes (dictionary ps) h =
      (omega arith, bytes_append (written_pairs ps) (0x84 ∷ []) (pairs_bytes ps h.1) (omega arith, tt))
  written_bytes (embedded x) h = (omega arith, written_bytes x h)
  written_bytes (boolean b) h = absurd h
  written_bytes (double n) h = absurd h
  written_bytes (string s) h = absurd h
  written_bytes (byte_string s) h = absurd h
  written_bytes (set_of xs) h = absurd h

  all_bytes : (xs : Plains) → AreSmall xs → IsBytes (written_all xs)
  all_bytes no_more h = tt
  all_bytes (then_more x xs) h = bytes_append (written x) (written_all xs) (written_bytes x h.0) (all_bytes xs h.1)

  pairs_bytes : (ps : PlainPairs) → ArePairsSmall ps → IsBytes (written_pairs ps)
  pairs_bytes no_pairs h = tt
  pairs_bytes (then_pair k v ps) h =
      bytes_append (written k ++ written v) (written_pairs ps)
      (bytes_append (written k) (written v) (written_bytes k h.0) (written_bytes v h.1)) (pairs_bytes ps h.2)

-- ---- reading

pub are_bytes : (v : Plain) → IsSmall v → AreBytes (written v)
are_bytes v h = All-from_recursion (λ b. b < 256) (written v) (written_bytes v h)

-- what is short and shallow begins with itself, and is all of it
pub begins_whole : (most : ℕ) (v : Plain) → IsSmall v → depth v ≤ read_depth → length (written v) ≤ most
    → BeginsWith (take most (written v)) (length (written v)) v
begins_whole most v h shallow few =
    let all : take most (written v) ≡ written v = take_all most (written v) few in
    let own : take (length (written v)) (written v) ≡ written v =
    take_all (length (written v)) (written v) (omega arith) in
    subst (λ bs. BeginsWith bs (length (written v)) v) (sym all)
    (omega arith, subst (λ bs. Spells bs v) (sym own) (spelled v (well_formed v h)), shallow)

-- ---- events

number_small : (i : ℕ) → i < 2 ^ 100 → IsSmall (number i)
number_small i small = omega (arith, small)

observation_small : (i : ℕ) → i < 2 ^ 99 → IsSmall (observation i)
unfolding IsStrictlySortedBy
observation_small i few = (
  (refl, omega arith),
  (
    (
      (refl, omega arith),
      (
        ((refl, omega arith), ((refl, omega arith), tt)),
        (
          (
            ((refl, tt), (tt, tt)),
            (
              number_small 0 (omega arith),
              ((refl, omega arith), (number_small i (omega (arith, few)), tt)),
              (
                number_small 1 (omega arith),
                ((refl, omega arith), (((refl, omega arith), tt), tt)),
                tt,
              ),
            ),
          ),
          tt,
        ),
      ),
    ),
    ((number_small 0 (omega arith), (number_small (i + 1) (omega (arith, few)), tt)), tt),
  ),
)

loading_small : (start i : ℕ) → i < 2 ^ 99 → IsSmall (loading start i)
loading_small start i few = (
  (refl, omega arith),
  (number_small i (omega (arith, few)), (number_small (drawn start i) (omega arith), tt)),
)

asserting_small : (oid h : ℕ) (v : Plain) → oid < 2 ^ 99 → h < 2 ^ 99 → IsSmall v → IsSmall (asserting Newer oid v h)
asserting_small oid h v low few own = (
  number_small oid (omega (arith, low)),
  (((refl, omega arith), (own, (number_small h (omega (arith, few)), tt))), tt),
)

pub observation_event_small : (i : ℕ) → i < 2 ^ 64 → IsSmall (asserting Newer 0 (observation i) (2 * i))
observation_event_small i few =
    asserting_small 0 (2 * i) (observation i) (omega arith) (omega (arith, few))
    (observation_small i (omega (arith, few)))

pub loading_event_small : (start i : ℕ) → i < 2 ^ 64 → IsSmall (asserting Newer 0 (loading start i) (2 * i + 1))
loading_event_small start i few =
    asserting_small 0 (2 * i + 1) (loading start i) (omega arith) (omega (arith, few))
    (loading_small start i (omega (arith, few)))

pub observation_shallow : (i h : ℕ) → depth (asserting Newer 0 (observation i) h) ≤ 20
observation_shallow i h = omega arith

pub loading_shallow : (start i h : ℕ) → depth (asserting Newer 0 (loading start i) h) ≤ 20
loading_shallow start i h = omega arith
