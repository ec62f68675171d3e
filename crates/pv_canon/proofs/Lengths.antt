-- How long canonical forms are.
use Rattle.std.proofs.Common.{◌≡◌, ℕ, zero, suc, ◌+◌, ◌/◌, ◌%◌, Bool, true, false, cond, nat_lt, List, [], ◌∷◌, ◌++◌}
use Rattle.std.proofs.Common.{map, length, refl, sym, ap, ◌∙◌, length-append, arith}
use Rattle.std.specs.List.{concat, sum_by}
use Rattle.std.specs.List.Sorted.{IsPermutation}
use Rattle.std.proofs.lemmas.List.Sums.{sum_by-cons}
use Rattle.std.proofs.lemmas.List.Sorted.{IsPermutation-map, sum_by-IsPermutation}
use Rattle.pv_value.specs.Plain.{Plain, boolean, double, integer, string, byte_string, symbol, record_of, sequence}
use Rattle.pv_value.specs.Plain.{set_of, dictionary, embedded, Plains, no_more, then_more, PlainPairs, no_pairs}
use Rattle.pv_value.specs.Plain.{then_pair}
use Rattle.pv_value.specs.Weight.{count_size_in, count_size, counted_size, integer_size, size_with, sizes_with}
use Rattle.pv_value.specs.Weight.{pair_sizes_with, canonical_size}
use Rattle.pv_value.specs.WellFormed.{IsWellFormed, AreWellFormed, ArePairsWellFormed}
use Rattle.pv_binary.specs.Numbers.{varint_in, varint, counted, int_bytes}
use Rattle.pv_binary.specs.Written.{written, written_all, written_pairs}
use Rattle.pv_canon.specs.Canonical.{canonical, forms, entry_forms, sorted_by, byte_order, form_order, joined}
use Rattle.pv_canon.proofs.Sorting.{sorted_moves}
use Rattle.pv_canon.proofs.Integers.{length-int_bytes}

-- ---- pieces in another order

length-concat : (ps : List (List ℕ)) → length (concat ps) ≡ sum_by length ps
length-concat [] = refl
length-concat (p ∷ ps) = length-append p (concat ps) ∙ ap (λ n. length p + n) (length-concat ps)
    ∙ sym (sum_by-cons length p ps)

length-moved : (ps qs : List (List ℕ)) → IsPermutation ps qs → length (concat qs) ≡ length (concat ps)
length-moved ps qs moved = length-concat qs ∙ sum_by-IsPermutation length ps qs moved ∙ sym (length-concat ps)

-- bytes up to the end
length-ended : (bs : List ℕ) → length (bs ++ 0x84 ∷ []) ≡ length bs + 1
length-ended bs = length-append bs (0x84 ∷ [])

-- ---- against the written spelling

mutual
  pub length-canonical : (v : Plain) → length (canonical v) ≡ length (written v)
  length-canonical (boolean b) = refl
  length-canonical (double n) = refl
  length-canonical (integer z) = refl
  length-canonical (string s) = refl
  length-canonical (byte_string s) = refl
  length-canonical (symbol s) = refl
  length-canonical (record_of l fs) =
      omega (
        arith,
        length-append (canonical l) (concat (forms fs) ++ 0x84 ∷ []),
        length-ended (concat (forms fs)),
        length-append (written l) (written_all fs ++ 0x84 ∷ []),
        length-ended (written_all fs),
        length-canonical l,
        length-forms fs,
      )
  length-canonical (sequence xs) =
      omega (arith, length-ended (concat (forms xs)), length-ended (written_all xs), length-forms xs)
  length-canonical (set_of xs) =
      let sorted = sorted_by byte_order (forms xs) in
      omega (
        arith,
        length-ended (concat sorted),
        length-moved (forms xs) sorted (sorted_moves byte_order (forms xs)),
        length-ended (written_all xs),
        length-forms xs,
      )
  length-canonical (dictionary ps) =
      let sorted = sorted_by form_order (entry_forms ps) in
      let moved = IsPermutation-map joined (entry_forms ps) sorted (sorted_moves form_order (entry_forms ps)) in
      omega (
        arith,
        length-ended (concat (map joined sorted)),
        length-moved (map joined (entry_forms ps)) (map joined sorted) moved,
        length-ended (written_pairs ps),
        length-entry_forms ps,
      )
  length-canonical (embedded x) = ap suc (length-canonical x)

  length-forms : (xs : Plains) → length (concat (forms xs)) ≡ length (written_all xs)
  length-forms no_more = refl
  length-forms (then_more x xs) =
      omega (
        arith,
        length-append (canonical x) (concat (forms xs)),
        length-append (written x) (written_all xs),
        length-canonical x,
        length-forms xs,
      )

  length-entry_forms : (ps : PlainPairs) → length (concat (map joined (entry_forms ps))) ≡ length (written_pairs ps)
  length-entry_forms no_pairs = refl
  length-entry_forms (then_pair k v ps) =
      omega (
        arith,
        length-append (canonical k ++ canonical v) (concat (map joined (entry_forms ps))),
        length-append (canonical k) (canonical v),
        length-append (written k ++ written v) (written_pairs ps),
        length-append (written k) (written v),
        length-canonical k,
        length-canonical v,
        length-entry_forms ps,
      )

-- ---- against the size

length-varint_in : (k n : ℕ) → length (varint_in k n) ≡ count_size_in k n
length-varint_in zero n = refl
length-varint_in (suc k) n = by (length-varint_in k (n / 128)) (nat_lt n 128)
  where
    by : length (varint_in k (n / 128)) ≡ count_size_in k (n / 128) → (b : Bool)
        → length (cond {A = List ℕ} b (n ∷ []) ((n % 128 + 128) ∷ varint_in k (n / 128)))
        ≡ cond {A = ℕ} b 1 (suc (count_size_in k (n / 128)))
    by e true = refl
    by e false = ap suc e

length-varint : (n : ℕ) → length (varint n) ≡ count_size n
unfolding varint count_size
length-varint n = length-varint_in n n

length-counted : (bs : List ℕ) (n : ℕ) → length bs ≡ n → suc (length (counted bs)) ≡ 0 + counted_size n
length-counted bs n e =
    let count : length (varint (length bs)) ≡ count_size n = length-varint (length bs) ∙ ap count_size e in
    omega (arith, length-append (varint (length bs)) bs, count, e)

mutual
  length-written : (v : Plain) → IsWellFormed v → length (written v) ≡ size_with 0 v
  length-written (boolean false) h = refl
  length-written (boolean true) h = refl
  length-written (double n) h = refl
  length-written (integer z) h = length-counted (int_bytes z) (integer_size z) (length-int_bytes z h)
  length-written (string s) h = length-counted s (length s) refl
  length-written (byte_string s) h = length-counted s (length s) refl
  length-written (symbol s) h = length-counted s (length s) refl
  length-written (record_of l fs) h =
      omega (
        arith,
        length-append (written l) (written_all fs ++ 0x84 ∷ []),
        length-ended (written_all fs),
        length-written l h.0,
        length-written_all fs h.1,
      )
  length-written (sequence xs) h = omega (arith, length-ended (written_all xs), length-written_all xs h)
  length-written (set_of xs) h = omega (arith, length-ended (written_all xs), length-written_all xs h.1)
  length-written (dictionary ps) h = omega (arith, length-ended (written_pairs ps), length-written_pairs ps h.1)
  length-written (embedded x) h = omega (arith, length-written x h)

  length-written_all : (xs : Plains) → AreWellFormed xs → length (written_all xs) ≡ sizes_with 0 xs
  length-written_all no_more h = refl
  length-written_all (then_more x xs) h =
      omega (arith, length-append (written x) (written_all xs), length-written x h.0, length-written_all xs h.1)

  length-written_pairs : (ps : PlainPairs) → ArePairsWellFormed ps → length (written_pairs ps) ≡ pair_sizes_with 0 ps
  length-written_pairs no_pairs h = refl
  length-written_pairs (then_pair k v ps) h =
      omega (
        arith,
        length-append (written k ++ written v) (written_pairs ps),
        length-append (written k) (written v),
        length-written k h.0,
        length-written v h.1,
        length-written_pairs ps h.2,
      )

pub canonical_sized : (v : Plain) → IsWellFormed v → length (canonical v) ≡ canonical_size v
unfolding canonical_size
canonical_sized v h = length-canonical v ∙ length-written v h
