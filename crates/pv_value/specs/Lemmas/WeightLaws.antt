-- How many bytes numbers need, from one step to the next, and what nodes add to the weight.
use Rattle.std.proofs.Common.{◌≡◌, ℕ, zero, suc, ◌+◌, ◌*◌, ◌/◌, ◌<◌, ◌≤◌, refl, ap, arith}
use Rattle.std.proofs.lemmas.Bool.{le-ltb, lt-ltb}
use Rattle.pv_value.specs.Plain.{Plain, boolean, double, integer, string, byte_string, symbol}
use Rattle.pv_value.specs.Plain.{record_of, sequence, set_of, dictionary, embedded}
use Rattle.pv_value.specs.Plain.{Plains, no_more, then_more, PlainPairs, no_pairs, then_pair}
use Rattle.pv_value.specs.Weight.{count_size_in, count_size, signed_size_in, signed_size}
use Rattle.pv_value.specs.Weight.{size_with, sizes_with, pair_sizes_with}
use Rattle.pv_value.specs.Weight.{canonical_size, weight, node_count, node_counts, pair_node_counts}

-- any number of steps that is at least the number will do
count_steps : (j k n : ℕ) → n ≤ j → n ≤ k → count_size_in j n ≡ count_size_in k n
count_steps zero zero n h l = refl
count_steps zero (suc k) n h l = rw (lt-ltb n 128 (omega arith)) refl
count_steps (suc j) zero n h l = rw (lt-ltb n 128 (omega arith)) refl
count_steps (suc j) (suc k) n h l = grind (arith, count_steps j k (n / 128) (omega arith) (omega arith))

pub count_size_small : (n : ℕ) → n < 128 → count_size n ≡ 1
unfolding count_size
count_size_small zero h = refl
count_size_small (suc n) h = rw (lt-ltb (suc n) 128 h) refl

pub count_size_more : (n : ℕ) → 128 ≤ n → count_size n ≡ suc (count_size (n / 128))
unfolding count_size
count_size_more zero h = absurd (omega arith)
count_size_more (suc n) h = rw (le-ltb (suc n) 128 h)
    (ap suc (count_steps n (suc n / 128) (suc n / 128) (omega arith) (omega arith)))

signed_steps : (j k n : ℕ) → n ≤ j → n ≤ k → signed_size_in j n ≡ signed_size_in k n
signed_steps zero zero n h l = refl
signed_steps zero (suc k) n h l = rw (lt-ltb n 128 (omega arith)) refl
signed_steps (suc j) zero n h l = rw (lt-ltb n 128 (omega arith)) refl
signed_steps (suc j) (suc k) n h l = grind (arith, signed_steps j k (n / 256) (omega arith) (omega arith))

pub signed_size_small : (n : ℕ) → n < 128 → signed_size n ≡ 1
unfolding signed_size
signed_size_small zero h = refl
signed_size_small (suc n) h = rw (lt-ltb (suc n) 128 h) refl

pub signed_size_more : (n : ℕ) → 128 ≤ n → signed_size n ≡ suc (signed_size (n / 256))
unfolding signed_size
signed_size_more zero h = absurd (omega arith)
signed_size_more (suc n) h = rw (le-ltb (suc n) 128 h)
    (ap suc (signed_steps n (suc n / 256) (suc n / 256) (omega arith) (omega arith)))

-- ---- nodes

mutual
  -- each node adds 48
  size_nodes : (v : Plain) → size_with 48 v ≡ size_with 0 v + 48 * node_count v
  size_nodes (boolean b) = refl
  size_nodes (double n) = refl
  size_nodes (integer z) = omega arith
  size_nodes (string s) = omega arith
  size_nodes (byte_string s) = omega arith
  size_nodes (symbol s) = omega arith
  size_nodes (record_of l fs) = omega (arith, size_nodes l, sizes_nodes fs)
  size_nodes (sequence xs) = omega (arith, sizes_nodes xs)
  size_nodes (set_of xs) = omega (arith, sizes_nodes xs)
  size_nodes (dictionary ps) = omega (arith, pair_sizes_nodes ps)
  size_nodes (embedded x) = omega (arith, size_nodes x)

  sizes_nodes : (xs : Plains) → sizes_with 48 xs ≡ sizes_with 0 xs + 48 * node_counts xs
  sizes_nodes no_more = refl
  sizes_nodes (then_more x xs) = omega (arith, size_nodes x, sizes_nodes xs)

  pair_sizes_nodes : (ps : PlainPairs) → pair_sizes_with 48 ps ≡ pair_sizes_with 0 ps + 48 * pair_node_counts ps
  pair_sizes_nodes no_pairs = refl
  pair_sizes_nodes (then_pair k v ps) = omega (arith, size_nodes k, size_nodes v, pair_sizes_nodes ps)

pub weight-nodes : (v : Plain) → weight v ≡ canonical_size v + 48 * node_count v
unfolding weight canonical_size
weight-nodes v = size_nodes v
