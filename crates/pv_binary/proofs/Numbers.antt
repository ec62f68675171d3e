-- One byte of a number in bytes of seven bits.
use Rattle.std.proofs.Common.{◌≡◌, ℕ, zero, suc, ◌+◌, ◌-◌, ◌*◌, ◌^◌, lit≤, lit<, ◌<◌, ◌/◌, ◌%◌, ◌≤◌, List, [], ◌∷◌}
use Rattle.std.proofs.Common.{◌++◌, refl, append_assoc, sub-one, arith}
use Rattle.std.proofs.Math.Nat.{pow-succ'}
use Rattle.std.proofs.lemmas.Bool.{le-ltb}
use Rattle.pv_binary.specs.Numbers.{varint_in}

pub varint_more : (k n : ℕ) (out new all : List ℕ) → 128 ≤ n → n ≤ k → out ++ varint_in k n ≡ all → new ≡ out
    ++ (n % 128 + 128) ∷ [] → (j : ℕ) × (n / 128 ≤ j) × (new ++ varint_in j (n / 128) ≡ all)
varint_more zero n out new all h l e is = absurd (omega arith)
varint_more (suc k) n out new all h l e is =
    (k, omega arith, rw (is, append_assoc) (rw (le-ltb n 128 h) at e))

pub power_left : (left : ℕ) → (left ≡ 0 → ⊥) → 128 ^ left ≡ 128 * 128 ^ (left - 1)
power_left zero n = absurd (n refl)
power_left (suc k) n = rw sub-one (pow-succ' 128 k)

pub power_small : (k : ℕ) → k ≤ 8 → 128 ^ k ≤ 72057594037927936
power_small zero h = lit≤ tt
power_small (suc zero) h = lit≤ tt
power_small (suc (suc zero)) h = lit≤ tt
power_small (suc (suc (suc zero))) h = lit≤ tt
power_small (suc (suc (suc (suc zero)))) h = lit≤ tt
power_small (suc (suc (suc (suc (suc zero))))) h = lit≤ tt
power_small (suc (suc (suc (suc (suc (suc zero)))))) h = lit≤ tt
power_small (suc (suc (suc (suc (suc (suc (suc zero))))))) h = lit≤ tt
power_small (suc (suc (suc (suc (suc (suc (suc (suc zero)))))))) h = lit≤ tt
power_small (suc (suc (suc (suc (suc (suc (suc (suc (suc k))))))))) h = absurd (omega arith)

pub power_some : (k : ℕ) → 0 < 128 ^ k
power_some zero = lit< tt
power_some (suc k) = rw (pow-succ' 128 k) (omega (arith, power_some k))
