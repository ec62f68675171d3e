-- Turns, one after another: where each begins, and what is written so far.
use Rattle.std.proofs.Common.{◌≡◌, ℕ, ◌+◌, ◌-◌, ◌*◌, ◌<◌, min, List, ◌++◌}
use Rattle.std.proofs.Common.{arith, ap, sym, ◌∙◌, append_assoc}
use Rattle.std.proofs.lemmas.Grind.{flat_map-append, div_ceil_times}
use Rattle.std.specs.List.{flat_map}
use Rattle.pv_value.specs.Plain.{Plain}
use Rattle.pv_binary.specs.Written.{written}
use Rattle.sc_load.specs.Loads.{rounded_up}

-- a turn that is there begins below the number of all items
pub begins : (n t : ℕ) → t < rounded_up n 500 → 500 * t < n
begins n t there = omega (arith, (div_ceil_times n 500 (omega arith)).1, there)

-- where it begins, all turns before it are over, and where it ends, the next one begins or none is left
pub before : (n t : ℕ) → t < rounded_up n 500 → min n (500 * t) ≡ 500 * t
before n t there = omega (arith, begins n t there)

pub behind : (n t : ℕ) → t < rounded_up n 500 → 500 * t + min 500 (n - 500 * t) ≡ min n (500 * (t + 1))
behind n t there = omega (arith, begins n t there)

-- what is written with more values behind
pub more_written : (bs before : List ℕ) (vs ws : List Plain) → before ≡ bs ++ flat_map written vs
    → before ++ flat_map written ws ≡ bs ++ flat_map written (vs ++ ws)
more_written bs before vs ws is =
    ap (λ xs. xs ++ flat_map written ws) is ∙ append_assoc bs (flat_map written vs) (flat_map written ws)
    ∙ ap (λ xs. bs ++ xs) (sym (flat_map-append written vs ws))
