-- References within the bounds and beyond, by what is reckoned of them.
use Rattle.std.proofs.Common.{◌≡◌, ℕ, ◌<◌, ◌≤◌, ◌^◌, ◌+◌, ◌-◌, min, List, map, false, length, refl, ap, subst, arith}
use Rattle.std.proofs.lemmas.Bool.{le-ltb, lt-ltb}
use Rattle.std.proofs.lemmas.List.{length-append, length-map}
use Rattle.pv_value.specs.Plain.{Plain}
use Rattle.pv_value.specs.Weight.{weight, sizes_with}
use Rattle.sr_caveat.specs.Caps.{Cap, cap_value, attenuated}
use Rattle.sr_caveat.specs.Patterns.{Caveat, caveats}
use Rattle.sr_caveat.specs.Spelled.{caveat_values}
use Rattle.sr_caveat.specs.Written.{caveat_of}
use Rattle.sr_weight.specs.Lemmas.Appended.{attenuated_weight}
use Rattle.gk_sturdy.specs.Answers.{Accepted, Rejected, Heavy, if_within}

pub heavy : (c : Cap) (w : ℕ) → length c.caveats ≤ 32 → 65536 < w → w ≡ min (weight (cap_value c)) (2 ^ 64 - 1)
    → Rejected (Heavy w) ≡ if_within c
heavy c w few much is =
    rw (le-ltb 32 (length c.caveats) few)
    (rw (lt-ltb 65536 (weight (cap_value c)) (omega arith)) (ap (λ n. Rejected (Heavy n)) is))

pub within : (c : Cap) (w : ℕ) → length c.caveats ≤ 32 → w ≤ 65536 → w ≡ min (weight (cap_value c)) (2 ^ 64 - 1)
    → Accepted c ≡ if_within c
within c w few little is =
    rw (le-ltb 32 (length c.caveats) few)
    (rw (le-ltb 65536 (weight (cap_value c)) (omega arith)) refl)

-- what is reckoned of a reference and of the caveats behind its own
pub summed : (c : Cap) (cs ds : List Caveat) (m n w : ℕ) → ds ≡ cs → m ≡ min (weight (cap_value c)) (2 ^ 64 - 1)
    → n ≡ min (sizes_with 48 (caveat_values (caveats ds))) (2 ^ 64 - 1) → w ≡ min (m + n) (2 ^ 64 - 1)
    → w ≡ min (weight (cap_value (attenuated cs c))) (2 ^ 64 - 1)
summed c cs ds m n w is own more all =
    let behind : n ≡ min (sizes_with 48 (caveat_values (caveats cs))) (2 ^ 64 - 1) =
    subst (λ xs. n ≡ min (sizes_with 48 (caveat_values (caveats xs))) (2 ^ 64 - 1)) is more in
    rw (attenuated_weight cs c) (omega (arith, own, behind, all))

-- how many they are
pub counted : (c : Cap) (cs : List Caveat) (vs : List Plain) (n : ℕ) → cs ≡ c.caveats
    → n ≡ min (length cs + length vs) (2 ^ 64 - 1) → n ≤ 32
    → length (attenuated (map (caveat_of false) vs) c).caveats ≤ 32
counted c cs vs n own is few =
    let lengths : length cs ≡ length c.caveats = ap length own in
    rw (length-append c.caveats (map (caveat_of false) vs), length-map vs (caveat_of false))
    (omega (arith, lengths, is, few))
