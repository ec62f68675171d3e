-- What is kept of the weight of deliveries.
use Rattle.std.proofs.Common.{◌≡◌, ℕ, ◌+◌, ◌^◌, ◌<◌, ◌≤◌, [], ◌∷◌, length, refl, ap}
use Rattle.std.proofs.Common.{arith, ◌∙◌}
use Rattle.std.proofs.lemmas.Bool.Decides.{nat_tests}
use Rattle.std.proofs.lemmas.Map.Keys.{sorted_head, sorted_tail}
use Rattle.std.specs.Map.{values_of}
use Rattle.std.specs.Ordering.{nat_cmp}
use Rattle.pv_value.specs.Weight.{weight}
use Rattle.ac_table.specs.Lemmas.Sums.{sum_of-fits, sum_of-top, whole_of}
use Rattle.ac_world.specs.Lemmas.Entries.{KeysAscend, entry_of_above, above_lower}
use Rattle.ac_table.specs.Sums.{top}
use Rattle.ac_world.specs.Sums.{load_got, sum_of_held, weight_found}
use Rattle.ac_world.specs.Worlds.{Held, Deliveries, entry_of, with_entry, without_entry}

-- what one delivery weighs
abbrev weight_held : Held → ℕ
weight_held x = weight x.value

-- one comes in place of what was under its handle
pub put_weight : (h : ℕ) (x : Held) (got : Deliveries) → KeysAscend got
    → sum_of_held (with_entry h x got) + weight_found (entry_of h got) ≡ sum_of_held got + top (weight x.value)
put_weight h x [] s = grind arith
put_weight h x (e ∷ es) s =
    grind (
      arith,
      nat_tests,
      put_weight h x es (sorted_tail nat_cmp _ _ s),
      λ (l : h < e.0). entry_of_above h es (above_lower h e.0 _ l (sorted_head nat_cmp _ _ s)),
    )

-- one goes, where it is there
pub out_weight : (h : ℕ) (got : Deliveries)
    → sum_of_held (without_entry h got) + weight_found (entry_of h got) ≡ sum_of_held got
out_weight h [] = refl
out_weight h (e ∷ es) = grind (arith, nat_tests, out_weight h es)

pub weight_within : (h : ℕ) (got : Deliveries) → weight_found (entry_of h got) ≤ sum_of_held got
weight_within h got = omega (arith, out_weight h got)

length_values : (got : Deliveries) → length (values_of got) ≡ length got
length_values [] = refl
length_values (e ∷ es) = grind (arith, length_values es)

-- fewer than 2 ^ 63 deliveries leave room for one more
pub weight_fits : (got : Deliveries) → length got < 2 ^ 63 → sum_of_held got < 2 ^ 127
weight_fits got few =
    let fits = sum_of-fits weight_held (values_of got) in
    omega (arith, fits, few, length_values got)

pub count_got : (got : Deliveries) → (load_got (values_of got)).count ≡ length got
count_got [] = refl
count_got (e ∷ es) = grind (arith, count_got es)

whole_got : (got : Deliveries) → whole_of weight_held (values_of got) ≡ (load_got (values_of got)).weight
whole_got [] = refl
whole_got (e ∷ es) = ap (λ (n : ℕ). weight e.1.value + n) (whole_got es)

-- what is kept is told as what they weigh
pub weight_told : (got : Deliveries) → top (sum_of_held got) ≡ top (load_got (values_of got)).weight
weight_told got = sum_of-top weight_held (values_of got) ∙ ap top (whole_got got)
