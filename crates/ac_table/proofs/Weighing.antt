-- What the rows of each live actor weigh, as is kept with it.
use Rattle.std.proofs.Common.{◌≡◌, ℕ, ◌+◌, ◌-◌, ◌^◌, ◌<◌, ◌≤◌, Bool, true, false, ◌==◌, List, [], ◌∷◌, ◌++◌}
use Rattle.std.proofs.Common.{refl, ap, sym, ◌∙◌, arith, subst, Some, length}
use Rattle.std.specs.BTreeMap.{is_at}
use Rattle.std.specs.Ordering.{nat_cmp}
use Rattle.std.proofs.lemmas.Map.Keys.{sorted_head, sorted_tail}
use Rattle.pv_value.specs.Weight.{weight}
use Rattle.ac_table.specs.Kept.{ChangesAt, IsWeighed, sum_of_rows}
use Rattle.ac_table.specs.Lemmas.Sums.{sum_of-fits, sum_of-top, whole_of}
use Rattle.ac_table.specs.Sums.{top, weight_of_rows}
use Rattle.ac_table.specs.Tables.{Row, handles, rows_of, without_row, find_row}
use Rattle.ac_table.specs.declared.table.LiveActor.{LiveActor}
use Rattle.ac_table.specs.Lemmas.Entries.{is_at_same}
use Rattle.ac_table.proofs.Removing.{Ascend, without_row-above}

pub same_number : (a b : ℕ) → is_at (nat_cmp a) b ≡ true → a ≡ b
same_number a b is = grind (arith, is_at_same a b, is)

-- one live actor has what its rows weigh now, and the rows of the others are as before
pub weighed_renewed : (a : ℕ) (t : LiveActor) (actors new : List (ℕ × LiveActor)) (rows after : List Row)
    → IsWeighed actors rows → ChangesAt a (Some t) actors new → t.row_weight ≡ sum_of_rows (rows_of a after)
    → ((b : ℕ) → (a == b) ≡ false → rows_of b after ≡ rows_of b rows) → IsWeighed new after
weighed_renewed a t actors new rows after k ch weighs others b u is = split (is_at (nat_cmp a) b) refl
  where
    split : (c : Bool) → is_at (nat_cmp a) b ≡ c → u.row_weight ≡ sum_of_rows (rows_of b after)
    split true same =
        let number : a ≡ b = same_number a b same in
        let both : Some t ≡ Some u = sym (ch b ∙ rw same refl) ∙ is in
        let u_is : t ≡ u = grind (arith, both) in
        subst (λ (n : ℕ). u.row_weight ≡ sum_of_rows (rows_of n after)) number (rw (sym u_is) weighs)
    split false other =
        let apart : (a == b) ≡ false = grind (arith, is_at_same a b, other) in
        k b u (sym (ch b ∙ rw other refl) ∙ is) ∙ ap sum_of_rows (sym (others b apart))

-- one more
pub sum_of_rows-push : (a : ℕ) (rows : List Row) (r : Row) → (r.owner == a) ≡ true
    → sum_of_rows (rows_of a (rows ++ r ∷ [])) ≡ sum_of_rows (rows_of a rows) + top (weight r.value)
sum_of_rows-push a [] r own = rw own (grind arith)
sum_of_rows-push a (x ∷ xs) r own = grind (arith, sum_of_rows-push a xs r own)

-- one less
pub sum_of_rows-without : (a h : ℕ) (rows : List Row) (r : Row) → Ascend rows → find_row h rows ≡ Some r
    → (r.owner == a) ≡ true
    → sum_of_rows (rows_of a (without_row h rows)) + top (weight r.value) ≡ sum_of_rows (rows_of a rows)
sum_of_rows-without a h [] r s is own = absurd cc
sum_of_rows-without a h (x ∷ xs) r s is own =
    grind (
      arith,
      sum_of_rows-without a h xs r (sorted_tail nat_cmp _ _ s),
      λ (e : x.handle ≡ h). without_row-above h xs (rw (sym e) (sorted_head nat_cmp _ _ s)),
    )

pub less_weight : (h : ℕ) (r : Row) (now before : ℕ) (rows : List Row) → Ascend rows → find_row h rows ≡ Some r
    → now + top (weight r.value) ≡ before → before ≡ sum_of_rows (rows_of r.owner rows)
    → now ≡ sum_of_rows (rows_of r.owner (without_row h rows))
less_weight h r now before rows s found less was =
    let all = sum_of_rows-without r.owner h rows r s found (grind arith) in
    omega (arith, less, was, all)

-- a row weighs no more than all of its owner's
pub weight_within : (h : ℕ) (rows : List Row) (r : Row) (all : ℕ) → Ascend rows → find_row h rows ≡ Some r
    → all ≡ sum_of_rows (rows_of r.owner rows) → top (weight r.value) ≤ all
weight_within h rows r all s found is =
    let whole = sum_of_rows-without r.owner h rows r s found (grind arith) in
    omega (arith, is, whole)

length-handles : (rows : List Row) → length (handles rows) ≡ length rows
length-handles [] = refl
length-handles (r ∷ rs) = grind (arith, length-handles rs)

-- fewer than 2 ^ 63 rows leave room for one more
pub weight_fits : (w more : ℕ) (keys : List ℕ) (rows : List Row) → w ≡ sum_of_rows rows → keys ≡ handles rows
    → length keys < 2 ^ 63 → more ≤ 2 ^ 64 - 1 → w + more < 2 ^ 128
weight_fits w more keys rows is own few small =
    let fits = sum_of-fits (λ (r : Row). weight r.value) rows in
    let len : length keys ≡ length rows = ap length own ∙ length-handles rows in
    omega (arith, fits, is, len, few, small)

whole_of_rows : (rows : List Row) → whole_of (λ (r : Row). weight r.value) rows ≡ weight_of_rows rows
whole_of_rows [] = refl
whole_of_rows (r ∷ rs) = ap (λ (n : ℕ). weight r.value + n) (whole_of_rows rs)

-- what is kept is told as what they weigh
pub sum_of_rows-top : (rows : List Row) → top (sum_of_rows rows) ≡ top (weight_of_rows rows)
sum_of_rows-top rows = sum_of-top (λ (r : Row). weight r.value) rows ∙ ap top (whole_of_rows rows)
