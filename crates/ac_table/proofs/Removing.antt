-- Rows that ascend by handle, without one of them.
use Rattle.std.proofs.Common.{◌≡◌, ℕ, ◌<◌, true, false, ◌==◌, List, [], ◌∷◌, map, refl, ap, arith, sym}
use Rattle.std.proofs.Common.{◌∙◌, Some, None, Less, subst}
use Rattle.std.specs.BTreeMap.{is_at}
use Rattle.std.specs.List.{AllByRecursion}
use Rattle.std.specs.List.Sorted.{IsStrictlySortedBy}
use Rattle.std.specs.Map.{keys_of, values_of, remove_entry}
use Rattle.std.specs.Ordering.{nat_cmp}
use Rattle.std.specs.Set.{remove_key}
use Rattle.std.proofs.lemmas.Map.Keys.{sorted_head, sorted_tail}
use Rattle.ac_table.specs.Tables.{Row, handles, rows_of, without_row, find_row}
use Rattle.ac_table.specs.Kept.{by_handle, value_at, KeysAscend}
use Rattle.ac_table.specs.Lemmas.Entries.{is_at_same}
use Rattle.ac_table.proofs.Finding.{find_row-by_handle}

abbrev pub Ascend : List Row → Type 0
Ascend rows = IsStrictlySortedBy nat_cmp (handles rows)

pub values-by_handle : (rows : List Row) → values_of (map by_handle rows) ≡ rows
values-by_handle [] = refl
values-by_handle (r ∷ rs) = ap (λ t. r ∷ t) (values-by_handle rs)

pub keys-by_handle : (rows : List Row) → keys_of (map by_handle rows) ≡ handles rows
keys-by_handle [] = refl
keys-by_handle (r ∷ rs) = ap (λ t. r.handle ∷ t) (keys-by_handle rs)

-- none of the rows is below this handle, or at it
abbrev pub AreAbove : ℕ → List Row → Type 0
AreAbove h rows = AllByRecursion (λ k. nat_cmp h k ≡ Less) (handles rows)

pub without_row-above : (h : ℕ) (rows : List Row) → AreAbove h rows → without_row h rows ≡ rows
without_row-above h [] a = refl
without_row-above h (r ∷ rs) a = grind (arith, a.0, without_row-above h rs a.1)

pub find_row-above : (h : ℕ) (rows : List Row) → AreAbove h rows → find_row h rows ≡ None
find_row-above h [] a = refl
find_row-above h (r ∷ rs) a = grind (arith, a.0, find_row-above h rs a.1)

pub above_found : (k h : ℕ) (rows : List Row) (r : Row) → AreAbove k rows → find_row h rows ≡ Some r → k < h
above_found k h [] r a is = absurd cc
above_found k h (x ∷ xs) r a is = grind (arith, a.0, above_found k h xs r a.1)

pub remove-by_handle : (h : ℕ) (rows : List Row) → Ascend rows
    → remove_entry (is_at (nat_cmp h)) (map by_handle rows) ≡ map by_handle (without_row h rows)
remove-by_handle h [] s = refl
remove-by_handle h (r ∷ rs) s =
    grind (
      arith,
      is_at_same h r.handle,
      remove-by_handle h rs (sorted_tail nat_cmp _ _ s),
      λ (e : r.handle ≡ h). without_row-above h rs (rw (sym e) (sorted_head nat_cmp _ _ s)),
    )

-- another actor's rows stay
pub rows_of-without_other : (a h : ℕ) (rows : List Row) (r : Row) → Ascend rows → find_row h rows ≡ Some r
    → (r.owner == a) ≡ false → rows_of a (without_row h rows) ≡ rows_of a rows
rows_of-without_other a h [] r s is other = absurd cc
rows_of-without_other a h (x ∷ xs) r s is other =
    grind (
      arith,
      rows_of-without_other a h xs r (sorted_tail nat_cmp _ _ s),
      λ (e : x.handle ≡ h). without_row-above h xs (rw (sym e) (sorted_head nat_cmp _ _ s)),
    )

-- of the owner's, this one goes
pub handles-without : (a h : ℕ) (rows : List Row) (r : Row) → Ascend rows → find_row h rows ≡ Some r
    → (r.owner == a) ≡ true
    → handles (rows_of a (without_row h rows)) ≡ remove_key (is_at (nat_cmp h)) (handles (rows_of a rows))
handles-without a h [] r s is own = absurd cc
handles-without a h (x ∷ xs) r s is own =
    grind (
      arith,
      is_at_same h x.handle,
      handles-without a h xs r (sorted_tail nat_cmp _ _ s),
      λ (e : x.handle ≡ h). without_row-above h xs (rw (sym e) (sorted_head nat_cmp _ _ s)),
    )

-- ---- the entries of the rows

pub ascend_from : (es : List (ℕ × Row)) → es ≡ map by_handle (values_of es) → KeysAscend es → Ascend (values_of es)
ascend_from es keyed ordered =
    subst (IsStrictlySortedBy nat_cmp) (ap keys_of keyed ∙ keys-by_handle (values_of es)) ordered

pub found_from : (es : List (ℕ × Row)) (h : ℕ) → es ≡ map by_handle (values_of es)
    → value_at h es ≡ find_row h (values_of es)
found_from es h keyed = ap (value_at h) keyed ∙ find_row-by_handle h (values_of es)

pub values_removed : (es new : List (ℕ × Row)) (h : ℕ) → es ≡ map by_handle (values_of es) → KeysAscend es
    → new ≡ remove_entry (is_at (nat_cmp h)) es → new ≡ map by_handle (without_row h (values_of es))
values_removed es new h keyed ordered is = is ∙ ap (remove_entry (is_at (nat_cmp h))) keyed
    ∙ remove-by_handle h (values_of es) (ascend_from es keyed ordered)

pub values_from : (es : List (ℕ × Row)) (rows : List Row) → es ≡ map by_handle rows → values_of es ≡ rows
values_from es rows is = ap values_of is ∙ values-by_handle rows

pub keyed_from : (es : List (ℕ × Row)) (rows : List Row) → es ≡ map by_handle rows → es ≡ map by_handle (values_of es)
keyed_from es rows is = is ∙ ap (map by_handle) (sym (values_from es rows is))
