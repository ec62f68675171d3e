-- From a table on rows come under handles that weren't drawn yet, and go; whatever is done.
use Rattle.std.proofs.Common.{◌≡◌, ℕ, ◌+◌, ◌<◌, ◌≤◌, ◌==◌, List, [], ◌∷◌, ◌++◌, Bool, true, false, cond}
use Rattle.std.proofs.Common.{Some, None, ◌⊎◌, inl, inr, filter, refl, sym, ◌∙◌, subst, arith}
use Rattle.std.specs.List.{AllByRecursion}
use Rattle.std.specs.Ordering.{nat_cmp}
use Rattle.std.proofs.lemmas.Bool.Decides.{nat_tests}
use Rattle.std.proofs.lemmas.Map.Keys.{sorted_head, sorted_tail}
use Rattle.ac_table.specs.declared.batches.Row.{Row}
use Rattle.ac_table.specs.Tables.{find_row}
use Rattle.ac_table.specs.Lemmas.Lists.{all_weaker}
use Rattle.ac_world.specs.Lemmas.Entries.{all_append}
use Rattle.hub_valid.specs.Lemmas.Filtered.{all_kept}
use Rattle.hub_laws.proofs.Finding.{Ascend, find_row-above, find_row-below, find_row-push, ascend_filter, ascend_new}

-- The rows, with their next handle, are those of a table after one that had the next handle n and the old rows: each of
-- them is an old one, or its handle wasn't drawn yet.
pub record IsAfter (n : ℕ) (old : List Row) (next : ℕ) (rows : List Row) : Type 0 where
  pub ascend : Ascend rows
  pub below : AllByRecursion (λ r. r.handle < next) rows
  pub later : n ≤ next
  pub anew : (h : ℕ) (r : Row) → find_row h rows ≡ Some r → (find_row h old ≡ Some r) ⊎ (n ≤ h)

pub after_itself : (next : ℕ) (rows : List Row) → Ascend rows → AllByRecursion (λ r. r.handle < next) rows
    → IsAfter next rows next rows
after_itself next rows ascend below =
    record { ascend = ascend; below = below; later = omega arith; anew = λ h r is. inl is }

-- ---- a row comes

pub after_new : (n : ℕ) (old : List Row) (next : ℕ) (rows : List Row) (new : Row) → new.handle ≡ next
    → IsAfter n old next rows → IsAfter n old (next + 1) (rows ++ new ∷ [])
after_new n old next rows new same k = record {
  ascend = ascend_new rows new k.ascend below;
  below = all_append _ rows (new ∷ []) (all_weaker _ _ (λ r l. omega (arith, l)) rows k.below)
      (omega (arith, same), tt);
  later = omega (arith, k.later);
  anew = λ h r is. by h r (new.handle == h) refl (sym (find_row-push h rows new none) ∙ is);
}
  where
    below : AllByRecursion (λ r. r.handle < new.handle) rows
    below = subst (λ m. AllByRecursion (λ r. r.handle < m) rows) (sym same) k.below

    none : find_row new.handle rows ≡ None
    none = find_row-below new.handle new.handle rows below (omega arith)

    by : (h : ℕ) (r : Row) (c : Bool) → (new.handle == h) ≡ c → cond c (Some new) (find_row h rows) ≡ Some r
        → (find_row h old ≡ Some r) ⊎ (n ≤ h)
    by h r true here is =
        let handle : new.handle ≡ h = grind (arith, nat_tests, here) in
        inr (omega (arith, handle, same, k.later))
    by h r false other is = k.anew h r is

-- ---- rows go

-- a row that is found among some of them is found among all
found_among : (test : Row → Bool) (h : ℕ) (rows : List Row) (r : Row) → Ascend rows
    → find_row h (filter test rows) ≡ Some r → find_row h rows ≡ Some r
found_among test h [] r s is = is
found_among test h (x ∷ xs) r s is =
    by (test x) refl is (found_among test h xs r (sorted_tail nat_cmp _ _ s))
  where
    here : (c : Bool) → cond c (Some x) (find_row h (filter test xs)) ≡ Some r
        → (find_row h (filter test xs) ≡ Some r → find_row h xs ≡ Some r) → cond c (Some x) (find_row h xs) ≡ Some r
    here true found later = found
    here false found later = later found

    passed : (c : Bool) → (x.handle == h) ≡ c → find_row h xs ≡ Some r → cond c (Some x) (find_row h xs) ≡ Some r
    passed true same found =
        let one : x.handle ≡ h = grind (arith, nat_tests, same) in
        let none : find_row h xs ≡ None =
        subst (λ g. find_row g xs ≡ None) one (find_row-above x.handle xs (sorted_head nat_cmp _ _ s)) in
        absurd (let clash : None ≡ Some r = sym none ∙ found in cc)
    passed false other found = found

    by : (b : Bool) → test x ≡ b → find_row h (cond b (x ∷ filter test xs) (filter test xs)) ≡ Some r
        → (find_row h (filter test xs) ≡ Some r → find_row h xs ≡ Some r) → find_row h (x ∷ xs) ≡ Some r
    by true stays found later = here (x.handle == h) found later
    by false goes found later = passed (x.handle == h) refl (later found)

pub after_less : (test : Row → Bool) (n : ℕ) (old : List Row) (next : ℕ) (rows : List Row) → IsAfter n old next rows
    → IsAfter n old next (filter test rows)
after_less test n old next rows k = record {
  ascend = ascend_filter test rows k.ascend;
  below = all_kept _ test rows k.below;
  later = k.later;
  anew = λ h r is. k.anew h r (found_among test h rows r k.ascend is);
}
