-- Rows by handle, and tests of them.
use Rattle.std.proofs.Common.{◌≡◌, ℕ, ◌==◌, ◌||◌, ◌&&◌, List, [], ◌∷◌, Bool, true, false, cond, Some}
use Rattle.std.proofs.Common.{refl, ap, sym, ◌∙◌, arith}
use Rattle.std.proofs.lemmas.Bool.Decides.{nat_tests}
use Rattle.std.proofs.lemmas.Map.Keys.{sorted_head, sorted_tail}
use Rattle.std.specs.List.{list_any}
use Rattle.std.specs.Ordering.{nat_cmp}
use Rattle.ac_table.specs.declared.batches.Row.{Row}
use Rattle.ac_table.specs.Lemmas.Leaves.{one_key}
use Rattle.ac_table.specs.Maps.{is_key}
use Rattle.ac_table.specs.Tables.{TableState, IsTable, find_row, has_rows, stands_in}
use Rattle.hub_laws.proofs.Finding.{Ascend, find_row-above}
use Rattle.hub_facets.specs.Rooms.{IsLivedIn}

-- ---- one of the rows passes

record Passes (p : Row → Bool) (rows : List Row) : Type 0 where
  handle : ℕ
  row : Row
  found : find_row handle rows ≡ Some row
  passes : p row ≡ true

passes_later : (p : Row → Bool) (x : Row) (xs : List Row) → Ascend (x ∷ xs) → Passes p xs → Passes p (x ∷ xs)
passes_later p x xs s l = record {
  handle = l.handle;
  row = l.row;
  found =
      grind (
        arith,
        nat_tests,
        l.found,
        λ (same : x.handle ≡ l.handle). find_row-above l.handle xs (rw (← same) (sorted_head nat_cmp _ _ s)),
      );
  passes = l.passes;
}

found_passing : (p : Row → Bool) (rows : List Row) → Ascend rows → list_any p rows ≡ true → Passes p rows
found_passing p [] s is = absurd cc
found_passing p (x ∷ xs) s is =
    by (p x) refl is (λ later. found_passing p xs (sorted_tail nat_cmp _ _ s) later)
  where
    by : (b : Bool) → p x ≡ b → (b || list_any p xs) ≡ true → (list_any p xs ≡ true → Passes p xs)
        → Passes p (x ∷ xs)
    by true here is later = record { handle = x.handle; row = x; found = grind arith; passes = here }
    by false past is later = passes_later p x xs s (later is)

or_later : (c d : Bool) → d ≡ true → (c || d) ≡ true
or_later true d is = refl
or_later false d is = is

passing_found : (p : Row → Bool) (h : ℕ) (rows : List Row) (r : Row) → find_row h rows ≡ Some r → p r ≡ true
    → list_any p rows ≡ true
passing_found p h [] r is passes = absurd cc
passing_found p h (x ∷ xs) r is passes = by (x.handle == h) is (λ later. passing_found p h xs r later passes)
  where
    by : (b : Bool) → cond b (Some x) (find_row h xs) ≡ Some r → (find_row h xs ≡ Some r → list_any p xs ≡ true)
        → (p x || list_any p xs) ≡ true
    by true here later = let same : x ≡ r = cc in ap (λ b. b || list_any p xs) (ap p same ∙ passes)
    by false past later = or_later (p x) (list_any p xs) (later past)

-- ---- rows in a facet

both_hold : (b c : Bool) → (b && c) ≡ true → (b ≡ true) × (c ≡ true)
both_hold true c is = (refl, is)
both_hold false c is = absurd cc

pub lived_in_of : (a f : ℕ) (t : TableState) → IsTable t → has_rows a f t ≡ true → IsLivedIn a f t.rows
lived_in_of a f t k is =
    let x = found_passing (stands_in a (f ∷ [])) t.rows k.rows_ascend is in
    let both = both_hold (x.row.owner == a) (is_key x.row.facet (f ∷ [])) x.passes in
    record {
      handle = x.handle;
      row = x.row;
      stands = x.found;
      owner = same x.row.owner a both.0;
      facet = same x.row.facet f (sym (one_key x.row.facet f) ∙ both.1);
    }
  where
    same : (m n : ℕ) → (m == n) ≡ true → m ≡ n
    same m n is = grind (arith, nat_tests, is)

pub has_rows_of : (a f h : ℕ) (r : Row) (t : TableState) → find_row h t.rows ≡ Some r → r.owner ≡ a → r.facet ≡ f
    → has_rows a f t ≡ true
has_rows_of a f h r t found own stands =
    passing_found (stands_in a (f ∷ [])) h t.rows r found
    (λ i. equal r.owner a own i && (one_key r.facet f ∙ equal r.facet f stands) i)
  where
    equal : (m n : ℕ) → m ≡ n → (m == n) ≡ true
    equal m n is = grind (arith, nat_tests, is)
