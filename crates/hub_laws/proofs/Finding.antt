-- What is found among rows, and among those that a change leaves.
use Rattle.std.proofs.Common.{◌≡◌, ℕ, ◌<◌, ◌≤◌, ◌==◌, List, [], ◌∷◌, ◌++◌, Bool, true, false, cond, Option, Some, None}
use Rattle.std.proofs.Common.{Less, filter, refl, sym, ◌∙◌, arith, subst}
use Rattle.std.specs.List.{AllByRecursion}
use Rattle.std.specs.List.Sorted.{IsStrictlySortedBy}
use Rattle.std.specs.Ordering.{nat_cmp}
use Rattle.std.proofs.lemmas.Bool.Decides.{nat_tests}
use Rattle.std.proofs.lemmas.List.{map-append}
use Rattle.std.proofs.lemmas.Map.Keys.{sorted_head, sorted_tail}
use Rattle.pv_value.specs.Plain.{Plain}
use Rattle.ac_table.specs.declared.batches.Row.{Row}
use Rattle.ac_table.specs.Tables.{TableState, IsTable, find_row, handles, is_live, asserted, retracted, without_row}
use Rattle.ac_table.specs.Tables.{rows_of_others}
use Rattle.ac_table.specs.Lemmas.Lists.{all_filter, all_weaker}
use Rattle.ac_world.specs.Lemmas.Entries.{AreAbove, all_append, ascend_cons, ascend_push}

abbrev pub Ascend : List Row → Type 0
Ascend rows = IsStrictlySortedBy nat_cmp (handles rows)

-- ---- a row that is found

pub found_handle : (h : ℕ) (rows : List Row) (r : Row) → find_row h rows ≡ Some r → r.handle ≡ h
found_handle h [] r is = absurd cc
found_handle h (x ∷ xs) r is = grind (arith, is, found_handle h xs r)

-- what is true of each row is true of one that is found
pub found_all : (P : Row → Type 0) (h : ℕ) (rows : List Row) (r : Row) → AllByRecursion P rows
    → find_row h rows ≡ Some r → P r
found_all P h [] r all is = absurd cc
found_all P h (x ∷ xs) r all is = split (x.handle == h) refl (found_all P h xs r all.1)
  where
    split : (b : Bool) → (x.handle == h) ≡ b → (find_row h xs ≡ Some r → P r) → P r
    split true here later =
        let x_is : Some x ≡ Some r = sym (rw here refl) ∙ is in
        let same : x ≡ r = grind (arith, x_is) in
        subst P same all.0
    split false other later = later (rw other at is)

pub find_row-above : (h : ℕ) (rows : List Row) → AreAbove h (handles rows) → find_row h rows ≡ None
find_row-above h [] a = refl
find_row-above h (r ∷ rs) a = grind (arith, a.0, find_row-above h rs a.1)

pub find_row-below : (h n : ℕ) (rows : List Row) → AllByRecursion (λ r. r.handle < n) rows → n ≤ h
    → find_row h rows ≡ None
find_row-below h n [] a l = refl
find_row-below h n (r ∷ rs) a l = grind (arith, nat_tests, a.0, find_row-below h n rs a.1 l)

-- what is true of each row that is found is true of each
pub all_from_found : (P : Row → Type 0) (rows : List Row) → Ascend rows
    → ((h : ℕ) (r : Row) → find_row h rows ≡ Some r → P r) → AllByRecursion P rows
all_from_found P [] s each = tt
all_from_found P (x ∷ xs) s each =
    (each x.handle x (grind arith), all_from_found P xs (sorted_tail nat_cmp _ _ s) (λ h r is. each h r (later h r is)))
  where
    later : (h : ℕ) (r : Row) → find_row h xs ≡ Some r → find_row h (x ∷ xs) ≡ Some r
    later h r is =
        grind (
          arith,
          nat_tests,
          is,
          λ (same : x.handle ≡ h). find_row-above h xs (rw (← same) (sorted_head nat_cmp _ _ s)),
        )

-- ---- handles

pub all_handles : (P : ℕ → Type 0) (rows : List Row) → AllByRecursion (λ r. P r.handle) rows
    → AllByRecursion P (handles rows)
all_handles P [] a = tt
all_handles P (r ∷ rs) a = (a.0, all_handles P rs a.1)

pub all_of_handles : (P : ℕ → Type 0) (rows : List Row) → AllByRecursion P (handles rows)
    → AllByRecursion (λ r. P r.handle) rows
all_of_handles P [] a = tt
all_of_handles P (r ∷ rs) a = (a.0, all_of_handles P rs a.1)

pub ascend_filter : (test : Row → Bool) (rows : List Row) → Ascend rows → Ascend (filter test rows)
ascend_filter test [] s = s
ascend_filter test (r ∷ rs) s = split (test r) refl (ascend_filter test rs (sorted_tail nat_cmp _ _ s))
  where
    above : AreAbove r.handle (handles (filter test rs))
    above =
        all_handles (λ j. nat_cmp r.handle j ≡ Less) _
        (all_filter _ _ test (λ x passed l. l) rs
        (all_of_handles (λ j. nat_cmp r.handle j ≡ Less) rs (sorted_head nat_cmp _ _ s)))

    split : (b : Bool) → test r ≡ b → Ascend (filter test rs) → Ascend (filter test (r ∷ rs))
    split true is rest = rw is (ascend_cons r.handle _ above rest)
    split false is rest = rw is rest

pub ascend_new : (rows : List Row) (new : Row) → Ascend rows → AllByRecursion (λ r. r.handle < new.handle) rows
    → Ascend (rows ++ new ∷ [])
ascend_new rows new s below =
    rw (map-append (λ (r : Row). r.handle) rows (new ∷ []))
    (ascend_push (handles rows) new.handle (all_handles (λ h. h < new.handle) rows below) s)

-- ---- after a change

-- one more row, behind the others
pub find_row-push_old : (h : ℕ) (rows : List Row) (new r : Row) → find_row h rows ≡ Some r
    → find_row h (rows ++ new ∷ []) ≡ Some r
find_row-push_old h [] new r is = absurd cc
find_row-push_old h (x ∷ xs) new r is = grind (arith, nat_tests, is, find_row-push_old h xs new r)

pub find_row-push : (h : ℕ) (rows : List Row) (new : Row) → find_row new.handle rows ≡ None
    → find_row h (rows ++ new ∷ []) ≡ cond (new.handle == h) (Some new) (find_row h rows)
find_row-push h [] new none = refl
find_row-push h (x ∷ xs) new none = grind (arith, nat_tests, none, find_row-push h xs new)

pub find_row-without : (h k : ℕ) (rows : List Row)
    → find_row h (without_row k rows) ≡ cond (k == h) None (find_row h rows)
find_row-without h k [] = grind arith
find_row-without h k (r ∷ rs) = grind (arith, nat_tests, find_row-without h k rs)

-- a row, unless the actor owns it
abbrev pub unless_own : ℕ → Option Row → Option Row
unless_own a None = None
unless_own a (Some r) = cond (r.owner == a) None (Some r)

pub find_row-others : (h a : ℕ) (rows : List Row) → Ascend rows
    → find_row h (rows_of_others a rows) ≡ unless_own a (find_row h rows)
find_row-others h a [] s = refl
find_row-others h a (r ∷ rs) s =
    grind (
      arith,
      nat_tests,
      find_row-others h a rs (sorted_tail nat_cmp _ _ s),
      λ (same : r.handle ≡ h). find_row-above h rs (rw (← same) (sorted_head nat_cmp _ _ s)),
    )

-- ---- in a table

pub found_below : (h : ℕ) (t : TableState) (r : Row) → IsTable t → find_row h t.rows ≡ Some r → h < t.next
found_below h t r k is =
    let low : r.handle < t.next = found_all (λ r. r.handle < t.next) h t.rows r k.rows_below_next is in
    let same = found_handle h t.rows r is in
    omega arith

pub found_owner : (h : ℕ) (t : TableState) (r : Row) → IsTable t → find_row h t.rows ≡ Some r
    → is_live r.owner t ≡ true
found_owner h t r k is = found_all (λ r. is_live r.owner t ≡ true) h t.rows r k.owners_live is

pub none_from_next : (h : ℕ) (t : TableState) → IsTable t → t.next ≤ h → find_row h t.rows ≡ None
none_from_next h t k l = find_row-below h t.next t.rows k.rows_below_next l

abbrev pub row_next : ℕ → ℕ → ℕ → ℕ → Plain → TableState → Row
row_next owner facet target entity v t =
    record { handle = t.next; owner = owner; facet = facet; target = target; entity = entity; value = v }

-- the new row is found under what was the next handle, and the others as before
pub find_row-asserted : (h owner facet target entity : ℕ) (v : Plain) (t : TableState) → IsTable t
    → find_row h (asserted owner facet target entity v t).rows
    ≡ cond (t.next == h) (Some (row_next owner facet target entity v t)) (find_row h t.rows)
find_row-asserted h owner facet target entity v t k =
    find_row-push h t.rows (row_next owner facet target entity v t) (none_from_next t.next t k (omega arith))

pub find_row-retracted : (h k : ℕ) (t : TableState)
    → find_row h (retracted k t).rows ≡ cond (k == h) None (find_row h t.rows)
find_row-retracted h k t = find_row-without h k t.rows

pub asserted_table : (owner facet target entity : ℕ) (v : Plain) (t : TableState) → IsTable t
    → is_live owner t ≡ true → IsTable (asserted owner facet target entity v t)
asserted_table owner facet target entity v t k lives = record {
  rows_ascend = ascend_new t.rows (row_next owner facet target entity v t) k.rows_ascend k.rows_below_next;
  rows_below_next = all_append _ t.rows _
      (all_weaker _ _ (λ r l. omega (arith, l)) t.rows k.rows_below_next) (omega arith, tt);
  actors_ascend = k.actors_ascend;
  owners_live = all_append _ t.rows _ k.owners_live (lives, tt);
}

pub retracted_table : (h : ℕ) (t : TableState) → IsTable t → IsTable (retracted h t)
retracted_table h t k = record {
  rows_ascend = ascend_filter _ t.rows k.rows_ascend;
  rows_below_next = all_filter _ _ _ (λ r passed l. l) t.rows k.rows_below_next;
  actors_ascend = k.actors_ascend;
  owners_live = all_filter _ _ _ (λ r passed l. l) t.rows k.owners_live;
}
