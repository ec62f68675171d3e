-- Rows by handle: each handle stands once, and a row that its owner takes back goes.
use Rattle.std.proofs.Common.{◌≡◌, ℕ, ◌<◌, List, [], ◌∷◌, ◌++◌, ◌==◌, ◌&&◌, Bool, true, false, cond, not, filter}
use Rattle.std.proofs.Common.{Option, Some, None, Less, refl, ap, sym, ◌∙◌, subst, arith}
use Rattle.std.proofs.lemmas.Bool.Decides.{nat_tests}
use Rattle.std.proofs.lemmas.Map.Keys.{sorted_head, sorted_tail}
use Rattle.std.specs.List.{AllByRecursion}
use Rattle.std.specs.List.Sorted.{IsStrictlySortedBy}
use Rattle.std.specs.Ordering.{nat_cmp}
use Rattle.ac_table.specs.declared.batches.Row.{Row}
use Rattle.ac_table.specs.Tables.{find_row, handles, without_row}
use Rattle.ac_world.specs.Outboxes.{Plan, drop_row, drop_own, dropped}

-- no handle stands twice
abbrev pub AreOnce : List Row → Type 0
AreOnce [] = Unit {0}
AreOnce (r ∷ rs) = (find_row r.handle rs ≡ None) × AreOnce rs

none_above : (h : ℕ) (rows : List Row) → AllByRecursion (λ j. nat_cmp h j ≡ Less) (handles rows)
    → find_row h rows ≡ None
none_above h [] above = refl
none_above h (r ∷ rs) above = grind (arith, above.0, none_above h rs above.1)

pub once_sorted : (rows : List Row) → IsStrictlySortedBy nat_cmp (handles rows) → AreOnce rows
once_sorted [] sorted = tt
once_sorted (r ∷ rs) sorted =
    (none_above r.handle rs (sorted_head nat_cmp _ _ sorted), once_sorted rs (sorted_tail nat_cmp _ _ sorted))

pub none_below : (h : ℕ) (rows : List Row) → AllByRecursion (λ r. r.handle < h) rows → find_row h rows ≡ None
none_below h [] below = refl
none_below h (r ∷ rs) below = grind (arith, nat_tests, below.0, none_below h rs below.1)

none_filter : (h : ℕ) (test : Row → Bool) (rows : List Row) → find_row h rows ≡ None
    → find_row h (filter test rows) ≡ None
none_filter h test [] none = refl
none_filter h test (r ∷ rs) none = by (r.handle == h) (test r) refl none (none_filter h test rs)
  where
    by : (b c : Bool) → (r.handle == h) ≡ b → cond b (Some r) (find_row h rs) ≡ None
        → (find_row h rs ≡ None → find_row h (filter test rs) ≡ None)
        → find_row h (cond c (r ∷ filter test rs) (filter test rs)) ≡ None
    by true c is none later = absurd cc
    by false true is none later = rw is (later none)
    by false false is none later = later none

pub once_filter : (test : Row → Bool) (rows : List Row) → AreOnce rows → AreOnce (filter test rows)
once_filter test [] once = tt
once_filter test (r ∷ rs) once = by (test r) (once_filter test rs once.1)
  where
    by : (b : Bool) → AreOnce (filter test rs) → AreOnce (cond b (r ∷ filter test rs) (filter test rs))
    by true later = (none_filter r.handle test rs once.0, later)
    by false later = later

none_push : (h : ℕ) (rows : List Row) (new : Row) → find_row h rows ≡ None → h < new.handle
    → find_row h (rows ++ new ∷ []) ≡ None
none_push h [] new none less = grind (arith, nat_tests, less)
none_push h (r ∷ rs) new none less = grind (arith, nat_tests, none, less, none_push h rs new)

pub once_push : (rows : List Row) (new : Row) → AllByRecursion (λ r. r.handle < new.handle) rows → AreOnce rows
    → AreOnce (rows ++ new ∷ [])
once_push [] new below once = (refl, tt)
once_push (r ∷ rs) new below once = (none_push r.handle rs new once.0 below.0, once_push rs new below.1 once.1)

-- ---- a row goes

-- whether a row isn't the owner's under this handle
abbrev pub stays : ℕ → ℕ → Row → Bool
stays a n r = not ((r.handle == n) && (r.owner == a))

all_stay : (a n : ℕ) (rows : List Row) → find_row n rows ≡ None → filter (stays a n) rows ≡ rows
all_stay a n [] none = refl
all_stay a n (r ∷ rs) none = by (r.handle == n) none (all_stay a n rs)
  where
    by : (b : Bool) → cond b (Some r) (find_row n rs) ≡ None
        → (find_row n rs ≡ None → filter (stays a n) rs ≡ rs)
        → cond (not (b && (r.owner == a))) (r ∷ filter (stays a n) rs) (filter (stays a n) rs) ≡ r ∷ rs
    by true none later = absurd cc
    by false none later = ap (λ ys. r ∷ ys) (later none)

without_none : (n : ℕ) (rows : List Row) → find_row n rows ≡ None → without_row n rows ≡ rows
without_none n [] none = refl
without_none n (r ∷ rs) none = by (r.handle == n) none (without_none n rs)
  where
    by : (b : Bool) → cond b (Some r) (find_row n rs) ≡ None
        → (find_row n rs ≡ None → without_row n rs ≡ rs)
        → cond (not b) (r ∷ without_row n rs) (without_row n rs) ≡ r ∷ rs
    by true none later = absurd cc
    by false none later = ap (λ ys. r ∷ ys) (later none)

-- one row is found, of the owner or of another
found_goes : (a n : ℕ) (rows : List Row) (r : Row) → AreOnce rows → find_row n rows ≡ Some r
    → cond (r.owner == a) (without_row n rows) rows ≡ filter (stays a n) rows
found_goes a n [] r once found = absurd cc
found_goes a n (x ∷ xs) r once found =
    by (x.handle == n) refl found (λ later. found_goes a n xs r once.1 later)
  where
    none_left : (x.handle == n) ≡ true → find_row n xs ≡ None
    none_left is = let one : x.handle ≡ n = grind (arith, nat_tests, is) in subst (λ h. find_row h xs ≡ None) one once.0

    of_owner : (c : Bool) → find_row n xs ≡ None
        → cond c (without_row n xs) (x ∷ xs) ≡ cond (not c) (x ∷ filter (stays a n) xs) (filter (stays a n) xs)
    of_owner true none = without_none n xs none ∙ sym (all_stay a n xs none)
    of_owner false none = ap (λ ys. x ∷ ys) (sym (all_stay a n xs none))

    keep : (c : Bool) → cond c (without_row n xs) xs ≡ filter (stays a n) xs
        → cond c (x ∷ without_row n xs) (x ∷ xs) ≡ x ∷ filter (stays a n) xs
    keep true later = ap (λ ys. x ∷ ys) later
    keep false later = ap (λ ys. x ∷ ys) later

    by : (b : Bool) → (x.handle == n) ≡ b → cond b (Some x) (find_row n xs) ≡ Some r
        → (find_row n xs ≡ Some r → cond (r.owner == a) (without_row n xs) xs ≡ filter (stays a n) xs)
        → cond (r.owner == a) (cond (not b) (x ∷ without_row n xs) (without_row n xs)) (x ∷ xs)
        ≡ cond (not (b && (x.owner == a))) (x ∷ filter (stays a n) xs) (filter (stays a n) xs)
    by true is found later =
        let same : x ≡ r = cc in
        subst (λ y. cond (y.owner == a) (without_row n xs) (x ∷ xs)
        ≡ cond (not (x.owner == a)) (x ∷ filter (stays a n) xs) (filter (stays a n) xs)) same
        (of_owner (x.owner == a) (none_left is))
    by false is found later = keep (r.owner == a) (later found)

found_handle : (h : ℕ) (rows : List Row) (r : Row) → find_row h rows ≡ Some r → r.handle ≡ h
found_handle h [] r is = absurd cc
found_handle h (x ∷ xs) r is = grind (arith, nat_tests, is, found_handle h xs r)

pub rows_dropped : (a n : ℕ) (p : Plan) → AreOnce p.table.rows
    → (dropped a n p).table.rows ≡ filter (stays a n) p.table.rows
rows_dropped a n p once = by (find_row n p.table.rows) refl
  where
    drops : (r : Row) (b : Bool) → r.handle ≡ n
        → (cond b (drop_row r p) p).table.rows ≡ cond b (without_row n p.table.rows) p.table.rows
    drops r true is = ap (λ h. without_row h p.table.rows) is
    drops r false is = refl

    by : (o : Option Row) → find_row n p.table.rows ≡ o
        → (drop_own a o p).table.rows ≡ filter (stays a n) p.table.rows
    by None is = sym (all_stay a n p.table.rows is)
    by (Some r) is =
        drops r (r.owner == a) (found_handle n p.table.rows r is) ∙ found_goes a n p.table.rows r once is

pub next_dropped : (a n : ℕ) (p : Plan) → (dropped a n p).table.next ≡ p.table.next
next_dropped a n p = by (find_row n p.table.rows)
  where
    drops : (r : Row) (b : Bool) → (cond b (drop_row r p) p).table.next ≡ p.table.next
    drops r true = refl
    drops r false = refl

    by : (o : Option Row) → (drop_own a o p).table.next ≡ p.table.next
    by None = refl
    by (Some r) = drops r (r.owner == a)
