-- What the rows of an actor weigh: more with one that comes, less without one that goes, and as much as before where
-- other rows change.
use Rattle.std.proofs.Common.{◌≡◌, ◌≢◌, ℕ, ◌+◌, ◌==◌, List, [], ◌∷◌, ◌++◌, Bool, true, false, cond, not}
use Rattle.std.proofs.Common.{Option, Some, None, refl, ap, sym, ◌∙◌, subst, arith}
use Rattle.std.specs.List.{AllByRecursion}
use Rattle.std.specs.Map.{keys_of}
use Rattle.std.specs.Ordering.{nat_cmp}
use Rattle.std.proofs.lemmas.Bool.Decides.{nat_tests}
use Rattle.std.proofs.lemmas.Map.Keys.{sorted_head, sorted_tail}
use Rattle.pv_value.specs.Weight.{weight}
use Rattle.ac_table.specs.declared.batches.Row.{Row as TableRow}
use Rattle.ac_table.specs.Sums.{weight_of_rows}
use Rattle.ac_table.specs.Tables.{find_row, rows_of, without_row, handles}
use Rattle.ac_world.specs.Worlds.{entry_of}
use Rattle.ac_world.specs.Lemmas.Entries.{KeysAscend, AreAbove, ascend_none, ascend_cons, entry_of_above}
use Rattle.hub_laws.proofs.Finding.{Ascend, find_row-above}
use Rattle.hub_laws.proofs.Lists.{same_entries}

-- what an actor's rows weigh
abbrev pub weighs : ℕ → List TableRow → ℕ
weighs a rows = weight_of_rows (rows_of a rows)

-- ---- one more, and one less

-- with one row more of the actor's they weigh as much more as that weighs
pub weighs_more : (a : ℕ) (rows : List TableRow) (r : TableRow) → r.owner ≡ a
    → weighs a (rows ++ r ∷ []) ≡ weighs a rows + weight r.value
weighs_more a [] r own =
    let same : (r.owner == a) ≡ true = grind (arith, nat_tests, own) in
    ap (λ b. weight_of_rows (cond b (r ∷ []) [])) same ∙ omega arith
weighs_more a (q ∷ rows) r own = by (q.owner == a) (weighs_more a rows r own)
  where
    by : (b : Bool) → weighs a (rows ++ r ∷ []) ≡ weighs a rows + weight r.value
        → weight_of_rows (cond b (q ∷ rows_of a (rows ++ r ∷ [])) (rows_of a (rows ++ r ∷ [])))
        ≡ weight_of_rows (cond b (q ∷ rows_of a rows) (rows_of a rows)) + weight r.value
    by true more = omega (arith, more)
    by false more = more

-- where no row has the handle, nothing goes
none_without : (n : ℕ) (rows : List TableRow) → find_row n rows ≡ None → without_row n rows ≡ rows
none_without n [] none = refl
none_without n (q ∷ rows) none = by (q.handle == n) none (none_without n rows)
  where
    by : (b : Bool) → cond b (Some q) (find_row n rows) ≡ None → (find_row n rows ≡ None → without_row n rows ≡ rows)
        → cond (not b) (q ∷ without_row n rows) (without_row n rows) ≡ q ∷ rows
    by true is later = absurd cc
    by false is later = ap (λ l. q ∷ l) (later is)

-- without a row of the actor's they weigh as much less as that weighs
pub weighs_less : (a n : ℕ) (rows : List TableRow) (r : TableRow) → Ascend rows → find_row n rows ≡ Some r
    → r.owner ≡ a → weighs a (without_row n rows) + weight r.value ≡ weighs a rows
weighs_less a n [] r s found own = absurd cc
weighs_less a n (q ∷ rows) r s found own =
    by (q.handle == n) (q.owner == a) refl refl found
    (weighs_less a n rows r (sorted_tail nat_cmp _ _ s))
  where
    by : (b c : Bool) → (q.handle == n) ≡ b → (q.owner == a) ≡ c → cond b (Some q) (find_row n rows) ≡ Some r
        → (find_row n rows ≡ Some r → r.owner ≡ a → weighs a (without_row n rows) + weight r.value ≡ weighs a rows)
        → weighs a (cond (not b) (q ∷ without_row n rows) (without_row n rows)) + weight r.value
        ≡ weight_of_rows (cond c (q ∷ rows_of a rows) (rows_of a rows))
    by true true here mine is later =
        let one : q ≡ r = cc in
        let same : q.handle ≡ n = grind (arith, nat_tests, here) in
        let none : find_row n rows ≡ None =
        find_row-above n rows (subst (λ h. AreAbove h (handles rows)) same (sorted_head nat_cmp _ _ s)) in
        let left : weighs a (without_row n rows) ≡ weighs a rows = ap (weighs a) (none_without n rows none) in
        let weight_is : weight r.value ≡ weight q.value = ap (λ (x : TableRow). weight x.value) (sym one) in
        omega (arith, left, weight_is)
    by true false here other is later =
        let one : q ≡ r = cc in
        let mine : q.owner ≡ a = ap (λ (x : TableRow). x.owner) one ∙ own in
        absurd (grind (arith, nat_tests, other, mine))
    by false true here mine is later =
        let rest = later is own in
        ap (λ b. weight_of_rows (cond b (q ∷ rows_of a (without_row n rows)) (rows_of a (without_row n rows)))
        + weight r.value) mine ∙ omega (arith, rest)
    by false false here other is later =
        let rest = later is own in
        ap (λ b. weight_of_rows (cond b (q ∷ rows_of a (without_row n rows)) (rows_of a (without_row n rows)))
        + weight r.value) other ∙ rest

-- who owns no row has none that weighs
pub none_weigh : (a : ℕ) (rows : List TableRow) → AllByRecursion (λ r. r.owner ≢ a) rows → weighs a rows ≡ 0
none_weigh a [] none = refl
none_weigh a (r ∷ rows) none = by (r.owner == a) refl (none_weigh a rows none.1)
  where
    by : (b : Bool) → (r.owner == a) ≡ b → weighs a rows ≡ 0
        → weight_of_rows (cond b (r ∷ rows_of a rows) (rows_of a rows)) ≡ 0
    by true own later = absurd (none.0 (grind (arith, nat_tests, own)))
    by false other later = later

-- ---- an actor's rows by their handles

abbrev owned : ℕ → List TableRow → List (ℕ × TableRow)
owned a [] = []
owned a (r ∷ rows) = cond (r.owner == a) ((r.handle, r) ∷ owned a rows) (owned a rows)

-- what each handle passes, each of the actor's does
owned_pass : (P : ℕ → Type 0) (a : ℕ) (rows : List TableRow) → AllByRecursion P (handles rows)
    → AllByRecursion P (keys_of (owned a rows))
owned_pass P a [] all = tt
owned_pass P a (r ∷ rows) all = by (r.owner == a) (owned_pass P a rows all.1)
  where
    by : (b : Bool) → AllByRecursion P (keys_of (owned a rows))
        → AllByRecursion P (keys_of (cond b ((r.handle, r) ∷ owned a rows) (owned a rows)))
    by true later = (all.0, later)
    by false later = later

-- they ascend as the handles of all rows do
owned_ascend : (a : ℕ) (rows : List TableRow) → Ascend rows → KeysAscend (owned a rows)
owned_ascend a [] s = ascend_none
owned_ascend a (r ∷ rows) s = by (r.owner == a) (owned_ascend a rows (sorted_tail nat_cmp _ _ s))
  where
    by : (b : Bool) → KeysAscend (owned a rows) → KeysAscend (cond b ((r.handle, r) ∷ owned a rows) (owned a rows))
    by true later = ascend_cons r.handle _ (owned_pass _ a rows (sorted_head nat_cmp _ _ s)) later
    by false later = later

-- a row, where the actor owns it
abbrev own_of : ℕ → Option TableRow → Option TableRow
own_of a None = None
own_of a (Some r) = cond (r.owner == a) (Some r) None

-- what is found among them is what is found among all rows, where it is the actor's
found_owned : (h a : ℕ) (rows : List TableRow) → Ascend rows
    → entry_of h (owned a rows) ≡ own_of a (find_row h rows)
found_owned h a [] s = refl
found_owned h a (r ∷ rows) s =
    grind (
      arith,
      nat_tests,
      found_owned h a rows (sorted_tail nat_cmp _ _ s),
      λ (same : r.handle ≡ h). entry_of_above h (owned a rows)
          (owned_pass _ a rows (rw (← same) (sorted_head nat_cmp _ _ s))),
    )

-- what they weigh
abbrev weight_of_owned : List (ℕ × TableRow) → ℕ
weight_of_owned [] = 0
weight_of_owned (e ∷ es) = weight e.1.value + weight_of_owned es

-- it is the same
weighs_owned : (a : ℕ) (rows : List TableRow) → weighs a rows ≡ weight_of_owned (owned a rows)
weighs_owned a [] = refl
weighs_owned a (r ∷ rows) = by (r.owner == a) (weighs_owned a rows)
  where
    by : (b : Bool) → weighs a rows ≡ weight_of_owned (owned a rows)
        → weight_of_rows (cond b (r ∷ rows_of a rows) (rows_of a rows))
        ≡ weight_of_owned (cond b ((r.handle, r) ∷ owned a rows) (owned a rows))
    by true same = ap (λ n. weight r.value + n) same
    by false same = same

-- ---- where the rows of others change

-- the actor's rows are found as before
pub record KeepsRows (a : ℕ) (old new : List TableRow) : Type 0 where
  pub stay : (h : ℕ) (r : TableRow) → find_row h old ≡ Some r → r.owner ≡ a → find_row h new ≡ Some r
  pub back : (h : ℕ) (r : TableRow) → find_row h new ≡ Some r → r.owner ≡ a → find_row h old ≡ Some r

-- where each of two finds what the other does, of what is the actor's the same is found
same_own : (a : ℕ) (o p : Option TableRow) → ((r : TableRow) → o ≡ Some r → r.owner ≡ a → p ≡ Some r)
    → ((r : TableRow) → p ≡ Some r → r.owner ≡ a → o ≡ Some r) → own_of a o ≡ own_of a p
same_own a None None stay back = refl
same_own a None (Some q) stay back = by (q.owner == a) refl
  where
    by : (b : Bool) → (q.owner == a) ≡ b → ◌≡◌ {A = Option TableRow} None (cond b (Some q) None)
    by true own = let clash : None ≡ Some q = back q refl (grind (arith, nat_tests, own)) in absurd cc
    by false other = refl
same_own a (Some r) None stay back = by (r.owner == a) refl
  where
    by : (b : Bool) → (r.owner == a) ≡ b → ◌≡◌ {A = Option TableRow} (cond b (Some r) None) None
    by true own = let clash : None ≡ Some r = stay r refl (grind (arith, nat_tests, own)) in absurd cc
    by false other = refl
same_own a (Some r) (Some q) stay back = by (r.owner == a) (q.owner == a) refl refl
  where
    by : (b c : Bool) → (r.owner == a) ≡ b → (q.owner == a) ≡ c
        → ◌≡◌ {A = Option TableRow} (cond b (Some r) None) (cond c (Some q) None)
    by true true own also = sym (stay r refl (grind (arith, nat_tests, own)))
    by true false own other =
        let mine : r.owner ≡ a = grind (arith, nat_tests, own) in
        let one : Some q ≡ Some r = stay r refl mine in
        let same : q ≡ r = cc in
        let owner : q.owner ≡ a = ap (λ (x : TableRow). x.owner) same ∙ mine in
        absurd (grind (arith, nat_tests, other, owner))
    by false true other own =
        let mine : q.owner ≡ a = grind (arith, nat_tests, own) in
        let one : Some r ≡ Some q = back q refl mine in
        let same : r ≡ q = cc in
        let owner : r.owner ≡ a = ap (λ (x : TableRow). x.owner) same ∙ mine in
        absurd (grind (arith, nat_tests, other, owner))
    by false false other also = refl

-- so they weigh as much as before
pub same_weight : (a : ℕ) (old new : List TableRow) → Ascend old → Ascend new → KeepsRows a old new
    → weighs a new ≡ weighs a old
same_weight a old new s t keeps =
    weighs_owned a new
    ∙ ap weight_of_owned (same_entries (owned a new) (owned a old) (owned_ascend a new t) (owned_ascend a old s)
    (λ h. found_owned h a new t ∙ same_own a (find_row h new) (find_row h old) (keeps.back h) (keeps.stay h)
    ∙ sym (found_owned h a old s)))
    ∙ sym (weighs_owned a old)
