-- Taking rows out, one at a time.
use Rattle.std.proofs.Common.{◌≡◌, ℕ, ◌<◌, Bool, true, false, not, filter, List, [], ◌∷◌, ◌++◌, refl, ap}
use Rattle.std.proofs.Common.{arith, sym, ◌∙◌, Some, None, append_assoc, append-nil}
use Rattle.std.specs.Ordering.{nat_cmp}
use Rattle.std.proofs.lemmas.Map.Keys.{sorted_head, sorted_tail}
use Rattle.ac_table.specs.Tables.{Row, handles, without_row, find_row}
use Rattle.ac_table.specs.Kept.{Takes}
use Rattle.ac_table.proofs.Removing.{Ascend, without_row-above, above_found}

-- the rows that don't pass
abbrev pub others : (Row → Bool) → List Row → List Row
others p rows = filter (λ r. not (p r)) rows

-- the handles ks are those of the rows that pass a test: the ones left are those of such rows that are left, and the
-- other rows stay
pub record IsTakingOf (old : List Row) (left : List ℕ) (rows taken : List Row) (p : Row → Bool) : Type 0 where
  pub left_is : left ≡ handles (filter p rows)
  pub all : taken ++ filter p rows ≡ filter p old
  pub rest : others p rows ≡ others p old

abbrev pub IsTaking : List ℕ → List Row → List ℕ → List Row → List Row → Type 0
IsTaking ks old left rows taken = (p : Row → Bool) → ks ≡ handles (filter p old) → IsTakingOf old left rows taken p

-- the row of the first handle that is left
pub record IsNext (p : Row → Bool) (h : ℕ) (rows : List Row) (rest : List ℕ) (r : Row) : Type 0 where
  pub found : find_row h rows ≡ Some r
  pub taken : filter p rows ≡ r ∷ filter p (without_row h rows)
  pub left : handles (filter p (without_row h rows)) ≡ rest
  pub rest_is : others p (without_row h rows) ≡ others p rows

next_here : (p : Row → Bool) (h : ℕ) (x : Row) (xs : List Row) (rest : List ℕ) → Ascend (x ∷ xs) → p x ≡ true
    → h ∷ rest ≡ x.handle ∷ handles (filter p xs) → IsNext p h (x ∷ xs) rest x
next_here p h x xs rest s own is =
    let e : h ≡ x.handle = cc in
    let same : without_row h xs ≡ xs = without_row-above h xs (rw e (sorted_head nat_cmp _ _ s)) in
    grind (arith, same, own, is, e)

next_later : (p : Row → Bool) (h : ℕ) (x : Row) (xs : List Row) (rest : List ℕ) (r : Row) → Ascend (x ∷ xs)
    → p x ≡ false → IsNext p h xs rest r → IsNext p h (x ∷ xs) rest r
next_later p h x xs rest r s other n =
    let l : x.handle < h = above_found x.handle h xs r (sorted_head nat_cmp _ _ s) n.found in
    grind (arith, other, l, n.found, n.taken, n.left, n.rest_is)

pub next_row : (p : Row → Bool) (h : ℕ) (rows : List Row) (rest : List ℕ) → Ascend rows
    → h ∷ rest ≡ handles (filter p rows) → (r : Row) × IsNext p h rows rest r
next_row p h [] rest s is = absurd cc
next_row p h (x ∷ xs) rest s is = split (p x) refl (next_row p h xs rest (sorted_tail nat_cmp _ _ s))
  where
    split : (b : Bool) → p x ≡ b
        → (h ∷ rest ≡ handles (filter p xs) → (r : Row) × IsNext p h xs rest r)
        → (r : Row) × IsNext p h (x ∷ xs) rest r
    split true own later = (x, next_here p h x xs rest s own (rw own at is))
    split false other later = let n = later (rw other at is) in (n.0, next_later p h x xs rest n.0 s other n.1)

-- ---- one step, and the end

pub taking_more : (ks left rest : List ℕ) (old rows new taken more : List Row) (h : ℕ) (row : Row)
    → IsTaking ks old left rows taken → left ≡ h ∷ rest → Ascend rows → find_row h rows ≡ Some row
    → new ≡ without_row h rows → more ≡ taken ++ row ∷ [] → IsTaking ks old rest new more
taking_more ks left rest old rows new taken more h row t is s found new_is more_is p own =
    let o = t p own in
    let n = next_row p h rows rest s (sym is ∙ o.left_is) in
    let same : n.0 ≡ row = grind (arith, n.1.found, found) in
    rw (new_is, more_is) (record {
      left_is = sym n.1.left;
      all = append_assoc taken (row ∷ []) (filter p (without_row h rows))
          ∙ ap (λ t. taken ++ t) (rw (sym same) (sym n.1.taken)) ∙ o.all;
      rest = n.1.rest_is ∙ o.rest;
    })

pub taking_none : (ks left rest : List ℕ) (old rows new taken : List Row) (h : ℕ)
    → IsTaking ks old left rows taken → left ≡ h ∷ rest → Ascend rows → find_row h rows ≡ None
    → IsTaking ks old rest new taken
taking_none ks left rest old rows new taken h t is s none p own =
    let o = t p own in
    let n = next_row p h rows rest s (sym is ∙ o.left_is) in
    let clash : None ≡ Some n.0 = sym none ∙ n.1.found in
    absurd cc

none_left : (rows : List Row) → [] ≡ handles rows → rows ≡ []
none_left [] is = refl
none_left (r ∷ rs) is = absurd cc

all_others : (p : Row → Bool) (rows : List Row) → filter p rows ≡ [] → rows ≡ others p rows
all_others p [] is = refl
all_others p (r ∷ rs) is = grind (arith, all_others p rs)

pub taking_done : (ks left : List ℕ) (old rows taken : List Row) → IsTaking ks old left rows taken → left ≡ []
    → Takes ks old rows taken
taking_done ks left old rows taken t is p own =
    let o = t p own in
    let none : filter p rows ≡ [] = none_left (filter p rows) (sym is ∙ o.left_is) in
    (all_others p rows none ∙ o.rest, sym (append-nil taken) ∙ ap (λ t. taken ++ t) (sym none) ∙ o.all)
