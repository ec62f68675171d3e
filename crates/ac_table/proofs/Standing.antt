-- Which rows stand in which facets, as the table changes.
use Rattle.std.proofs.Common.{◌≡◌, ℕ, ◌<◌, Bool, true, false, not, ◌==◌, ◌&&◌, cond, List, [], ◌∷◌, ◌++◌}
use Rattle.std.proofs.Common.{refl, ap, arith, sym, ◌∙◌, is_some, Some, None, Option, filter, subst, IsSome, Less}
use Rattle.std.specs.BTreeMap.{is_at, insert_entry}
use Rattle.std.specs.List.{AllByRecursion}
use Rattle.std.specs.List.Sorted.{IsStrictlySortedBy}
use Rattle.std.specs.Ordering.{nat_cmp}
use Rattle.std.proofs.lemmas.Bool.Decides.{nat_tests}
use Rattle.std.proofs.lemmas.Map.Keys.{sorted_head, sorted_tail}
use Rattle.ac_table.specs.Kept.{value_at, is_key, ChangesAt, AreStanding, stands_at}
use Rattle.ac_table.specs.Placed.{FacetState, tree_in, has_at, rows_of_facet, SameRows, HasRow, is_here, bare}
use Rattle.ac_table.specs.Tables.{Row, handles, rows_of_others, find_row, without_row}
use Rattle.ac_table.specs.declared.table.LiveActor.{LiveActor}
use Rattle.ac_table.specs.Lemmas.Entries.{is_at_same, lookup-insert}
use Rattle.ac_table.proofs.Keeps.{IsRenewed}
use Rattle.ac_table.proofs.Placing.{parent_at, parent_in}
use Rattle.ac_table.proofs.Removing.{Ascend, find_row-above}
use Rattle.ac_table.proofs.Weighing.{same_number}

-- ---- finding a row among others

pub find-push : (h : ℕ) (rows : List Row) (r : Row) → find_row r.handle rows ≡ None
    → find_row h (rows ++ r ∷ []) ≡ cond (r.handle == h) (Some r) (find_row h rows)
find-push h [] r none = refl
find-push h (x ∷ xs) r none = grind (arith, nat_tests, none, find-push h xs r)

pub find-without : (q h : ℕ) (rows : List Row) → find_row q (without_row h rows) ≡ cond (q == h) None (find_row q rows)
find-without q h [] = either (q == h)
  where
    either : (b : Bool) → ◌≡◌ {A = Option Row} None (cond b None None)
    either true = refl
    either false = refl
find-without q h (x ∷ xs) = grind (arith, nat_tests, find-without q h xs)

-- a row that passes stays
abbrev pub kept_by : (Row → Bool) → Option Row → Option Row
kept_by p None = None
kept_by p (Some r) = cond (p r) (Some r) None

pub find-filter : (h : ℕ) (p : Row → Bool) (rows : List Row) → Ascend rows
    → find_row h (filter p rows) ≡ kept_by p (find_row h rows)
find-filter h p [] s = refl
find-filter h p (x ∷ xs) s = by (x.handle == h) (p x) refl refl (find-filter h p xs (sorted_tail nat_cmp _ _ s))
  where
    gone : x.handle ≡ h → find_row h (filter p xs) ≡ kept_by p (find_row h xs) → find_row h (filter p xs) ≡ None
    gone same later =
        let none : find_row h xs ≡ None =
        subst (λ (n : ℕ). find_row n xs ≡ None) same (find_row-above x.handle xs (sorted_head nat_cmp _ _ s)) in
        later ∙ ap (kept_by p) none

    by : (b c : Bool) → (x.handle == h) ≡ b → p x ≡ c
        → find_row h (filter p xs) ≡ kept_by p (find_row h xs)
        → find_row h (filter p (x ∷ xs)) ≡ kept_by p (find_row h (x ∷ xs))
    by true true here passed later = rw (passed, here) (rw passed refl)
    by true false here out later =
        let same : x.handle ≡ h = grind (arith, nat_tests, here) in
        let all : kept_by p (find_row h (x ∷ xs)) ≡ None = rw here (rw out refl) in
        rw out (gone same later) ∙ sym all
    by false true other passed later = rw (passed, other) later
    by false false other out later = rw (out, other) later

-- whether a row is there and passes
abbrev pub passes : (Row → Bool) → Option Row → Bool
passes p None = false
passes p (Some r) = p r

key_found : (h : ℕ) (rows : List Row) → is_key h (handles rows) ≡ is_some (find_row h rows)
key_found h [] = refl
key_found h (x ∷ xs) = grind (arith, is_at_same h x.handle, key_found h xs)

some_kept : (p : Row → Bool) (o : Option Row) → is_some (kept_by p o) ≡ passes p o
some_kept p None = refl
some_kept p (Some r) = by (p r) refl
  where
    by : (b : Bool) → p r ≡ b → is_some (cond (p r) (Some r) None) ≡ p r
    by true is = rw is refl
    by false is = rw is refl

pub key_in : (h : ℕ) (p : Row → Bool) (rows : List Row) → Ascend rows
    → is_key h (handles (filter p rows)) ≡ passes p (find_row h rows)
key_in h p rows s =
    key_found h (filter p rows) ∙ ap is_some (find-filter h p rows s) ∙ some_kept p (find_row h rows)

above_filter : (k : ℕ) (p : Row → Bool) (rows : List Row) → AllByRecursion (λ q. nat_cmp k q ≡ Less) (handles rows)
    → AllByRecursion (λ q. nat_cmp k q ≡ Less) (handles (filter p rows))
above_filter k p [] a = tt
above_filter k p (x ∷ xs) a = by (p x) refl (above_filter k p xs a.1)
  where
    by : (b : Bool) → p x ≡ b → AllByRecursion (λ q. nat_cmp k q ≡ Less) (handles (filter p xs))
        → AllByRecursion (λ q. nat_cmp k q ≡ Less) (handles (filter p (x ∷ xs)))
    by true is rest = rw is (a.0, rest)
    by false is rest = rw is rest

ascend_cons : (k : ℕ) (ks : List ℕ) → AllByRecursion (λ q. nat_cmp k q ≡ Less) ks → IsStrictlySortedBy nat_cmp ks
    → IsStrictlySortedBy nat_cmp (k ∷ ks)
unfolding IsStrictlySortedBy
ascend_cons k ks above sorted = (above, sorted)

pub ascend_filter : (p : Row → Bool) (rows : List Row) → Ascend rows → Ascend (filter p rows)
ascend_filter p [] s = s
ascend_filter p (x ∷ xs) s = by (p x) refl (ascend_filter p xs (sorted_tail nat_cmp _ _ s))
  where
    by : (b : Bool) → p x ≡ b → Ascend (filter p xs) → Ascend (filter p (x ∷ xs))
    by true is rest = rw is (ascend_cons x.handle (handles (filter p xs))
        (above_filter x.handle p xs (sorted_head nat_cmp _ _ s)) rest)
    by false is rest = rw is rest

-- ---- one live actor changes

-- one actor's facets have its rows as they are now, and the rows of the others are as before
pub standing_renewed : (a : ℕ) (t : LiveActor) (actors new : List (ℕ × LiveActor)) (rows after : List Row)
    → AreStanding actors rows → ChangesAt a (Some t) actors new
    → ((f h : ℕ) → has_at f h t.facets ≡ stands_at a f (find_row h after))
    → ((b f h : ℕ) → (a == b) ≡ false → stands_at b f (find_row h after) ≡ stands_at b f (find_row h rows))
    → AreStanding new after
standing_renewed a t actors new rows after k ch own others b u is f h = split (is_at (nat_cmp a) b) refl
  where
    split : (c : Bool) → is_at (nat_cmp a) b ≡ c → has_at f h u.facets ≡ stands_at b f (find_row h after)
    split true same =
        let number : a ≡ b = same_number a b same in
        let both : Some t ≡ Some u = sym (ch b ∙ rw same refl) ∙ is in
        let u_is : t ≡ u = grind (arith, both) in
        subst (λ (n : ℕ). has_at f h u.facets ≡ stands_at n f (find_row h after)) number
        (subst (λ (v : LiveActor). has_at f h v.facets ≡ stands_at a f (find_row h after)) u_is (own f h))
    split false other =
        let apart : (a == b) ≡ false = grind (arith, is_at_same a b, other) in
        k b u (sym (ch b ∙ rw other refl) ∙ is) f h ∙ sym (others b f h apart)

pub standing_same : (a : ℕ) (s t : LiveActor) (actors new : List (ℕ × LiveActor)) (rows : List Row)
    → AreStanding actors rows
    → IsRenewed a s t actors new → SameRows s.facets t.facets → AreStanding new rows
standing_same a s t actors new rows k re same =
    standing_renewed a t actors new rows rows k re.changes (λ f h. same f h ∙ k a s re.was f h) (λ b f h apart. refl)

pub same_rows_from : (old new : List (ℕ × FacetState)) → new ≡ old → SameRows old new
same_rows_from old new is f h = ap (has_at f h) is

-- nobody's rows stand where he isn't live
not_standing : (a f h : ℕ) (actors : List (ℕ × LiveActor)) (rows : List Row)
    → AllByRecursion (λ r. IsSome (value_at r.owner actors)) rows → value_at a actors ≡ None
    → stands_at a f (find_row h rows) ≡ false
not_standing a f h actors [] live none = refl
not_standing a f h actors (x ∷ xs) live none =
    by (x.handle == h) (x.owner == a) refl refl (not_standing a f h actors xs live.1 none)
  where
    by : (b c : Bool) → (x.handle == h) ≡ b → (x.owner == a) ≡ c → stands_at a f (find_row h xs) ≡ false
        → stands_at a f (find_row h (x ∷ xs)) ≡ false
    by true true here own later =
        let same : x.owner ≡ a = grind (arith, nat_tests, own) in
        let some : is_some (value_at a actors) ≡ true =
        subst (λ (n : ℕ). is_some (value_at n actors) ≡ true) same live.0 in
        let clash : true ≡ false = sym some ∙ ap is_some none in absurd cc
    by true false here other later = rw here (rw other refl)
    by false c other own later = rw other later

bare_has_none : (f h : ℕ) → has_at f h ((0, bare 0) ∷ []) ≡ false
bare_has_none f h = by (is_at (nat_cmp f) 0)
  where
    by : (b : Bool) → is_key h (rows_of_facet (cond b (Some (bare 0)) None)) ≡ false
    by true = refl
    by false = refl

pub standing_joined : (a : ℕ) (s : LiveActor) (actors new : List (ℕ × LiveActor)) (rows : List Row)
    → AreStanding actors rows
    → AllByRecursion (λ r. IsSome (value_at r.owner actors)) rows → value_at a actors ≡ None
    → s.facets ≡ (0, bare 0) ∷ [] → ChangesAt a (Some s) actors new → AreStanding new rows
standing_joined a s actors new rows k live none facets ch =
    standing_renewed a s actors new rows rows k ch
    (λ f h. ap (has_at f h) facets ∙ bare_has_none f h ∙ sym (not_standing a f h actors rows live none))
    (λ b f h apart. refl)

-- ---- one row more, or less

and_false : (b : Bool) → (b && false) ≡ false
and_false true = refl
and_false false = refl

pub standing_asserted : (s t : LiveActor) (row : Row) (actors new : List (ℕ × LiveActor)) (rows : List Row)
    → AreStanding actors rows → IsRenewed row.owner s t actors new → find_row row.handle rows ≡ None
    → HasRow row.facet row.handle true s.facets t.facets → AreStanding new (rows ++ row ∷ [])
standing_asserted s t row actors new rows k re absent has =
    standing_renewed row.owner t actors new rows (rows ++ row ∷ []) k re.changes own others
  where
    at : (b f h : ℕ) → stands_at b f (find_row h (rows ++ row ∷ []))
        ≡ stands_at b f (cond (row.handle == h) (Some row) (find_row h rows))
    at b f h = ap (stands_at b f) (find-push h rows row absent)

    own : (f h : ℕ) → has_at f h t.facets ≡ stands_at row.owner f (find_row h (rows ++ row ∷ []))
    own f h = has f h ∙ by (row.handle == h) refl ∙ sym (at row.owner f h)
      where
        by : (c : Bool) → (row.handle == h) ≡ c
            → cond (is_here row.facet row.handle f h) true (has_at f h s.facets)
            ≡ stands_at row.owner f (cond (row.handle == h) (Some row) (find_row h rows))
        by true here =
            let same : row.handle ≡ h = grind (arith, nat_tests, here) in
            let back : (h == row.handle) ≡ true = grind (arith, nat_tests, same) in
            let self : (row.owner == row.owner) ≡ true = grind (arith, nat_tests) in
            let flip : (row.facet == f) ≡ (f == row.facet) = grind (arith, nat_tests) in
            let none : has_at f h s.facets ≡ false =
            k row.owner s re.was f h ∙ ap (stands_at row.owner f)
            (subst (λ (n : ℕ). find_row n rows ≡ None) same absent) in
            rw (here, back, self, none, flip) (both (f == row.facet))
          where
            both : (b : Bool) → cond (b && true) true false ≡ (true && b)
            both true = refl
            both false = refl
        by false other =
            let back : (h == row.handle) ≡ false = grind (arith, nat_tests, other) in
            let out : is_here row.facet row.handle f h ≡ false =
            ap (λ b. f == row.facet && b) back ∙ and_false (f == row.facet) in
            rw (other, out) (k row.owner s re.was f h)

    others : (b f h : ℕ) → (row.owner == b) ≡ false
        → stands_at b f (find_row h (rows ++ row ∷ [])) ≡ stands_at b f (find_row h rows)
    others b f h apart = at b f h ∙ by (row.handle == h) refl
      where
        by : (c : Bool) → (row.handle == h) ≡ c
            → stands_at b f (cond (row.handle == h) (Some row) (find_row h rows)) ≡ stands_at b f (find_row h rows)
        by true here =
            let same : row.handle ≡ h = grind (arith, nat_tests, here) in
            let none : find_row h rows ≡ None = subst (λ (n : ℕ). find_row n rows ≡ None) same absent in
            rw (here, none, apart) refl
        by false other = rw other refl

pub standing_retracted : (h : ℕ) (s t : LiveActor) (row : Row) (actors new : List (ℕ × LiveActor)) (rows : List Row)
    → AreStanding actors rows → IsRenewed row.owner s t actors new → find_row h rows ≡ Some row
    → HasRow row.facet h false s.facets t.facets → AreStanding new (without_row h rows)
standing_retracted h s t row actors new rows k re found has =
    standing_renewed row.owner t actors new rows (without_row h rows) k re.changes own others
  where
    at : (b f q : ℕ) → stands_at b f (find_row q (without_row h rows))
        ≡ stands_at b f (cond (q == h) None (find_row q rows))
    at b f q = ap (stands_at b f) (find-without q h rows)

    here_is : (q : ℕ) → (q == h) ≡ true → find_row q rows ≡ Some row
    here_is q is =
        let same : h ≡ q = grind (arith, nat_tests, is) in
        subst (λ (n : ℕ). find_row n rows ≡ Some row) same found

    own : (f q : ℕ) → has_at f q t.facets ≡ stands_at row.owner f (find_row q (without_row h rows))
    own f q = has f q ∙ by (q == h) refl ∙ sym (at row.owner f q)
      where
        by : (c : Bool) → (q == h) ≡ c
            → cond (is_here row.facet h f q) false (has_at f q s.facets)
            ≡ stands_at row.owner f (cond (q == h) None (find_row q rows))
        by true here =
            let was : has_at f q s.facets ≡ (row.owner == row.owner && row.facet == f) =
            k row.owner s re.was f q ∙ ap (stands_at row.owner f) (here_is q here) in
            let self : (row.owner == row.owner) ≡ true = grind (arith, nat_tests) in
            let flip : (row.facet == f) ≡ (f == row.facet) = grind (arith, nat_tests) in
            rw (was, here, self, flip) (both (f == row.facet))
          where
            both : (b : Bool) → cond (b && true) false (true && b) ≡ false
            both true = refl
            both false = refl
        by false other =
            let out : is_here row.facet h f q ≡ false =
            ap (λ b. f == row.facet && b) other ∙ and_false (f == row.facet) in
            rw (out, other) (k row.owner s re.was f q)

    others : (b f q : ℕ) → (row.owner == b) ≡ false
        → stands_at b f (find_row q (without_row h rows)) ≡ stands_at b f (find_row q rows)
    others b f q apart = at b f q ∙ by (q == h) refl
      where
        by : (c : Bool) → (q == h) ≡ c
            → stands_at b f (cond (q == h) None (find_row q rows)) ≡ stands_at b f (find_row q rows)
        by true here = rw (here, here_is q here, apart) refl
        by false other = rw other refl

-- ---- an actor goes

pub standing_ended : (a : ℕ) (actors new : List (ℕ × LiveActor)) (rows after : List Row) → AreStanding actors rows
    → ChangesAt a None actors new → Ascend rows → after ≡ rows_of_others a rows → AreStanding new after
standing_ended a actors new rows after k ch s is b u at f h = split (is_at (nat_cmp a) b) refl
  where
    still : (o : Option Row) → (a == b) ≡ false
        → stands_at b f (kept_by (λ r. not (r.owner == a)) o) ≡ stands_at b f o
    still None apart = refl
    still (Some r) apart = by (r.owner == a) refl
      where
        by : (c : Bool) → (r.owner == a) ≡ c
            → stands_at b f (cond (not (r.owner == a)) (Some r) None) ≡ (r.owner == b && r.facet == f)
        by true own =
            let other : (r.owner == b) ≡ false = grind (arith, nat_tests, own, apart) in
            rw (own, other) refl
        by false other = rw other refl

    split : (c : Bool) → is_at (nat_cmp a) b ≡ c → has_at f h u.facets ≡ stands_at b f (find_row h after)
    split true same = let clash : None ≡ Some u = sym (ch b ∙ rw same refl) ∙ at in absurd cc
    split false other =
        let apart : (a == b) ≡ false = grind (arith, is_at_same a b, other) in
        k b u (sym (ch b ∙ rw other refl) ∙ at) f h ∙ sym (still (find_row h rows) apart)
        ∙ ap (stands_at b f) (sym (ap (find_row h) is ∙ find-filter h (λ r. not (r.owner == a)) rows s))

-- what was put in a facet is taken out again
pub put_back : (f h : ℕ) (old mid new : List (ℕ × FacetState)) → HasRow f h true old mid → HasRow f h false mid new
    → has_at f h old ≡ false → SameRows old new
put_back f h old mid new put gone absent g k =
    gone g k ∙ ap (cond (is_here f h g k) false) (put g k) ∙ by (is_here f h g k) refl
  where
    by : (b : Bool) → is_here f h g k ≡ b
        → cond (is_here f h g k) false (cond (is_here f h g k) true (has_at g k old)) ≡ has_at g k old
    by true here =
        let g_is : f ≡ g = eq_from g f (first (g == f) (k == h) here) in
        let k_is : h ≡ k = eq_from k h (second (g == f) (k == h) here) in
        let none : has_at g k old ≡ false =
        subst (λ (n : ℕ). has_at n k old ≡ false) g_is (subst (λ (n : ℕ). has_at f n old ≡ false) k_is absent) in
        rw here (sym none)
      where
        first : (x y : Bool) → (x && y) ≡ true → x ≡ true
        first true y is = refl
        first false y is = absurd cc

        second : (x y : Bool) → (x && y) ≡ true → y ≡ true
        second true y is = is
        second false y is = absurd cc

        eq_from : (x y : ℕ) → (x == y) ≡ true → y ≡ x
        eq_from x y is = grind (arith, nat_tests, is)
    by false other = rw other refl

-- no row has a handle that all are below
pub find_none_from : (n : ℕ) (rows : List Row) → AllByRecursion (λ r. r.handle < n) rows → find_row n rows ≡ None
find_none_from n [] below = refl
find_none_from n (x ∷ xs) below = grind (arith, nat_tests, below.0, find_none_from n xs below.1)

-- a facet that comes has no rows
pub rows_added : (n p : ℕ) (old new : List (ℕ × FacetState)) → new ≡ insert_entry nat_cmp old n (bare p)
    → is_some (value_at n (tree_in old)) ≡ false → SameRows old new
rows_added n p old new is free g k =
    ap (has_at g k) is ∙ ap (λ o. is_key k (rows_of_facet o)) (lookup-insert g n (bare p) old)
    ∙ by (is_at (nat_cmp n) g) refl
  where
    none : (o : Option FacetState) → is_some (parent_in o) ≡ false → is_key k (rows_of_facet o) ≡ false
    none None out = refl
    none (Some x) out = absurd cc

    by : (b : Bool) → is_at (nat_cmp n) g ≡ b
        → is_key k (rows_of_facet (cond (is_at (nat_cmp n) g) (Some (bare p)) (value_at g old))) ≡ has_at g k old
    by true here =
        let number : n ≡ g = same_number n g here in
        let out : is_some (parent_in (value_at n old)) ≡ false = sym (ap is_some (parent_at n old)) ∙ free in
        rw here (sym (subst (λ (m : ℕ). has_at m k old ≡ false) number (none (value_at n old) out)))
    by false other = rw other refl
