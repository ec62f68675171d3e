-- A facet stops, and those below it, with their rows.
use Rattle.std.proofs.Common.{◌≡◌, ℕ, ◌+◌, Bool, true, false, not, ◌==◌, ◌&&◌, ◌||◌, cond, List, [], ◌∷◌, map}
use Rattle.std.proofs.Common.{refl, ap, arith, sym, ◌∙◌, Some, None, Option, filter, subst, nat_lt, length, IsSome}
use Rattle.std.proofs.Common.{is_some}
use Rattle.std.specs.BTreeMap.{is_at}
use Rattle.std.specs.List.{list_any, AllByRecursion}
use Rattle.std.specs.List.Sorted.{IsStrictlySortedBy}
use Rattle.std.specs.Map.{values_of}
use Rattle.std.specs.Ordering.{nat_cmp}
use Rattle.std.proofs.lemmas.Bool.Decides.{nat_tests}
use Rattle.ac_table.specs.Inboxes.{is_busy}
use Rattle.ac_table.specs.Kept.{value_at, is_key, AreStanding, stands_at, sum_of_rows, by_handle, KeysAscend, IsKept}
use Rattle.ac_table.specs.Kept.{waits_at}
use Rattle.ac_table.specs.Lemmas.Lists.{all_filter}
use Rattle.ac_table.specs.Placed.{FacetState, has_at, has_some, rows_of_facet}
use Rattle.ac_table.specs.Tables.{Row, handles, rows_of, find_row, stands_in}
use Rattle.ac_table.specs.declared.table.LiveActor.{LiveActor}
use Rattle.ac_table.specs.Lemmas.Entries.{is_at_same, lookup-filter}
use Rattle.ac_table.proofs.Keeps.{IsRenewed, some_still, busy_same, owned_renewed}
use Rattle.ac_table.proofs.Removing.{Ascend, ascend_from}
use Rattle.ac_table.proofs.Members.{sorted_same, first_has, or_false}
use Rattle.ac_table.proofs.Standing.{standing_renewed, find-filter, kept_by, key_in, passes, ascend_filter}
use Rattle.ac_table.proofs.Weighing.{weighed_renewed}

-- the rows that stay
abbrev pub staying : ℕ → List ℕ → List Row → List Row
staying a gs rows = filter (λ r. not (stands_in a gs r)) rows

abbrev pub going : ℕ → List ℕ → List Row → List Row
going a gs rows = filter (stands_in a gs) rows

-- the row under a handle is in one of these facets
among_facets : (a : ℕ) (gs : List ℕ) (o : Option Row)
    → list_any (λ f. stands_at a f o) gs ≡ passes (stands_in a gs) o
among_facets a [] None = refl
among_facets a (g ∷ gs) None = among_facets a gs None
among_facets a [] (Some r) = sym (none (r.owner == a))
  where
    none : (b : Bool) → (b && false) ≡ false
    none true = refl
    none false = refl
among_facets a (g ∷ gs) (Some r) =
    ap (λ b. stands_at a g (Some r) || b) (among_facets a gs (Some r))
    ∙ by (r.owner == a) (r.facet == g) (is_key r.facet gs)
    ∙ ap (λ b. r.owner == a && (b || is_key r.facet gs)) at
  where
    at : (r.facet == g) ≡ is_at (nat_cmp r.facet) g
    at = grind (arith, is_at_same r.facet g, is_at_same g r.facet)

    by : (b c d : Bool) → ((b && c) || (b && d)) ≡ (b && (c || d))
    by true c d = refl
    by false c d = refl

-- the handles that were gathered are those of the rows that go
pub gathered : (a : ℕ) (gs hs : List ℕ) (s : LiveActor) (actors : List (ℕ × LiveActor)) (rows : List Row)
    → AreStanding actors rows → value_at a actors ≡ Some s → Ascend rows → IsStrictlySortedBy nat_cmp hs
    → ((h : ℕ) → is_key h hs ≡ list_any (λ f. has_at f h s.facets) gs) → hs ≡ handles (going a gs rows)
gathered a gs hs s actors rows k was ascend sorted is =
    sorted_same hs (handles (going a gs rows)) sorted (ascend_filter (stands_in a gs) rows ascend)
    (λ h. is h ∙ each gs h ∙ among_facets a gs (find_row h rows)
    ∙ sym (key_in h (stands_in a gs) rows ascend))
  where
    each : (gs : List ℕ) (h : ℕ) → list_any (λ f. has_at f h s.facets) gs
        ≡ list_any (λ f. stands_at a f (find_row h rows)) gs
    each [] h = refl
    each (g ∷ gs) h = λ i. k a s was g h i || each gs h i

-- ---- whether rows stand in a facet

-- two lists that have the same numbers have some, or none
both_some : (ks hs : List ℕ) → ((h : ℕ) → is_key h ks ≡ is_key h hs) → nat_lt 0 (length ks) ≡ nat_lt 0 (length hs)
both_some [] [] same = refl
both_some [] (h ∷ hs) same = let clash : false ≡ true = same h ∙ first_has h hs in absurd cc
both_some (k ∷ ks) [] same = let clash : true ≡ false = sym (first_has k ks) ∙ same k in absurd cc
both_some (k ∷ ks) (h ∷ hs) same = grind (arith, nat_tests)

some_pass : (p : Row → Bool) (rows : List Row) → nat_lt 0 (length (handles (filter p rows))) ≡ list_any p rows
some_pass p [] = refl
some_pass p (r ∷ rs) = by (p r) refl (some_pass p rs)
  where
    by : (b : Bool) → p r ≡ b → nat_lt 0 (length (handles (filter p rs))) ≡ list_any p rs
        → nat_lt 0 (length (handles (filter p (r ∷ rs)))) ≡ list_any p (r ∷ rs)
    by true is rest = rw is (grind (arith, nat_tests))
    by false is rest = rw is rest

-- a facet has rows where the actor's rows stand in it
pub some_stand : (a f : ℕ) (s : LiveActor) (actors : List (ℕ × LiveActor)) (rows : List Row) → AreStanding actors rows
    → value_at a actors ≡ Some s → Ascend rows → has_some f s.facets ≡ list_any (stands_in a (f ∷ [])) rows
some_stand a f s actors rows k was ascend =
    both_some (rows_of_facet (value_at f s.facets)) (handles (going a (f ∷ []) rows))
    (λ h. k a s was f h ∙ sym (or_false _) ∙ among_facets a (f ∷ []) (find_row h rows)
    ∙ sym (key_in h (stands_in a (f ∷ [])) rows ascend))
    ∙ some_pass (stands_in a (f ∷ [])) rows

-- and none do where the actor isn't live
pub none_stand : (a f : ℕ) (actors : List (ℕ × LiveActor)) (rows : List Row)
    → AllByRecursion (λ r. IsSome (value_at r.owner actors)) rows → value_at a actors ≡ None
    → list_any (stands_in a (f ∷ [])) rows ≡ false
none_stand a f actors [] live none = refl
none_stand a f actors (r ∷ rs) live none = by (r.owner == a) refl (none_stand a f actors rs live.1 none)
  where
    by : (b : Bool) → (r.owner == a) ≡ b → list_any (stands_in a (f ∷ [])) rs ≡ false
        → list_any (stands_in a (f ∷ [])) (r ∷ rs) ≡ false
    by true own later =
        let same : r.owner ≡ a = grind (arith, nat_tests, own) in
        let clash : true ≡ false =
        sym (subst (λ (n : ℕ). IsSome (value_at n actors)) same live.0) ∙ ap is_some none in absurd cc
    by false other later = rw other later

-- ---- what stays

own_after : (a : ℕ) (gs own new : List ℕ) (rows taken : List Row) → Ascend rows → own ≡ handles (rows_of a rows)
    → taken ≡ going a gs rows → IsStrictlySortedBy nat_cmp new
    → ((h : ℕ) → is_key h new ≡ (is_key h own && not (is_key h (handles taken))))
    → new ≡ handles (rows_of a (staying a gs rows))
own_after a gs own new rows taken ascend own_is taken_is sorted is =
    sorted_same new (handles (rows_of a (staying a gs rows))) sorted
    (ascend_filter (λ r. r.owner == a) (staying a gs rows) stays)
    (λ h. is h ∙ (λ i. is_key h (own_is i) && not (is_key h (handles (taken_is i))))
    ∙ (λ i. key_in h (λ r. r.owner == a) rows ascend i && not (key_in h (stands_in a gs) rows ascend i))
    ∙ both (find_row h rows)
    ∙ sym (key_in h (λ r. r.owner == a) (staying a gs rows) stays
    ∙ ap (passes (λ r. r.owner == a)) (find-filter h (λ r. not (stands_in a gs r)) rows ascend)))
  where
    stays : Ascend (staying a gs rows)
    stays = ascend_filter (λ r. not (stands_in a gs r)) rows ascend

    by : (b c : Bool) (r : Row) → (r.owner == a) ≡ b → stands_in a gs r ≡ c
        → ((r.owner == a) && not (stands_in a gs r))
        ≡ passes (λ r. r.owner == a) (cond (not (stands_in a gs r)) (Some r) None)
    by true true r own out = rw (out, own) refl
    by true false r own out = rw (out, own) refl
    by false true r own out = rw (out, own) refl
    by false false r own out = rw (out, own) refl

    both : (o : Option Row) → (passes (λ r. r.owner == a) o && not (passes (stands_in a gs) o))
        ≡ passes (λ r. r.owner == a) (kept_by (λ r. not (stands_in a gs r)) o)
    both None = refl
    both (Some r) = by (r.owner == a) (stands_in a gs r) r refl refl

pub weight_split : (a : ℕ) (gs : List ℕ) (rows : List Row)
    → sum_of_rows (rows_of a (staying a gs rows)) + sum_of_rows (going a gs rows) ≡ sum_of_rows (rows_of a rows)
weight_split a gs [] = refl
weight_split a gs (r ∷ rs) = by (r.owner == a) (is_key r.facet gs) refl refl (weight_split a gs rs)
  where
    by : (b c : Bool) → (r.owner == a) ≡ b → is_key r.facet gs ≡ c
        → sum_of_rows (rows_of a (staying a gs rs)) + sum_of_rows (going a gs rs) ≡ sum_of_rows (rows_of a rs)
        → sum_of_rows (rows_of a (staying a gs (r ∷ rs))) + sum_of_rows (going a gs (r ∷ rs))
        ≡ sum_of_rows (rows_of a (r ∷ rs))
    by true true own out rest = rw (own, out) (omega (arith, rest))
    by true false own out rest = rw (own, out) (rw own (omega (arith, rest)))
    by false true own out rest = rw own (rw own rest)
    by false false own out rest = rw own (rw own rest)

others_rows : (a b : ℕ) (gs : List ℕ) (rows : List Row) → (a == b) ≡ false
    → rows_of b (staying a gs rows) ≡ rows_of b rows
others_rows a b gs [] apart = refl
others_rows a b gs (r ∷ rs) apart = by (r.owner == a) (is_key r.facet gs) refl refl (others_rows a b gs rs apart)
  where
    by : (x y : Bool) → (r.owner == a) ≡ x → is_key r.facet gs ≡ y
        → rows_of b (staying a gs rs) ≡ rows_of b rs
        → rows_of b (staying a gs (r ∷ rs)) ≡ rows_of b (r ∷ rs)
    by true true own out rest =
        let other : (r.owner == b) ≡ false = grind (arith, nat_tests, own, apart) in
        rw (own, out, other) rest
    by true false own out rest =
        let other : (r.owner == b) ≡ false = grind (arith, nat_tests, own, apart) in
        rw (own, out) (rw other rest)
    by false y own out rest = rw own (ap (λ t. cond (r.owner == b) (r ∷ t) t) rest)

-- what is known of the live actor whose facet stops
pub record IsStopping (a : ℕ) (gs : List ℕ) (s t : LiveActor) (rows taken : List Row) : Type 0 where
  pub taken_is : taken ≡ going a gs rows
  pub sorted : IsStrictlySortedBy nat_cmp t.own.keys
  pub own : (h : ℕ) → is_key h t.own.keys ≡ (is_key h s.own.keys && not (is_key h (handles taken)))
  pub weighs : t.row_weight + sum_of_rows taken ≡ s.row_weight
  pub inbox : t.inbox ≡ s.inbox
  pub facets : t.facets ≡ filter (λ e. not (is_key e.0 gs)) s.facets

pub kept_stopped : (a next : ℕ) (gs : List ℕ) (s t : LiveActor) (rows less : List (ℕ × Row))
    (actors new : List (ℕ × LiveActor))
    (busy : List ℕ) (taken : List Row) → IsKept next rows actors busy → IsRenewed a s t actors new
    → IsStopping a gs s t (values_of rows) taken → less ≡ map by_handle (values_of less)
    → values_of less ≡ staying a gs (values_of rows) → KeysAscend less → IsKept next less new busy
kept_stopped a next gs s t rows less actors new busy taken k re d keyed v ascend =
    let ascends = ascend_from rows k.keyed k.rows_ascend in
    let waits : waits_at (Some t) ≡ waits_at (Some s) = ap is_busy d.inbox in
    let split = weight_split a gs (values_of rows) in
    let was = k.weighed a s re.was in
    let out = ap sum_of_rows d.taken_is in
    record {
      keyed = keyed;
      rows_ascend = ascend;
      below = rw v (all_filter _ _ _ (λ r passed l. l) (values_of rows) k.below);
      owners = rw v (all_filter _ _ _ (λ r passed o. some_still a r.owner t actors new re.changes o)
          (values_of rows) k.owners);
      actors_ascend = re.ascend;
      owned = λ b u is. rw v (owned_renewed a b t u actors new (values_of rows) (staying a gs (values_of rows)) k.owned
          re.changes
          (own_after a gs s.own.keys t.own.keys (values_of rows) taken ascends (k.owned a s re.was) d.taken_is
          d.sorted d.own)
          (λ apart. others_rows a b gs (values_of rows) apart) is);
      weighed = rw v (weighed_renewed a t actors new (values_of rows) (staying a gs (values_of rows)) k.weighed
          re.changes (omega (arith, d.weighs, split, was, out))
          (λ b apart. others_rows a b gs (values_of rows) apart));
      busy_is = busy_same a s t actors new busy k.busy_is re waits;
    }

-- ---- which rows stand in which facets

has_filter : (f h : ℕ) (gs : List ℕ) (fs : List (ℕ × FacetState))
    → has_at f h (filter (λ e. not (is_key e.0 gs)) fs) ≡ cond (is_key f gs) false (has_at f h fs)
has_filter f h gs fs = ap (λ o. is_key h (rows_of_facet o)) (lookup-filter f gs fs) ∙ by (is_key f gs)
  where
    by : (b : Bool) → is_key h (rows_of_facet (cond b None (value_at f fs))) ≡ cond b false (has_at f h fs)
    by true = refl
    by false = refl

pub standing_stopped : (a : ℕ) (gs : List ℕ) (s t : LiveActor) (actors new : List (ℕ × LiveActor))
    (rows after : List Row)
    → AreStanding actors rows → IsRenewed a s t actors new → Ascend rows
    → t.facets ≡ filter (λ e. not (is_key e.0 gs)) s.facets → after ≡ staying a gs rows → AreStanding new after
standing_stopped a gs s t actors new rows after k re ascend facets is =
    standing_renewed a t actors new rows after k re.changes own others
  where
    at : (b f h : ℕ) → stands_at b f (find_row h after)
        ≡ stands_at b f (kept_by (λ r. not (stands_in a gs r)) (find_row h rows))
    at b f h = ap (stands_at b f) (ap (find_row h) is ∙ find-filter h (λ r. not (stands_in a gs r)) rows ascend)

    in_gone : (f : ℕ) (r : Row) → is_key f gs ≡ true → stands_in a gs r ≡ false
        → stands_at a f (Some r) ≡ false
    in_gone f r gone out = by (r.owner == a) (r.facet == f) refl refl
      where
        by : (b c : Bool) → (r.owner == a) ≡ b → (r.facet == f) ≡ c → stands_at a f (Some r) ≡ false
        by true true own here =
            let same : f ≡ r.facet = grind (arith, nat_tests, here) in
            let too : is_key r.facet gs ≡ true = subst (λ (n : ℕ). is_key n gs ≡ true) same gone in
            let clash : true ≡ false = sym (rw (own, too) refl) ∙ out in absurd cc
        by true false own other = rw (own, other) refl
        by false c other here = rw other refl

    in_kept : (f : ℕ) (r : Row) → is_key f gs ≡ false → stands_in a gs r ≡ true
        → stands_at a f (Some r) ≡ false
    in_kept f r kept out = by (r.owner == a) (r.facet == f) refl refl
      where
        by : (b c : Bool) → (r.owner == a) ≡ b → (r.facet == f) ≡ c → stands_at a f (Some r) ≡ false
        by true true own here =
            let same : f ≡ r.facet = grind (arith, nat_tests, here) in
            let too : is_key r.facet gs ≡ false = subst (λ (n : ℕ). is_key n gs ≡ false) same kept in
            let clash : false ≡ true = sym (rw (own, too) refl) ∙ out in absurd cc
        by true false own other = rw (own, other) refl
        by false c other here = rw other refl

    either : (f : ℕ) (o : Option Row) → cond (is_key f gs) false (stands_at a f o)
        ≡ stands_at a f (kept_by (λ r. not (stands_in a gs r)) o)
    either f None = same (is_key f gs)
      where
        same : (b : Bool) → cond b false false ≡ false
        same true = refl
        same false = refl
    either f (Some r) = by (is_key f gs) (stands_in a gs r) refl refl
      where
        by : (b c : Bool) → is_key f gs ≡ b → stands_in a gs r ≡ c
            → cond (is_key f gs) false (stands_at a f (Some r))
            ≡ stands_at a f (cond (not (stands_in a gs r)) (Some r) None)
        by true true gone out = rw (gone, out) refl
        by true false gone out = rw (gone, out) (sym (in_gone f r gone out))
        by false true kept out = rw (kept, out) (in_kept f r kept out)
        by false false kept out = rw (kept, out) refl

    own : (f h : ℕ) → has_at f h t.facets ≡ stands_at a f (find_row h after)
    own f h =
        ap (has_at f h) facets ∙ has_filter f h gs s.facets
        ∙ ap (cond (is_key f gs) false) (k a s re.was f h) ∙ either f (find_row h rows) ∙ sym (at a f h)

    others : (b f h : ℕ) → (a == b) ≡ false → stands_at b f (find_row h after) ≡ stands_at b f (find_row h rows)
    others b f h apart = at b f h ∙ by (find_row h rows)
      where
        cut : (c : Bool) (r : Row) → stands_in a gs r ≡ c
            → stands_at b f (cond (not (stands_in a gs r)) (Some r) None) ≡ stands_at b f (Some r)
        cut false r out = rw out refl
        cut true r out =
            let own : (r.owner == a) ≡ true = first (r.owner == a) (is_key r.facet gs) out in
            let other : (r.owner == b) ≡ false = grind (arith, nat_tests, own, apart) in
            rw (out, other) refl
          where
            first : (x y : Bool) → (x && y) ≡ true → x ≡ true
            first true y is = refl
            first false y is = absurd cc

        by : (o : Option Row) → stands_at b f (kept_by (λ r. not (stands_in a gs r)) o) ≡ stands_at b f o
        by None = refl
        by (Some r) = cut (stands_in a gs r) r refl
