-- Each change keeps the table in order.
use Rattle.std.proofs.Common.{◌≡◌, ℕ, ◌+◌, ◌<◌, Bool, true, false, not, ◌==◌, nat_lt, List, [], ◌∷◌, ◌++◌, map, refl}
use Rattle.std.proofs.Common.{ap}
use Rattle.std.proofs.Common.{arith, sym, ◌∙◌, Some, None, cond, Option, IsSome, is_some, length, subst}
use Rattle.std.specs.BTreeMap.{BTreeMap, is_at, get, WritesThrough}
use Rattle.std.specs.List.{AllByRecursion}
use Rattle.std.specs.Map.{values_of, keys_of}
use Rattle.std.specs.List.Sorted.{IsStrictlySortedBy}
use Rattle.std.specs.Ordering.{nat_cmp}
use Rattle.std.specs.Set.{remove_key}
use Rattle.std.proofs.lemmas.List.{map-append}
use Rattle.pv_value.specs.Weight.{weight}
use Rattle.ac_table.specs.Sums.{top}
use Rattle.ac_table.specs.Kept.{sum_of_rows}
use Rattle.ac_table.specs.Tables.{Row, Batch, IsTable, handles, rows_of, rows_of_others, find_row, without_row}
use Rattle.ac_table.specs.Kept.{by_handle, value_at, is_key, waits_at, KeysAscend, IsOwned, IsBusy, IsKept, seen}
use Rattle.ac_table.specs.Kept.{state_of, ChangesAt, SetChangesAt}
use Rattle.ac_table.proofs.Weighing.{same_number, weighed_renewed, sum_of_rows-push, less_weight}
use Rattle.ac_table.specs.declared.table.LiveActor.{LiveActor}
use Rattle.ac_table.proofs.Changes.{values-push}
use Rattle.ac_table.specs.Lemmas.Entries.{is_at_same}
use Rattle.ac_table.proofs.Finding.{is_live-seen}
use Rattle.ac_table.specs.Lemmas.Lists.{all_weaker, all_push, all_filter}
use Rattle.ac_table.proofs.Removing.{Ascend, ascend_from, values_from, keyed_from, rows_of-without_other}
use Rattle.ac_table.proofs.Removing.{handles-without}

-- the live actor s became t
pub record IsRenewed (a : ℕ) (s t : LiveActor) (old new : List (ℕ × LiveActor)) : Type 0 where
  pub was : value_at a old ≡ Some s
  pub changes : ChangesAt a (Some t) old new
  pub ascend : KeysAscend new

changed_here : {X : Type 0} (a : ℕ) (w : Option X) (old new : List (ℕ × X)) → ChangesAt a w old new
    → value_at a new ≡ w
changed_here a w old new ch =
    let here : is_at (nat_cmp a) a ≡ true = grind (arith, is_at_same a a) in ch a ∙ rw here refl

pub some_still : {X : Type 0} (a q : ℕ) (x : X) (old new : List (ℕ × X)) → ChangesAt a (Some x) old new
    → IsSome (value_at q old) → IsSome (value_at q new)
some_still a q x old new ch o = rw (ch q) (split (is_at (nat_cmp a) q))
  where
    split : (b : Bool) → IsSome (cond b (Some x) (value_at q old))
    split true = refl
    split false = o

pub no_rows : (a : ℕ) (actors : List (ℕ × LiveActor)) (rows : List Row)
    → AllByRecursion (λ r. IsSome (value_at r.owner actors)) rows
    → value_at a actors ≡ None → rows_of a rows ≡ []
no_rows a actors [] live none = refl
no_rows a actors (r ∷ rs) live none = split (r.owner == a) refl (no_rows a actors rs live.1 none)
  where
    split : (b : Bool) → (r.owner == a) ≡ b → rows_of a rs ≡ [] → rows_of a (r ∷ rs) ≡ []
    split true own later =
        let same : r.owner ≡ a = grind (arith, own) in
        let clash : is_some (value_at a actors) ≡ true = subst (λ (n : ℕ). IsSome (value_at n actors)) same live.0 in
        absurd (let none_there : is_some (value_at a actors) ≡ false = ap is_some none in cc)
    split false other later = rw other later

pub kept_joined : (a next : ℕ) (s : LiveActor) (rows : List (ℕ × Row)) (actors new : List (ℕ × LiveActor))
    (busy : List ℕ)
    → IsKept next rows actors busy → value_at a actors ≡ None → s.own.keys ≡ [] → s.row_weight ≡ 0 → s.inbox ≡ []
    → ChangesAt a (Some s) actors new → KeysAscend new → IsKept next rows new busy
kept_joined a next s rows actors new busy k none own weighs empty ch ascend = record {
  keyed = k.keyed;
  rows_ascend = k.rows_ascend;
  below = k.below;
  owners = all_weaker _ _ (λ r o. some_still a r.owner s actors new ch o) (values_of rows) k.owners;
  actors_ascend = ascend;
  owned = λ b t is. owned b t (is_at (nat_cmp a) b) refl is;
  weighed = weighed_renewed a s actors new (values_of rows) (values_of rows) k.weighed ch
      (weighs ∙ ap sum_of_rows (sym (no_rows a actors (values_of rows) k.owners none)))
      (λ b apart. refl);
  busy_is = λ b. waits b (is_at (nat_cmp a) b) refl;
}
  where
    owned : (b : ℕ) (t : LiveActor) (c : Bool) → is_at (nat_cmp a) b ≡ c → value_at b new ≡ Some t
        → t.own.keys ≡ handles (rows_of b (values_of rows))
    owned b t true same is =
        let number : a ≡ b = same_number a b same in
        let both : Some s ≡ Some t = sym (ch b ∙ rw same refl) ∙ is in
        let keys : t.own.keys ≡ [] = let t_is : s ≡ t = grind (arith, both) in rw (sym t_is) own in
        keys ∙ sym (rw (sym number) (ap handles (no_rows a actors (values_of rows) k.owners none)))
    owned b t false other is = k.owned b t (sym (ch b ∙ rw other refl) ∙ is)

    waits : (b : ℕ) (c : Bool) → is_at (nat_cmp a) b ≡ c → is_key b busy ≡ waits_at (value_at b new)
    waits b true same =
        let number : a ≡ b = same_number a b same in
        let was : is_key b busy ≡ false = k.busy_is b
        ∙ ap waits_at (subst (λ (n : ℕ). value_at n actors ≡ None) number none) in
        let is : waits_at (value_at b new) ≡ false = rw (ch b, same) (rw empty refl) in
        was ∙ sym is
    waits b false other = rw (ch b, other) (k.busy_is b)

-- ---- the busy ones

pub busy_set : (a : ℕ) (w : Bool) (t : Option LiveActor) (actors new : List (ℕ × LiveActor)) (busy more : List ℕ)
    → IsBusy busy actors → ChangesAt a t actors new → SetChangesAt a w busy more → w ≡ waits_at t → IsBusy more new
busy_set a w t actors new busy more k ch set is b = split (is_at (nat_cmp a) b) refl
  where
    split : (c : Bool) → is_at (nat_cmp a) b ≡ c → is_key b more ≡ waits_at (value_at b new)
    split true same = rw (set b, ch b, same) is
    split false other = rw (set b, ch b, other) (k b)

pub busy_same : (a : ℕ) (s t : LiveActor) (actors new : List (ℕ × LiveActor)) (busy : List ℕ) → IsBusy busy actors
    → IsRenewed a s t actors new → waits_at (Some t) ≡ waits_at (Some s) → IsBusy busy new
busy_same a s t actors new busy k re is b = split (is_at (nat_cmp a) b) refl
  where
    split : (c : Bool) → is_at (nat_cmp a) b ≡ c → is_key b busy ≡ waits_at (value_at b new)
    split true same =
        let number : a ≡ b = same_number a b same in
        let was : value_at b actors ≡ Some s = subst (λ (n : ℕ). value_at n actors ≡ Some s) number re.was in
        rw (re.changes b, same) (k b ∙ ap waits_at was ∙ sym is)
    split false other = rw (re.changes b, other) (k b)

-- ---- one live actor changes

-- one live actor has the handles of its rows as they are now, and the rows of another are as before
pub owned_renewed : (a b : ℕ) (t u : LiveActor) (actors new : List (ℕ × LiveActor)) (rows after : List Row)
    → IsOwned actors rows
    → ChangesAt a (Some t) actors new → t.own.keys ≡ handles (rows_of a after)
    → ((a == b) ≡ false → rows_of b after ≡ rows_of b rows) → value_at b new ≡ Some u
    → u.own.keys ≡ handles (rows_of b after)
owned_renewed a b t u actors new rows after k ch own others is = split (is_at (nat_cmp a) b) refl
  where
    split : (c : Bool) → is_at (nat_cmp a) b ≡ c → u.own.keys ≡ handles (rows_of b after)
    split true same =
        let number : a ≡ b = same_number a b same in
        let both : Some t ≡ Some u = sym (ch b ∙ rw same refl) ∙ is in
        let u_is : t ≡ u = grind (arith, both) in
        subst (λ (n : ℕ). u.own.keys ≡ handles (rows_of n after)) number (rw (sym u_is) own)
    split false other =
        let apart : (a == b) ≡ false = grind (arith, is_at_same a b, other) in
        k b u (sym (ch b ∙ rw other refl) ∙ is) ∙ ap handles (sym (others apart))

owned_same : (a b : ℕ) (s t u : LiveActor) (actors new : List (ℕ × LiveActor)) (rows : List Row) → IsOwned actors rows
    → IsRenewed a s t actors new → t.own.keys ≡ s.own.keys → value_at b new ≡ Some u
    → u.own.keys ≡ handles (rows_of b rows)
owned_same a b s t u actors new rows k re own is = split (is_at (nat_cmp a) b) refl
  where
    split : (c : Bool) → is_at (nat_cmp a) b ≡ c → u.own.keys ≡ handles (rows_of b rows)
    split true same =
        let number : a ≡ b = same_number a b same in
        let both : Some t ≡ Some u = sym (re.changes b ∙ rw same refl) ∙ is in
        let u_is : t ≡ u = grind (arith, both) in
        subst (λ (n : ℕ). u.own.keys ≡ handles (rows_of n rows)) number (rw (sym u_is) (own ∙ k a s re.was))
    split false other = k b u (sym (re.changes b ∙ rw other refl) ∙ is)

pub kept_renewed : (a next : ℕ) (s t : LiveActor) (rows : List (ℕ × Row)) (actors new : List (ℕ × LiveActor))
    (busy more : List ℕ)
    → IsKept next rows actors busy → IsRenewed a s t actors new → t.own.keys ≡ s.own.keys → t.row_weight ≡ s.row_weight
    → IsBusy more new → IsKept next rows new more
kept_renewed a next s t rows actors new busy more k re own weighs waits = record {
  keyed = k.keyed;
  rows_ascend = k.rows_ascend;
  below = k.below;
  owners = all_weaker _ _ (λ r o. some_still a r.owner t actors new re.changes o) (values_of rows) k.owners;
  actors_ascend = re.ascend;
  owned = λ b u is. owned_same a b s t u actors new (values_of rows) k.owned re own is;
  weighed = weighed_renewed a t actors new (values_of rows) (values_of rows) k.weighed re.changes
      (weighs ∙ k.weighed a s re.was) (λ b apart. refl);
  busy_is = waits;
}

-- ---- one more row

handles-push_own : (a : ℕ) (rows : List Row) (r : Row) → (r.owner == a) ≡ true
    → handles (rows_of a (rows ++ r ∷ [])) ≡ handles (rows_of a rows) ++ r.handle ∷ []
handles-push_own a [] r own = rw own refl
handles-push_own a (x ∷ xs) r own = grind (arith, handles-push_own a xs r own)

rows_of-push_other : (a : ℕ) (rows : List Row) (r : Row) → (r.owner == a) ≡ false
    → rows_of a (rows ++ r ∷ []) ≡ rows_of a rows
rows_of-push_other a [] r other = rw other refl
rows_of-push_other a (x ∷ xs) r other = grind (arith, rows_of-push_other a xs r other)

owned_more : (b next : ℕ) (s t u : LiveActor) (row : Row) (actors new : List (ℕ × LiveActor)) (rows : List Row)
    → IsOwned actors rows → IsRenewed row.owner s t actors new → t.own.keys ≡ s.own.keys ++ row.handle ∷ []
    → value_at b new ≡ Some u → u.own.keys ≡ handles (rows_of b (rows ++ row ∷ []))
owned_more b next s t u row actors new rows k re own is = split (is_at (nat_cmp row.owner) b) refl
  where
    split : (c : Bool) → is_at (nat_cmp row.owner) b ≡ c → u.own.keys ≡ handles (rows_of b (rows ++ row ∷ []))
    split true same =
        let number : row.owner ≡ b = same_number row.owner b same in
        let both : Some t ≡ Some u = sym (re.changes b ∙ rw same refl) ∙ is in
        let u_is : t ≡ u = grind (arith, both) in
        let all : handles (rows_of row.owner (rows ++ row ∷ [])) ≡ handles (rows_of row.owner rows) ++ row.handle ∷ [] =
        handles-push_own row.owner rows row (grind arith) in
        subst (λ (n : ℕ). u.own.keys ≡ handles (rows_of n (rows ++ row ∷ []))) number
        (rw (sym u_is) (own ∙ ap (λ (ks : List ℕ). ks ++ row.handle ∷ []) (k row.owner s re.was) ∙ sym all))
    split false other =
        let apart : (row.owner == b) ≡ false = grind (arith, is_at_same row.owner b, other) in
        k b u (sym (re.changes b ∙ rw other refl) ∙ is) ∙ ap handles (sym (rows_of-push_other b rows row apart))

pub kept_asserted : (next : ℕ) (s t : LiveActor) (row : Row) (rows more : List (ℕ × Row))
    (actors new : List (ℕ × LiveActor))
    (busy : List ℕ) → IsKept next rows actors busy → IsRenewed row.owner s t actors new
    → t.own.keys ≡ s.own.keys ++ row.handle ∷ [] → t.row_weight ≡ s.row_weight + top (weight row.value)
    → t.inbox ≡ s.inbox → row.handle ≡ next → more ≡ rows ++ by_handle row ∷ [] → KeysAscend more
    → IsKept (next + 1) more new busy
kept_asserted next s t row rows more actors new busy k re own weighs same handle more_is ascend =
    let v : values_of more ≡ values_of rows ++ row ∷ [] = ap values_of more_is ∙ values-push rows row in
    let here : IsSome (value_at row.owner new) = rw (changed_here row.owner (Some t) actors new re.changes) refl in
    let waits : waits_at (Some t) ≡ waits_at (Some s) = ap (λ (bs : List Batch). nat_lt 0 (length bs)) same in
    record {
      keyed = keyed_from more _ (more_is ∙ ap (λ (es : List (ℕ × Row)). es ++ by_handle row ∷ []) k.keyed
          ∙ sym (map-append by_handle (values_of rows) (row ∷ [])));
      rows_ascend = ascend;
      below = rw v (all_push _ (values_of rows) row
          (all_weaker _ _ (λ r l. omega (arith, l)) (values_of rows) k.below) (omega (arith, handle)));
      owners = rw v (all_push _ (values_of rows) row
          (all_weaker _ _ (λ r o. some_still row.owner r.owner t actors new re.changes o) (values_of rows) k.owners)
          here);
      actors_ascend = re.ascend;
      owned = λ b u is. rw v (owned_more b next s t u row actors new (values_of rows) k.owned re own is);
      weighed = rw v (weighed_renewed row.owner t actors new (values_of rows) (values_of rows ++ row ∷ []) k.weighed
          re.changes
          (weighs ∙ ap (λ (n : ℕ). n + top (weight row.value)) (k.weighed row.owner s re.was)
          ∙ sym (sum_of_rows-push row.owner (values_of rows) row (grind arith)))
          (λ b apart. rows_of-push_other b (values_of rows) row apart));
      busy_is = busy_same row.owner s t actors new busy k.busy_is re waits;
    }

-- ---- one row less

pub owner_lives : (h : ℕ) (actors : List (ℕ × LiveActor)) (rows : List Row) (r : Row)
    → AllByRecursion (λ r. IsSome (value_at r.owner actors)) rows → find_row h rows ≡ Some r
    → IsSome (value_at r.owner actors)
owner_lives h actors [] r live is = absurd cc
owner_lives h actors (x ∷ xs) r live is = split (x.handle == h) refl (owner_lives h actors xs r live.1)
  where
    split : (b : Bool) → (x.handle == h) ≡ b → (find_row h xs ≡ Some r → IsSome (value_at r.owner actors))
        → IsSome (value_at r.owner actors)
    split true here later =
        let x_is : Some x ≡ Some r = sym (rw here refl) ∙ is in
        let same : x ≡ r = grind (arith, x_is) in
        subst (λ (y : Row). IsSome (value_at y.owner actors)) same live.0
    split false other later = later (rw other at is)

owned_less : (b h : ℕ) (s t u : LiveActor) (row : Row) (actors new : List (ℕ × LiveActor)) (rows : List Row)
    → IsOwned actors rows → IsRenewed row.owner s t actors new → t.own.keys ≡ remove_key (is_at (nat_cmp h)) s.own.keys
    → Ascend rows → find_row h rows ≡ Some row → value_at b new ≡ Some u
    → u.own.keys ≡ handles (rows_of b (without_row h rows))
owned_less b h s t u row actors new rows k re own ascend found is = split (is_at (nat_cmp row.owner) b) refl
  where
    split : (c : Bool) → is_at (nat_cmp row.owner) b ≡ c → u.own.keys ≡ handles (rows_of b (without_row h rows))
    split true same =
        let number : row.owner ≡ b = same_number row.owner b same in
        let both : Some t ≡ Some u = sym (re.changes b ∙ rw same refl) ∙ is in
        let u_is : t ≡ u = grind (arith, both) in
        let less = handles-without row.owner h rows row ascend found (grind arith) in
        subst (λ (n : ℕ). u.own.keys ≡ handles (rows_of n (without_row h rows))) number
        (rw (sym u_is) (own ∙ ap (remove_key (is_at (nat_cmp h))) (k row.owner s re.was) ∙ sym less))
    split false other =
        let apart : (row.owner == b) ≡ false = grind (arith, is_at_same row.owner b, other) in
        k b u (sym (re.changes b ∙ rw other refl) ∙ is)
        ∙ ap handles (sym (rows_of-without_other b h rows row ascend found apart))

pub kept_retracted : (h next : ℕ) (s t : LiveActor) (row : Row) (rows less : List (ℕ × Row))
    (actors new : List (ℕ × LiveActor))
    (busy : List ℕ) → IsKept next rows actors busy → IsRenewed row.owner s t actors new
    → t.own.keys ≡ remove_key (is_at (nat_cmp h)) s.own.keys → t.row_weight + top (weight row.value) ≡ s.row_weight
    → t.inbox ≡ s.inbox → find_row h (values_of rows) ≡ Some row
    → less ≡ map by_handle (without_row h (values_of rows)) → KeysAscend less
    → IsKept next less new busy
kept_retracted h next s t row rows less actors new busy k re own weighs same found less_is ascend =
    let v : values_of less ≡ without_row h (values_of rows) = values_from less _ less_is in
    let ascends = ascend_from rows k.keyed k.rows_ascend in
    let waits : waits_at (Some t) ≡ waits_at (Some s) = ap (λ (bs : List Batch). nat_lt 0 (length bs)) same in
    record {
      keyed = keyed_from less _ less_is;
      rows_ascend = ascend;
      below = rw v (all_filter _ _ _ (λ r passed l. l) (values_of rows) k.below);
      owners = rw v (all_filter _ _ _ (λ r passed o. some_still row.owner r.owner t actors new re.changes o)
          (values_of rows) k.owners);
      actors_ascend = re.ascend;
      owned = λ b u is. rw v (owned_less b h s t u row actors new (values_of rows) k.owned re own
          ascends found is);
      weighed = rw v (weighed_renewed row.owner t actors new (values_of rows) (without_row h (values_of rows)) k.weighed
          re.changes
          (less_weight h row t.row_weight s.row_weight (values_of rows) ascends found weighs
          (k.weighed row.owner s re.was))
          (λ b apart. rows_of-without_other b h (values_of rows) row ascends found apart));
      busy_is = busy_same row.owner s t actors new busy k.busy_is re waits;
    }

-- ---- an actor goes

rows_of-others : (a b : ℕ) (rows : List Row) → (a == b) ≡ false → rows_of b (rows_of_others a rows) ≡ rows_of b rows
rows_of-others a b [] apart = refl
rows_of-others a b (r ∷ rs) apart = grind (arith, rows_of-others a b rs apart)

pub kept_ended : (a next : ℕ) (rows less : List (ℕ × Row)) (actors new : List (ℕ × LiveActor)) (busy fewer : List ℕ)
    → IsKept next rows actors busy → ChangesAt a None actors new → KeysAscend new → SetChangesAt a false busy fewer
    → less ≡ map by_handle (values_of less) → values_of less ≡ rows_of_others a (values_of rows) → KeysAscend less
    → IsKept next less new fewer
kept_ended a next rows less actors new busy fewer k ch new_ascend set keyed v ascend = record {
  keyed = keyed;
  rows_ascend = ascend;
  below = rw v (all_filter _ _ _ (λ r passed l. l) (values_of rows) k.below);
  owners = rw v (all_filter _ _ _ (λ r passed o. still r passed o) (values_of rows) k.owners);
  actors_ascend = new_ascend;
  owned = λ b u is. rw v (owned b u (is_at (nat_cmp a) b) refl is);
  weighed = λ b u is. rw v (weighed b u (is_at (nat_cmp a) b) refl is);
  busy_is = busy_set a false None actors new busy fewer k.busy_is ch set refl;
}
  where
    still : (r : Row) → not (r.owner == a) ≡ true → IsSome (value_at r.owner actors) → IsSome (value_at r.owner new)
    still r passed o =
        let other : is_at (nat_cmp a) r.owner ≡ false = grind (arith, is_at_same a r.owner, passed) in
        rw (ch r.owner, other) o

    owned : (b : ℕ) (u : LiveActor) (c : Bool) → is_at (nat_cmp a) b ≡ c → value_at b new ≡ Some u
        → u.own.keys ≡ handles (rows_of b (rows_of_others a (values_of rows)))
    owned b u true same is = let clash : None ≡ Some u = sym (ch b ∙ rw same refl) ∙ is in absurd cc
    owned b u false other is =
        let apart : (a == b) ≡ false = grind (arith, is_at_same a b, other) in
        k.owned b u (sym (ch b ∙ rw other refl) ∙ is) ∙ ap handles (sym (rows_of-others a b (values_of rows) apart))

    weighed : (b : ℕ) (u : LiveActor) (c : Bool) → is_at (nat_cmp a) b ≡ c → value_at b new ≡ Some u
        → u.row_weight ≡ sum_of_rows (rows_of b (rows_of_others a (values_of rows)))
    weighed b u true same is = let clash : None ≡ Some u = sym (ch b ∙ rw same refl) ∙ is in absurd cc
    weighed b u false other is =
        let apart : (a == b) ≡ false = grind (arith, is_at_same a b, other) in
        k.weighed b u (sym (ch b ∙ rw other refl) ∙ is)
        ∙ ap sum_of_rows (sym (rows_of-others a b (values_of rows) apart))

-- ---- what the maps' calls say

pub renewed_from : (a : ℕ) (s t : LiveActor) (old new : BTreeMap ℕ LiveActor) → get nat_cmp old a ≡ Some s
    → WritesThrough nat_cmp (nat_cmp a) old t new → IsRenewed a s t old.entries new.entries
renewed_from a s t old new was w = record {
  was = was;
  changes = (w.3 (ap is_some was)).0;
  ascend = w.4;
}

all_keys_below : (n : ℕ) (rows : List Row) → AllByRecursion (λ r. r.handle < n) rows
    → AllByRecursion (λ (e : ℕ × Row). e.0 < n) (map by_handle rows)
all_keys_below n [] a = tt
all_keys_below n (r ∷ rs) a = (a.0, all_keys_below n rs a.1)

pub keys_below : (next : ℕ) (rows : List (ℕ × Row)) (actors : List (ℕ × LiveActor)) (busy : List ℕ)
    → IsKept next rows actors busy → AllByRecursion (λ e. e.0 < next) rows
keys_below next rows actors busy k =
    subst (λ (es : List (ℕ × Row)). AllByRecursion (λ e. e.0 < next) es) (sym k.keyed)
    (all_keys_below next (values_of rows) k.below)

handles_below : (a n : ℕ) (rows : List Row) → AllByRecursion (λ r. r.handle < n) rows
    → AllByRecursion (λ h. h < n) (handles (rows_of a rows))
handles_below a n [] b = tt
handles_below a n (r ∷ rs) b = split (r.owner == a) refl (handles_below a n rs b.1)
  where
    split : (c : Bool) → (r.owner == a) ≡ c → AllByRecursion (λ h. h < n) (handles (rows_of a rs))
        → AllByRecursion (λ h. h < n) (handles (rows_of a (r ∷ rs)))
    split true is rest = rw is (b.0, rest)
    split false is rest = rw is rest

pub own_below : (a next : ℕ) (s : LiveActor) (rows : List (ℕ × Row)) (actors : List (ℕ × LiveActor)) (busy : List ℕ)
    → IsKept next rows actors busy → value_at a actors ≡ Some s → AllByRecursion (λ h. h < next) s.own.keys
own_below a next s rows actors busy k was = rw (k.owned a s was) (handles_below a next (values_of rows) k.below)

-- ---- what is true of every table

numbers-seen : (actors : List (ℕ × LiveActor)) → keys_of actors ≡ map (λ x. x.number) (map seen actors)
numbers-seen [] = refl
numbers-seen (e ∷ es) = ap (λ t. e.0 ∷ t) (numbers-seen es)

pub is_table : (next : ℕ) (rows : List (ℕ × Row)) (actors : List (ℕ × LiveActor)) (busy : List ℕ)
    → IsKept next rows actors busy → IsTable (state_of next rows actors)
is_table next rows actors busy k = record {
  rows_ascend = ascend_from rows k.keyed k.rows_ascend;
  rows_below_next = k.below;
  actors_ascend = subst (IsStrictlySortedBy nat_cmp) (numbers-seen actors) k.actors_ascend;
  owners_live = all_weaker _ _ (λ r o. is_live-seen r.owner next rows actors ∙ o) (values_of rows) k.owners;
}
