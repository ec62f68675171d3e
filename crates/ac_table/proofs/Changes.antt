-- What becomes of the lists where a map changes.
use Rattle.std.proofs.Common.{◌≡◌, ℕ, Bool, true, false, not, ◌==◌, List, [], ◌∷◌, ◌++◌, map, refl, ap}
use Rattle.std.proofs.Common.{arith, sym, ◌∙◌, filter, Some, None, Less, cond, Option, unwrap_or}
use Rattle.std.specs.BTreeMap.{is_at, insert_entry}
use Rattle.std.specs.List.{AllByRecursion}
use Rattle.std.specs.Map.{keys_of, values_of, remove_entry, set_value}
use Rattle.std.specs.Ordering.{nat_cmp}
use Rattle.std.proofs.lemmas.Map.Keys.{sorted_head, sorted_tail}
use Rattle.std.proofs.lemmas.List.{map-append}
use Rattle.ac_table.specs.Tables.{Row, Actor, Batch, placed, with_inbox}
use Rattle.ac_table.specs.Facets.{Tree}
use Rattle.ac_table.specs.Kept.{by_handle, seen, tree_seen, value_at, KeysAscend}
use Rattle.ac_table.specs.Placed.{tree_in}
use Rattle.ac_table.specs.declared.table.LiveActor.{LiveActor}
use Rattle.ac_table.specs.Lemmas.Entries.{is_at_same}

pub seen-set_value : (a : ℕ) (f : List Batch → List Batch) (s t : LiveActor) (es : List (ℕ × LiveActor))
    → value_at a es ≡ Some s → t.inbox ≡ f s.inbox
    → map seen (set_value (is_at (nat_cmp a)) es t) ≡ with_inbox a f (map seen es)
seen-set_value a f s t [] at is = refl
seen-set_value a f s t (e ∷ es) at is = split (e.0 == a) refl (seen-set_value a f s t es)
  where
    split : (b : Bool) → (e.0 == a) ≡ b
        → (value_at a es ≡ Some s → t.inbox ≡ f s.inbox
        → map seen (set_value (is_at (nat_cmp a)) es t) ≡ with_inbox a f (map seen es))
        → map seen (set_value (is_at (nat_cmp a)) (e ∷ es) t) ≡ with_inbox a f (map seen (e ∷ es))
    split true same later =
        let here : is_at (nat_cmp a) e.0 ≡ true = is_at_same a e.0 ∙ same in
        let e_is : Some e.1 ≡ Some s = sym (rw here refl) ∙ at in
        grind (arith, here, same, e_is, is)
    split false other later =
        let past : is_at (nat_cmp a) e.0 ≡ false = is_at_same a e.0 ∙ other in
        rw (past, other) (ap (λ t. seen e ∷ t) (later (rw past at at) is))

pub with_inbox-same : (a : ℕ) (xs : List Actor) → with_inbox a (λ bs. bs) xs ≡ xs
with_inbox-same a [] = refl
with_inbox-same a (x ∷ xs) = grind (arith, with_inbox-same a xs)

pub seen-set_same : (a : ℕ) (s t : LiveActor) (es : List (ℕ × LiveActor))
    → value_at a es ≡ Some s → t.inbox ≡ s.inbox
    → map seen (set_value (is_at (nat_cmp a)) es t) ≡ map seen es
seen-set_same a s t es at is = seen-set_value a (λ bs. bs) s t es at is ∙ with_inbox-same a (map seen es)

pub seen-insert : (a : ℕ) (s : LiveActor) (es : List (ℕ × LiveActor)) → value_at a es ≡ None
    → map seen (insert_entry nat_cmp es a s) ≡ placed (seen (a, s)) (map seen es)
seen-insert a s [] none = refl
seen-insert a s (e ∷ es) none = grind (arith, is_at_same a e.0, seen-insert a s es)

-- none of the numbers is below this one, or at it
abbrev pub AreAbove : ℕ → List (ℕ × LiveActor) → Type 0
AreAbove a es = AllByRecursion (λ k. nat_cmp a k ≡ Less) (keys_of es)

without-above : (a : ℕ) (es : List (ℕ × LiveActor)) → AreAbove a es
    → filter (λ x. not (x.number == a)) (map seen es) ≡ map seen es
without-above a [] above = refl
without-above a (e ∷ es) above = grind (arith, above.0, without-above a es above.1)

pub seen-remove : (a : ℕ) (es : List (ℕ × LiveActor)) → KeysAscend es
    → map seen (remove_entry (is_at (nat_cmp a)) es) ≡ filter (λ x. not (x.number == a)) (map seen es)
seen-remove a [] s = refl
seen-remove a (e ∷ es) s =
    grind (
      arith,
      is_at_same a e.0,
      seen-remove a es (sorted_tail nat_cmp _ _ s),
      λ (same : e.0 ≡ a). without-above a es (rw (sym same) (sorted_head nat_cmp _ _ s)),
    )

pub values-push : (es : List (ℕ × Row)) (r : Row) → values_of (es ++ by_handle r ∷ []) ≡ values_of es ++ r ∷ []
values-push es r = map-append (λ e. e.1) es (by_handle r ∷ [])

-- ---- the trees of facets

pub trees-insert : (a : ℕ) (s : LiveActor) (es : List (ℕ × LiveActor))
    → map tree_seen (insert_entry nat_cmp es a s) ≡ insert_entry nat_cmp (map tree_seen es) a (tree_in s.facets)
trees-insert a s [] = refl
trees-insert a s (e ∷ es) = grind (arith, trees-insert a s es)

pub trees-remove : (a : ℕ) (es : List (ℕ × LiveActor))
    → map tree_seen (remove_entry (is_at (nat_cmp a)) es) ≡ remove_entry (is_at (nat_cmp a)) (map tree_seen es)
trees-remove a [] = refl
trees-remove a (e ∷ es) = by (is_at (nat_cmp a) e.0) (trees-remove a es)
  where
    by : (b : Bool)
        → map tree_seen (remove_entry (is_at (nat_cmp a)) es) ≡ remove_entry (is_at (nat_cmp a)) (map tree_seen es)
        → map tree_seen (cond b es (e ∷ remove_entry (is_at (nat_cmp a)) es))
        ≡ cond b (map tree_seen es) (tree_seen e ∷ remove_entry (is_at (nat_cmp a)) (map tree_seen es))
    by true rest = refl
    by false rest = ap (λ t. tree_seen e ∷ t) rest

pub trees-set : (a : ℕ) (t : LiveActor) (es : List (ℕ × LiveActor))
    → map tree_seen (set_value (is_at (nat_cmp a)) es t)
    ≡ set_value (is_at (nat_cmp a)) (map tree_seen es) (tree_in t.facets)
trees-set a t [] = refl
trees-set a t (e ∷ es) = by (is_at (nat_cmp a) e.0) (trees-set a t es)
  where
    by : (b : Bool)
        → map tree_seen (set_value (is_at (nat_cmp a)) es t)
        ≡ set_value (is_at (nat_cmp a)) (map tree_seen es) (tree_in t.facets)
        → map tree_seen (cond b ((e.0, t) ∷ es) (e ∷ set_value (is_at (nat_cmp a)) es t))
        ≡ cond b ((e.0, tree_in t.facets) ∷ map tree_seen es)
        (tree_seen e ∷ set_value (is_at (nat_cmp a)) (map tree_seen es) (tree_in t.facets))
    by true rest = refl
    by false rest = ap (λ t. tree_seen e ∷ t) rest

abbrev pub tree_at : Option LiveActor → Tree
tree_at None = []
tree_at (Some s) = tree_in s.facets

pub tree-seen : (a : ℕ) (es : List (ℕ × LiveActor))
    → unwrap_or (value_at a (map tree_seen es)) [] ≡ tree_at (value_at a es)
tree-seen a [] = refl
tree-seen a (e ∷ es) = by (is_at (nat_cmp a) e.0) (tree-seen a es)
  where
    by : (b : Bool) → unwrap_or (value_at a (map tree_seen es)) [] ≡ tree_at (value_at a es)
        → unwrap_or (cond b (Some (tree_in e.1.facets)) (value_at a (map tree_seen es))) []
        ≡ tree_at (cond b (Some e.1) (value_at a es))
    by true rest = refl
    by false rest = rest

pub trees-same : (a : ℕ) (s t : LiveActor) (es : List (ℕ × LiveActor)) → value_at a es ≡ Some s
    → tree_in t.facets ≡ tree_in s.facets → map tree_seen (set_value (is_at (nat_cmp a)) es t) ≡ map tree_seen es
trees-same a s t [] at same = refl
trees-same a s t (e ∷ es) at same = by (is_at (nat_cmp a) e.0) refl (trees-same a s t es)
  where
    by : (b : Bool) → is_at (nat_cmp a) e.0 ≡ b
        → (value_at a es ≡ Some s → tree_in t.facets ≡ tree_in s.facets
        → map tree_seen (set_value (is_at (nat_cmp a)) es t) ≡ map tree_seen es)
        → map tree_seen (set_value (is_at (nat_cmp a)) (e ∷ es) t) ≡ map tree_seen (e ∷ es)
    by true here later =
        let e_is : Some e.1 ≡ Some s = sym (rw here refl) ∙ at in
        let s_is : e.1 ≡ s = grind (arith, e_is) in
        let tree : tree_in t.facets ≡ tree_in e.1.facets = same ∙ ap (λ (v : LiveActor). tree_in v.facets) (sym s_is) in
        rw here (ap (λ (t : Tree). (e.0, t) ∷ map tree_seen es) tree)
    by false other later = rw other (ap (λ t. tree_seen e ∷ t) (later (rw other at at) same))
