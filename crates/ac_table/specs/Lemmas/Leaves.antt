-- Facets right below facet 0, with none below them: how they come and go. And the trees of other actors, which stay.
use Rattle.std.proofs.Common.{◌≡◌, ℕ, zero, suc, ◌<◌, Bool, true, false, not, ◌==◌, ◌&&◌, cond, List, [], ◌∷◌}
use Rattle.std.proofs.Common.{filter, refl, ap, arith, sym, ◌∙◌, subst, is_some, Some, None, Option, unwrap_or}
use Rattle.std.specs.BTreeMap.{is_at, insert_entry}
use Rattle.std.specs.List.{list_any}
use Rattle.std.specs.Ordering.{nat_cmp}
use Rattle.std.proofs.lemmas.Bool.Decides.{nat_tests}
use Rattle.ac_table.specs.Facets.{Tree, root_alone, is_facet, above, climbed, AreBelow}
use Rattle.ac_table.specs.Lemmas.Entries.{is_at_same, lookup-insert, lookup-filter, lookup-set_here, lookup-set_other}
use Rattle.ac_table.specs.Lemmas.Entries.{lookup-remove_other}
use Rattle.ac_table.specs.Maps.{value_at, is_key}
use Rattle.ac_table.specs.Tables.{Row, TableState, IsStopped, tree_of, has_facet, has_rows, stands_in}
use Rattle.ac_table.specs.Tables.{joined, ended, with_tree, faceted, without_facets}

-- ---- an actor's tree

-- the actor has a tree, as each live one does
abbrev pub has_tree : ℕ → TableState → Bool
has_tree a t = is_some (value_at a t.trees)

pub tree_of_facet : (a f : ℕ) (t : TableState) → has_facet a f t ≡ true → has_tree a t ≡ true
tree_of_facet a f t is = by (value_at a t.trees) refl
  where
    by : (o : Option Tree) → value_at a t.trees ≡ o → has_tree a t ≡ true
    by None none =
        let clash : true ≡ false = sym is ∙ ap (λ (o : Option Tree). is_facet f (unwrap_or o [])) none in absurd cc
    by (Some x) some = ap is_some some

tree_there : (a : ℕ) (t : TableState) → has_tree a t ≡ true → value_at a t.trees ≡ Some (tree_of a t)
tree_there a t is = by (value_at a t.trees) refl
  where
    by : (o : Option Tree) → value_at a t.trees ≡ o → value_at a t.trees ≡ Some (tree_of a t)
    by None none = let clash : true ≡ false = sym is ∙ ap is_some none in absurd cc
    by (Some x) some = rw some refl

tree_replaced : (a : ℕ) (tree : Tree) (t : TableState) → has_tree a t ≡ true → tree_of a (with_tree a tree t) ≡ tree
tree_replaced a tree t is =
    ap (λ (o : Option Tree). unwrap_or o []) (lookup-set_here a (tree_of a t) tree t.trees (tree_there a t is))

tree_spared : (a b : ℕ) (tree : Tree) (t : TableState) → (b == a) ≡ false → tree_of b (with_tree a tree t) ≡ tree_of b t
tree_spared a b tree t apart = ap (λ (o : Option Tree). unwrap_or o []) (lookup-set_other a b tree t.trees apart)

-- ---- the trees, once a facet is made or some have gone

pub tree_faceted : (a p n : ℕ) (t : TableState) → has_tree a t ≡ true
    → tree_of a (faceted a p n t) ≡ insert_entry nat_cmp (tree_of a t) n p
tree_faceted a p n t is = tree_replaced a (insert_entry nat_cmp (tree_of a t) n p) t is

pub other_tree_faceted : (a b p n : ℕ) (t : TableState) → (b == a) ≡ false → tree_of b (faceted a p n t) ≡ tree_of b t
other_tree_faceted a b p n t apart = tree_spared a b (insert_entry nat_cmp (tree_of a t) n p) t apart

pub tree_without : (a : ℕ) (fs : List ℕ) (t : TableState) → has_tree a t ≡ true
    → tree_of a (without_facets a fs t) ≡ filter (λ e. not (is_key e.0 fs)) (tree_of a t)
tree_without a fs t is = tree_replaced a (filter (λ e. not (is_key e.0 fs)) (tree_of a t)) t is

pub other_tree_without : (a b : ℕ) (fs : List ℕ) (t : TableState) → (b == a) ≡ false
    → tree_of b (without_facets a fs t) ≡ tree_of b t
other_tree_without a b fs t apart = tree_spared a b (filter (λ e. not (is_key e.0 fs)) (tree_of a t)) t apart

-- ---- the trees, as actors come and go

pub tree_joined : (a : ℕ) (t : TableState) → tree_of a (joined a t) ≡ root_alone
tree_joined a t =
    let here : is_at (nat_cmp a) a ≡ true = grind (arith, is_at_same a a) in
    let found : value_at a (insert_entry nat_cmp t.trees a root_alone) ≡ Some root_alone =
    lookup-insert a a root_alone t.trees ∙ rw here refl in
    ap (λ (o : Option Tree). unwrap_or o []) found

pub other_tree_joined : (a b : ℕ) (t : TableState) → (b == a) ≡ false → tree_of b (joined a t) ≡ tree_of b t
other_tree_joined a b t apart =
    let other : is_at (nat_cmp a) b ≡ false = is_at_same a b ∙ apart in
    let found : value_at b (insert_entry nat_cmp t.trees a root_alone) ≡ value_at b t.trees =
    lookup-insert b a root_alone t.trees ∙ rw other refl in
    ap (λ (o : Option Tree). unwrap_or o []) found

pub other_tree_ended : (a b : ℕ) (t : TableState) → (b == a) ≡ false → tree_of b (ended a t) ≡ tree_of b t
other_tree_ended a b t apart = ap (λ (o : Option Tree). unwrap_or o []) (lookup-remove_other a b t.trees apart)

-- whether it is this one alone
pub one_key : (g f : ℕ) → is_key g (f ∷ []) ≡ (g == f)
one_key g f = grind (arith, is_at_same g f, is_at_same f g)

-- ---- trees that are one level deep

-- each facet stands right below facet 0
abbrev pub IsFlat : Tree → Type 0
IsFlat t = (g : ℕ) → above g t ≡ 0

pub flat_more : (n : ℕ) (t : Tree) → IsFlat t → IsFlat (insert_entry nat_cmp t n 0)
flat_more n t flat g =
    ap (λ (o : Option ℕ). unwrap_or o 0) (lookup-insert g n 0 t) ∙ by (is_at (nat_cmp n) g)
  where
    by : (b : Bool) → unwrap_or (cond b (Some 0) (value_at g t)) 0 ≡ 0
    by true = refl
    by false = flat g

pub flat_less : (fs : List ℕ) (t : Tree) → IsFlat t → IsFlat (filter (λ e. not (is_key e.0 fs)) t)
flat_less fs t flat g = ap (λ (o : Option ℕ). unwrap_or o 0) (lookup-filter g fs t) ∙ by (is_key g fs)
  where
    by : (b : Bool) → unwrap_or (cond b None (value_at g t)) 0 ≡ 0
    by true = refl
    by false = flat g

pub flat_alone : IsFlat root_alone
flat_alone g = by (is_at (nat_cmp g) 0)
  where
    by : (b : Bool) → ◌≡◌ {A = ℕ} (unwrap_or (cond b (Some 0) None) 0) 0
    by true = refl
    by false = refl

-- ---- one facet goes alone

root_stays : (n : ℕ) (t : Tree) → IsFlat t → climbed n 0 t ≡ 0
root_stays zero t flat = refl
root_stays (suc n) t flat = ap (λ (g : ℕ). climbed n g t) (flat 0) ∙ root_stays n t flat

-- so nothing but a facet itself is below it, where it isn't facet 0
leaf_alone : (n f g : ℕ) (t : Tree) → IsFlat t → 0 < f → climbed n g t ≡ f → g ≡ f
leaf_alone zero f g t flat some up = up
leaf_alone (suc n) f g t flat some up =
    let none : 0 ≡ f = sym (root_stays n t flat) ∙ ap (λ (h : ℕ). climbed n h t) (sym (flat g)) ∙ up in
    absurd (omega (arith, none, some))

leaf_keys : (f : ℕ) (t : Tree) (fs : List ℕ) → AreBelow f t fs → is_facet f t ≡ true → 0 < f → IsFlat t
    → (g : ℕ) → is_key g fs ≡ is_key g (f ∷ [])
leaf_keys f t fs below there some flat g = by (is_key g fs) (g == f) refl refl ∙ sym (one_key g f)
  where
    by : (b c : Bool) → is_key g fs ≡ b → (g == f) ≡ c → is_key g fs ≡ (g == f)
    by true true gone here = gone ∙ sym here
    by false false kept other = kept ∙ sym other
    by true false gone other =
        let up = ((below g).0 gone).1 in
        let same : g ≡ f = leaf_alone up.0 f g t flat some up.1 in
        let clash : true ≡ false = sym (grind (arith, nat_tests, same)) ∙ other in absurd cc
    by false true kept here =
        let same : g ≡ f = grind (arith, nat_tests, here) in
        let too : is_key g fs ≡ true =
        (below g).1 (subst (λ (n : ℕ). is_facet n t ≡ true) (sym same) there, (0, same)) in
        let clash : true ≡ false = sym too ∙ kept in absurd cc

same_facets_go : (a : ℕ) (fs gs : List ℕ) (t : TableState) → ((g : ℕ) → is_key g fs ≡ is_key g gs)
    → without_facets a fs t ≡ without_facets a gs t
same_facets_go a fs gs t same i =
    with_tree a (filter (λ e. not (same e.0 i)) (tree_of a t)) (record t {
      rows = filter (λ r. not (r.owner == a && same r.facet i)) t.rows;
    })

-- a facet of a tree that is one level deep goes alone
pub leaf_stops : (a f : ℕ) (old new : TableState) (told : List ℕ) → IsStopped a f old new told
    → has_facet a f old ≡ true → 0 < f → IsFlat (tree_of a old) → new ≡ without_facets a (f ∷ []) old
leaf_stops a f old new told s there some flat =
    s.state ∙ same_facets_go a s.facets (f ∷ []) old (leaf_keys f (tree_of a old) s.facets s.below there some flat)

-- where no rows stand in a facet, none go with it
none_go : (p : Row → Bool) (rows : List Row) → list_any p rows ≡ false → filter (λ r. not (p r)) rows ≡ rows
none_go p [] none = refl
none_go p (r ∷ rs) none = by (p r) refl (none_go p rs)
  where
    by : (b : Bool) → p r ≡ b → (list_any p rs ≡ false → filter (λ r. not (p r)) rs ≡ rs)
        → filter (λ r. not (p r)) (r ∷ rs) ≡ r ∷ rs
    by true is later = let clash : true ≡ false = sym (rw is refl) ∙ none in absurd cc
    by false is later = rw is (ap (λ (t : List Row). r ∷ t) (later (rw is at none)))

pub no_rows_go : (a f : ℕ) (t : TableState) → has_rows a f t ≡ false → (without_facets a (f ∷ []) t).rows ≡ t.rows
no_rows_go a f t none = none_go (stands_in a (f ∷ [])) t.rows none
