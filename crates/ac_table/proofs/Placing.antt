-- What is seen of facets in a map.
use Rattle.std.proofs.Common.{◌≡◌, ℕ, ◌<◌, Bool, true, false, not, ◌==◌, nat_lt, ◌&&◌, cond}
use Rattle.std.proofs.Common.{List, [], ◌∷◌, map, refl, ap, arith, sym, ◌∙◌, is_some, Some, None, Option}
use Rattle.std.proofs.Common.{subst, unwrap_or}
use Rattle.std.specs.BTreeMap.{BTreeMap, is_at, get, WritesThrough}
use Rattle.std.specs.Map.{set_value}
use Rattle.std.specs.Ordering.{nat_cmp}
use Rattle.std.proofs.lemmas.Bool.Decides.{nat_tests}
use Rattle.ac_table.specs.Facets.{is_facet, above, IsTree}
use Rattle.ac_table.specs.Maps.{value_at, is_key, KeysAscend, ChangesAt, SetChangesAt}
use Rattle.ac_table.specs.Placed.{FacetState, facet_seen, tree_in, rows_of_facet, has_at, is_child, is_here}
use Rattle.ac_table.specs.Placed.{WasAt, KeepsLinks, IsPlaced, HasRow, SameRows, LinksAt, IsLinked}
use Rattle.ac_table.specs.declared.facets.Facet.{Facet}
use Rattle.ac_table.specs.Lemmas.Entries.{is_at_same}

abbrev pub seen_of : Option Facet → Option FacetState
seen_of None = None
seen_of (Some x) = Some (record { parent = x.parent; rows = x.rows.keys })

pub seen_at : (g : ℕ) (all : List (ℕ × Facet)) → value_at g (map facet_seen all) ≡ seen_of (value_at g all)
seen_at g [] = refl
seen_at g (e ∷ es) = split (is_at (nat_cmp g) e.0) (seen_at g es)
  where
    split : (b : Bool) → value_at g (map facet_seen es) ≡ seen_of (value_at g es)
        → cond b (Some (facet_seen e).1) (value_at g (map facet_seen es)) ≡ seen_of (cond b (Some e.1) (value_at g es))
    split true later = refl
    split false later = later

abbrev pub parent_in : Option FacetState → Option ℕ
parent_in None = None
parent_in (Some x) = Some x.parent

pub parent_at : (g : ℕ) (fs : List (ℕ × FacetState)) → value_at g (tree_in fs) ≡ parent_in (value_at g fs)
parent_at g [] = refl
parent_at g (e ∷ es) = split (is_at (nat_cmp g) e.0) (parent_at g es)
  where
    split : (b : Bool) → value_at g (tree_in es) ≡ parent_in (value_at g es)
        → cond b (Some e.1.parent) (value_at g (tree_in es)) ≡ parent_in (cond b (Some e.1) (value_at g es))
    split true later = refl
    split false later = later

some_parent : (x : Option Facet) → is_some (parent_in (seen_of x)) ≡ is_some x
some_parent None = refl
some_parent (Some x) = refl

pub tree_at : (g : ℕ) (all : List (ℕ × Facet))
    → value_at g (tree_in (map facet_seen all)) ≡ parent_in (seen_of (value_at g all))
tree_at g all = parent_at g (map facet_seen all) ∙ ap parent_in (seen_at g all)

pub facet-seen : (g : ℕ) (all : List (ℕ × Facet)) → is_facet g (tree_in (map facet_seen all)) ≡ is_some (value_at g all)
facet-seen g all = ap is_some (tree_at g all) ∙ some_parent (value_at g all)

pub above-seen : (g : ℕ) (all : List (ℕ × Facet)) (x : Facet) → value_at g all ≡ Some x
    → above g (tree_in (map facet_seen all)) ≡ x.parent
above-seen g all x is = ap (λ (p : Option ℕ). unwrap_or p 0) (tree_at g all ∙ ap (λ o. parent_in (seen_of o)) is)

pub missing : (g : ℕ) (all : List (ℕ × Facet)) → value_at g all ≡ None
    → is_facet g (tree_in (map facet_seen all)) ≡ false
missing g all none = facet-seen g all ∙ ap is_some none

pub present : (g : ℕ) (all : List (ℕ × Facet)) (x : Facet) → value_at g all ≡ Some x
    → is_facet g (tree_in (map facet_seen all)) ≡ true
present g all x is = facet-seen g all ∙ ap is_some is

some_from : {X : Type 0} (o : Option X) → is_some o ≡ true → (x : X) × (o ≡ Some x)
some_from None is = absurd cc
some_from (Some x) is = (x, refl)

-- the facet under a number that is one
pub facet_of : (g : ℕ) (all : List (ℕ × Facet)) → is_facet g (tree_in (map facet_seen all)) ≡ true
    → (x : Facet) × (value_at g all ≡ Some x)
facet_of g all is = some_from (value_at g all) (sym (facet-seen g all) ∙ is)

pub child_missing : (g p : ℕ) (all : List (ℕ × Facet)) → value_at g all ≡ None
    → is_child g p (tree_in (map facet_seen all)) ≡ false
child_missing g p all none = rw (missing g all none) (both_false (nat_lt 0 g))
  where
    both_false : (b : Bool) → (b && false) ≡ false
    both_false true = refl
    both_false false = refl

pub child_at : (g p : ℕ) (all : List (ℕ × Facet)) (x : Facet) → value_at g all ≡ Some x
    → is_child g p (tree_in (map facet_seen all)) ≡ (nat_lt 0 g && x.parent == p)
child_at g p all x is = rw (present g all x is, above-seen g all x is) refl

-- ---- one facet changes

pub record IsRefaceted (f : ℕ) (x y : Facet) (old new : List (ℕ × Facet)) : Type 0 where
  pub was : value_at f old ≡ Some x
  pub is : new ≡ set_value (is_at (nat_cmp f)) old y
  pub changes : ChangesAt f (Some y) old new
  pub ascends : KeysAscend new

pub refaceted_from : (f : ℕ) (x y : Facet) (old new : BTreeMap ℕ Facet) → get nat_cmp old f ≡ Some x
    → WritesThrough nat_cmp (nat_cmp f) old y new → IsRefaceted f x y old.entries new.entries
refaceted_from f x y old new was w = record {
  was = was;
  is = w.0;
  changes = (w.3 (ap is_some was)).0;
  ascends = w.4;
}

tree-set : (f : ℕ) (x y : Facet) (es : List (ℕ × Facet)) → value_at f es ≡ Some x → y.parent ≡ x.parent
    → tree_in (map facet_seen (set_value (is_at (nat_cmp f)) es y)) ≡ tree_in (map facet_seen es)
tree-set f x y [] at same = refl
tree-set f x y (e ∷ es) at same = split (is_at (nat_cmp f) e.0) refl (tree-set f x y es)
  where
    split : (b : Bool) → is_at (nat_cmp f) e.0 ≡ b
        → (value_at f es ≡ Some x → y.parent ≡ x.parent
        → tree_in (map facet_seen (set_value (is_at (nat_cmp f)) es y)) ≡ tree_in (map facet_seen es))
        → tree_in (map facet_seen (set_value (is_at (nat_cmp f)) (e ∷ es) y)) ≡ tree_in (map facet_seen (e ∷ es))
    split true here later =
        let e_is : Some e.1 ≡ Some x = sym (rw here refl) ∙ at in
        let x_is : e.1 ≡ x = grind (arith, e_is) in
        let parent : y.parent ≡ e.1.parent = same ∙ ap (λ (z : Facet). z.parent) (sym x_is) in
        rw here (ap (λ (p : ℕ). (e.0, p) ∷ tree_in (map facet_seen es)) parent)
    split false other later =
        rw other (ap (λ t. (e.0, e.1.parent) ∷ t) (later (rw other at at) same))

pub same_tree : (f : ℕ) (x y : Facet) (old new : List (ℕ × Facet)) → IsRefaceted f x y old new → y.parent ≡ x.parent
    → tree_in (map facet_seen new) ≡ tree_in (map facet_seen old)
same_tree f x y old new re same = ap (λ es. tree_in (map facet_seen es)) re.is ∙ tree-set f x y old re.was same

facets-set : (f : ℕ) (x y : Facet) (es : List (ℕ × Facet)) → value_at f es ≡ Some x → y.parent ≡ x.parent
    → y.rows.keys ≡ x.rows.keys → map facet_seen (set_value (is_at (nat_cmp f)) es y) ≡ map facet_seen es
facets-set f x y [] at same rows = refl
facets-set f x y (e ∷ es) at same rows = split (is_at (nat_cmp f) e.0) refl (facets-set f x y es)
  where
    split : (b : Bool) → is_at (nat_cmp f) e.0 ≡ b
        → (value_at f es ≡ Some x → y.parent ≡ x.parent → y.rows.keys ≡ x.rows.keys
        → map facet_seen (set_value (is_at (nat_cmp f)) es y) ≡ map facet_seen es)
        → map facet_seen (set_value (is_at (nat_cmp f)) (e ∷ es) y) ≡ map facet_seen (e ∷ es)
    split true here later =
        let e_is : Some e.1 ≡ Some x = sym (rw here refl) ∙ at in
        let x_is : e.1 ≡ x = grind (arith, e_is) in
        let parent : y.parent ≡ e.1.parent = same ∙ ap (λ (z : Facet). z.parent) (sym x_is) in
        let own : y.rows.keys ≡ e.1.rows.keys = rows ∙ ap (λ (z : Facet). z.rows.keys) (sym x_is) in
        rw here (λ i. (e.0, record { parent = parent i; rows = own i }) ∷ map facet_seen es)
    split false other later = rw other (ap (λ t. facet_seen e ∷ t) (later (rw other at at) same rows))

pub same_facets : (f : ℕ) (x y : Facet) (old new : List (ℕ × Facet)) → IsRefaceted f x y old new
    → y.parent ≡ x.parent → y.rows.keys ≡ x.rows.keys → map facet_seen new ≡ map facet_seen old
same_facets f x y old new re same rows = ap (map facet_seen) re.is ∙ facets-set f x y old re.was same rows

pub keeps_links : (spared : ℕ → Bool) (f : ℕ) (x y : Facet) (old new : List (ℕ × Facet)) → IsRefaceted f x y old new
    → y.parent ≡ x.parent
    → ((k : ℕ) → spared k ≡ true → is_key k x.below.keys ≡ true → is_key k y.below.keys ≡ true)
    → KeepsLinks spared old new
keeps_links spared f x y old new re same grows g z is = split (is_at (nat_cmp f) g) refl
  where
    split : (b : Bool) → is_at (nat_cmp f) g ≡ b → WasAt spared old g z
    split true here =
        let number : f ≡ g = grind (arith, is_at_same f g, here) in
        let z_is : Some y ≡ Some z = sym (re.changes g ∙ rw here refl) ∙ is in
        let eq : y ≡ z = grind (arith, z_is) in
        record {
          was = x;
          found = subst (λ (n : ℕ). value_at n old ≡ Some x) number re.was;
          parent = ap (λ (w : Facet). w.parent) (sym eq) ∙ same;
          below = λ k s have. subst (λ (w : Facet). is_key k w.below.keys ≡ true) eq (grows k s have);
        }
    split false other = record {
      was = z;
      found = sym (re.changes g ∙ rw other refl) ∙ is;
      parent = refl;
      below = λ k s have. have;
    }

pub links_same : (spared : ℕ → Bool) (old : List (ℕ × Facet)) → KeepsLinks spared old old
links_same spared old g y is = record { was = y; found = is; parent = refl; below = λ k s have. have }

pub facet_same : (old new : List (ℕ × Facet)) (g : ℕ)
    → tree_in (map facet_seen new) ≡ tree_in (map facet_seen old)
    → is_some (value_at g new) ≡ is_some (value_at g old)
facet_same old new g same = sym (facet-seen g new) ∙ ap (is_facet g) same ∙ facet-seen g old

pub placed_same : (old new : List (ℕ × Facet)) (free : List ℕ) (end : ℕ) → IsPlaced old free end
    → tree_in (map facet_seen new) ≡ tree_in (map facet_seen old) → KeepsLinks (λ k. true) old new → KeysAscend new
    → IsPlaced new free end
placed_same old new free end k same links ascends = record {
  ascends = ascends;
  tree = subst IsTree (sym same) k.tree;
  linked = λ g x p some at above. linked g x p some (links g x at) (links x.parent p above);
  freed = λ n. k.freed n ∙ ap (λ b. nat_lt n end && not b) (sym (facet_same old new n same));
  within = λ n is. k.within n (sym (facet_same old new n same) ∙ is);
  fits = k.fits;
}
  where
    linked : (g : ℕ) (x p : Facet) → 0 < g → WasAt (λ k. true) old g x → WasAt (λ k. true) old x.parent p
        → is_key g p.below.keys ≡ true
    linked g x p some a b =
        let above : value_at a.was.parent old ≡ Some b.was =
        subst (λ (n : ℕ). value_at n old ≡ Some b.was) a.parent b.found in
        b.below g refl (k.linked g a.was b.was some a.found above)

-- ---- the rows in a facet

abbrev pub rows_in : Option Facet → List ℕ
rows_in None = []
rows_in (Some x) = x.rows.keys

rows_seen : (o : Option Facet) → rows_of_facet (seen_of o) ≡ rows_in o
rows_seen None = refl
rows_seen (Some x) = refl

pub rows-seen : (f : ℕ) (all : List (ℕ × Facet))
    → rows_of_facet (value_at f (map facet_seen all)) ≡ rows_in (value_at f all)
rows-seen f all = ap rows_of_facet (seen_at f all) ∙ rows_seen (value_at f all)

pub has-seen : (f h : ℕ) (all : List (ℕ × Facet))
    → has_at f h (map facet_seen all) ≡ is_key h (rows_in (value_at f all))
has-seen f h all = ap (is_key h) (rows-seen f all)

pub has_row : (f h : ℕ) (w : Bool) (x y : Facet) (old new : List (ℕ × Facet)) → IsRefaceted f x y old new
    → ((k : ℕ) → is_key k y.rows.keys ≡ cond (is_at (nat_cmp h) k) w (is_key k x.rows.keys))
    → HasRow f h w (map facet_seen old) (map facet_seen new)
has_row f h w x y old new re rows g k =
    has-seen g k new ∙ split (is_at (nat_cmp f) g) (is_at (nat_cmp h) k) refl refl
    ∙ ap (cond (is_here f h g k) w) (sym (has-seen g k old))
  where
    split : (b c : Bool) → is_at (nat_cmp f) g ≡ b → is_at (nat_cmp h) k ≡ c
        → is_key k (rows_in (value_at g new)) ≡ cond (is_here f h g k) w (is_key k (rows_in (value_at g old)))
    split true c here at =
        let number : f ≡ g = grind (arith, is_at_same f g, here) in
        let same : (g == f) ≡ true = sym (is_at_same f g) ∙ here in
        let was : value_at g old ≡ Some x = subst (λ (n : ℕ). value_at n old ≡ Some x) number re.was in
        let now : value_at g new ≡ Some y = re.changes g ∙ rw here refl in
        rw (now, was, same, ← is_at_same h k) (rows k)
    split false c other at =
        let apart : (g == f) ≡ false = sym (is_at_same f g) ∙ other in
        let now : value_at g new ≡ value_at g old = re.changes g ∙ rw other refl in
        rw (now, apart) refl

pub same_rows : (f : ℕ) (x y : Facet) (old new : List (ℕ × Facet)) → IsRefaceted f x y old new
    → y.rows.keys ≡ x.rows.keys → SameRows (map facet_seen old) (map facet_seen new)
same_rows f x y old new re rows g k =
    has-seen g k new ∙ split (is_at (nat_cmp f) g) refl ∙ sym (has-seen g k old)
  where
    split : (b : Bool) → is_at (nat_cmp f) g ≡ b
        → is_key k (rows_in (value_at g new)) ≡ is_key k (rows_in (value_at g old))
    split true here =
        let number : f ≡ g = grind (arith, is_at_same f g, here) in
        let was : value_at g old ≡ Some x = subst (λ (n : ℕ). value_at n old ≡ Some x) number re.was in
        let now : value_at g new ≡ Some y = re.changes g ∙ rw here refl in
        rw (now, was) (ap (is_key k) rows)
    split false other =
        let now : value_at g new ≡ value_at g old = re.changes g ∙ rw other refl in
        ap (λ (o : Option Facet). is_key k (rows_in o)) now

-- ---- who stands right below a facet

pub linked_here : (f n : ℕ) (x y : Facet) (old new : List (ℕ × Facet)) → IsRefaceted f x y old new
    → is_key n y.below.keys ≡ true → LinksAt f n new
linked_here f n x y old new re have z is =
    let here : is_at (nat_cmp f) f ≡ true = grind (arith, is_at_same f f) in
    let z_is : Some y ≡ Some z = sym (re.changes f ∙ rw here refl) ∙ is in
    let same : y ≡ z = grind (arith, z_is) in
    subst (λ (w : Facet). is_key n w.below.keys ≡ true) same have

pub grown : (n : ℕ) (ks more : List ℕ) → SetChangesAt n true ks more
    → (k : ℕ) → true ≡ true → is_key k ks ≡ true → is_key k more ≡ true
grown n ks more set k s have = split (is_at (nat_cmp n) k) refl
  where
    split : (b : Bool) → is_at (nat_cmp n) k ≡ b → is_key k more ≡ true
    split true here = set k ∙ rw here refl
    split false other = set k ∙ rw other have

pub key_same : (n : ℕ) (ks more : List ℕ) → SetChangesAt n true ks more → is_key n more ≡ true
key_same n ks more set =
    let here : is_at (nat_cmp n) n ≡ true = grind (arith, is_at_same n n) in set n ∙ rw here refl

pub spared_kept : (n : ℕ) (ks less : List ℕ) → SetChangesAt n false ks less
    → (k : ℕ) → not (k == n) ≡ true → is_key k ks ≡ true → is_key k less ≡ true
spared_kept n ks less set k s have =
    let other : is_at (nat_cmp n) k ≡ false = grind (arith, is_at_same n k, s) in set k ∙ rw other have

-- ---- what isn't there

pub no_facet : (f : ℕ) (all : List (ℕ × Facet)) (fs : List (ℕ × FacetState)) → map facet_seen all ≡ fs
    → value_at f all ≡ None → is_facet f (tree_in fs) ≡ true → ⊥
no_facet f all fs view none is =
    let clash : true ≡ false = sym is ∙ ap (λ gs. is_facet f (tree_in gs)) (sym view) ∙ missing f all none in
    absurd cc

pub no_row : (f h : ℕ) (all : List (ℕ × Facet)) → value_at f all ≡ None
    → HasRow f h false (map facet_seen all) (map facet_seen all)
no_row f h all none g k = split (is_at (nat_cmp f) g) refl
  where
    split : (b : Bool) → is_at (nat_cmp f) g ≡ b
        → has_at g k (map facet_seen all) ≡ cond (is_here f h g k) false (has_at g k (map facet_seen all))
    split true here =
        let number : f ≡ g = grind (arith, is_at_same f g, here) in
        let out : value_at g all ≡ None = subst (λ (n : ℕ). value_at n all ≡ None) number none in
        let empty : has_at g k (map facet_seen all) ≡ false = has-seen g k all ∙ ap (λ o. is_key k (rows_in o)) out in
        rw empty (either (is_here f h g k))
      where
        either : (b : Bool) → false ≡ cond b false false
        either true = refl
        either false = refl
    split false other =
        let apart : (g == f) ≡ false = sym (is_at_same f g) ∙ other in
        rw apart refl

-- ---- who stands below

eq_from : (g n : ℕ) → (g == n) ≡ true → g ≡ n
eq_from g n is = grind (arith, nat_tests, is)

lt_from : (g : ℕ) → nat_lt 0 g ≡ true → 0 < g
lt_from g is = grind (arith, nat_tests, is)

and_parts : (a b c : Bool) → (a && (b && c)) ≡ true → (a ≡ true) × (b ≡ true) × (c ≡ true)
and_parts true true true is = (refl, refl, refl)
and_parts true true false is = absurd cc
and_parts true false c is = absurd cc
and_parts false b c is = absurd cc

-- nobody stands below what is no facet
pub childless : (g f : ℕ) (all : List (ℕ × Facet)) (fs : List (ℕ × FacetState)) → map facet_seen all ≡ fs
    → IsTree (tree_in (map facet_seen all)) → value_at f all ≡ None → is_child g f (tree_in fs) ≡ false
childless g f all fs view tree none =
    ap (λ gs. is_child g f (tree_in gs)) (sym view) ∙ by (is_child g f (tree_in (map facet_seen all))) refl
  where
    by : (b : Bool) → is_child g f (tree_in (map facet_seen all)) ≡ b
        → is_child g f (tree_in (map facet_seen all)) ≡ false
    by false is = is
    by true is =
        let parts = and_parts (nat_lt 0 g) (is_facet g (tree_in (map facet_seen all)))
        (above g (tree_in (map facet_seen all)) == f) is in
        let number : above g (tree_in (map facet_seen all)) ≡ f = eq_from _ f parts.2 in
        let there = subst (λ (n : ℕ). is_facet n (tree_in (map facet_seen all)) ≡ true) number
        (tree.parents g parts.1) in
        let clash : true ≡ false = sym there ∙ missing f all none in absurd cc

-- who stands right below a facet is in its list
pub child_listed : (g f : ℕ) (x : Facet) (all : List (ℕ × Facet)) (fs : List (ℕ × FacetState))
    → map facet_seen all ≡ fs → IsLinked all → value_at f all ≡ Some x
    → (is_key g x.below.keys && is_child g f (tree_in fs)) ≡ is_child g f (tree_in fs)
child_listed g f x all fs view linked at =
    subst (λ (gs : List (ℕ × FacetState)). (is_key g x.below.keys && is_child g f (tree_in gs))
    ≡ is_child g f (tree_in gs)) view (by (is_child g f (tree_in (map facet_seen all))) refl)
  where
    either : (b : Bool) → (b && false) ≡ false
    either true = refl
    either false = refl

    by : (b : Bool) → is_child g f (tree_in (map facet_seen all)) ≡ b
        → (is_key g x.below.keys && is_child g f (tree_in (map facet_seen all)))
        ≡ is_child g f (tree_in (map facet_seen all))
    by false is = ap (λ b. is_key g x.below.keys && b) is ∙ either (is_key g x.below.keys) ∙ sym is
    by true is =
        let parts = and_parts (nat_lt 0 g) (is_facet g (tree_in (map facet_seen all)))
        (above g (tree_in (map facet_seen all)) == f) is in
        let some : 0 < g = lt_from g parts.0 in
        let number : above g (tree_in (map facet_seen all)) ≡ f = eq_from _ f parts.2 in
        let y = facet_of g all parts.1 in
        let parent : y.0.parent ≡ f = sym (above-seen g all y.0 y.1) ∙ number in
        let up : value_at y.0.parent all ≡ Some x = subst (λ (n : ℕ). value_at n all ≡ Some x) (sym parent) at in
        ap (λ b. b && is_child g f (tree_in (map facet_seen all))) (linked g y.0 x some y.1 up)
