-- Trees of facets: one facet more, and some less.
use Rattle.std.proofs.Common.{◌≡◌, ℕ, zero, suc, ◌<◌, Bool, true, false, not, nat_lt}
use Rattle.std.proofs.Common.{List, [], refl, ap, arith, sym, ◌∙◌, is_some, Some, None, Option, filter, subst}
use Rattle.std.proofs.Common.{unwrap_or}
use Rattle.std.specs.BTreeMap.{is_at, insert_entry}
use Rattle.std.specs.List.Sorted.{IsStrictlySortedBy}
use Rattle.std.specs.Ordering.{nat_cmp}
use Rattle.std.proofs.lemmas.Bool.Decides.{nat_tests}
use Rattle.ac_table.specs.Facets.{Tree, is_facet, above, climbed, IsBelow, IsTree, AreBelow}
use Rattle.ac_table.specs.Maps.{value_at, is_key, KeysAscend}
use Rattle.ac_table.specs.Placed.{is_child}
use Rattle.ac_table.specs.Lemmas.Entries.{is_at_same, lookup-insert, lookup-filter}

-- ---- one more

added_at : (g n p : ℕ) (t : Tree) → is_facet n t ≡ false → is_facet g t ≡ true
    → value_at g (insert_entry nat_cmp t n p) ≡ value_at g t
added_at g n p t free is = split (is_at (nat_cmp n) g) refl
  where
    split : (b : Bool) → is_at (nat_cmp n) g ≡ b → value_at g (insert_entry nat_cmp t n p) ≡ value_at g t
    split true here =
        let same : n ≡ g = grind (arith, is_at_same n g, here) in
        let clash : true ≡ false = sym is ∙ subst (λ (k : ℕ). is_facet k t ≡ false) same free in
        absurd cc
    split false other = lookup-insert g n p t ∙ rw other refl

added_new : (n p : ℕ) (t : Tree) → value_at n (insert_entry nat_cmp t n p) ≡ Some p
added_new n p t =
    let here : is_at (nat_cmp n) n ≡ true = grind (arith, is_at_same n n) in lookup-insert n n p t ∙ rw here refl

added_climb : (k g n p : ℕ) (t : Tree) → IsTree t → is_facet n t ≡ false → is_facet g t ≡ true
    → climbed k g (insert_entry nat_cmp t n p) ≡ climbed k g t
added_climb zero g n p t k free is = refl
added_climb (suc k) g n p t tree free is =
    let same : above g (insert_entry nat_cmp t n p) ≡ above g t =
    ap (λ (o : Option ℕ). unwrap_or o 0) (added_at g n p t free is) in
    ap (λ (h : ℕ). climbed k h (insert_entry nat_cmp t n p)) same
    ∙ added_climb k (above g t) n p t tree free (tree.parents g is)

pub tree_added : (n p : ℕ) (t : Tree) → IsTree t → is_facet n t ≡ false → is_facet p t ≡ true → 0 < n
    → KeysAscend (insert_entry nat_cmp t n p) → IsTree (insert_entry nat_cmp t n p)
tree_added n p t tree free there some ascends = record {
  ascends = ascends;
  parents = λ f is. parent f (is_at (nat_cmp n) f) refl is;
  root = root_is;
  rooted = λ f is. root f (is_at (nat_cmp n) f) refl is;
}
  where
    old_one : (f : ℕ) → is_at (nat_cmp n) f ≡ false → is_facet f (insert_entry nat_cmp t n p) ≡ true
        → is_facet f t ≡ true
    old_one f other is =
        let same : value_at f (insert_entry nat_cmp t n p) ≡ value_at f t = lookup-insert f n p t ∙ rw other refl in
        let facets : is_facet f (insert_entry nat_cmp t n p) ≡ is_facet f t = ap is_some same in
        sym facets ∙ is

    still : (f : ℕ) → is_facet f t ≡ true → is_facet f (insert_entry nat_cmp t n p) ≡ true
    still f is = ap is_some (added_at f n p t free is) ∙ is

    parent : (f : ℕ) (b : Bool) → is_at (nat_cmp n) f ≡ b → is_facet f (insert_entry nat_cmp t n p) ≡ true
        → is_facet (above f (insert_entry nat_cmp t n p)) (insert_entry nat_cmp t n p) ≡ true
    parent f true here is =
        let same : n ≡ f = grind (arith, is_at_same n f, here) in
        subst (λ (k : ℕ). is_facet (above k (insert_entry nat_cmp t n p)) (insert_entry nat_cmp t n p) ≡ true) same
        (subst (λ (q : ℕ). is_facet q (insert_entry nat_cmp t n p) ≡ true)
        (sym (ap (λ (o : Option ℕ). unwrap_or o 0) (added_new n p t))) (still p there))
    parent f false other is =
        let was = old_one f other is in
        subst (λ (q : ℕ). is_facet q (insert_entry nat_cmp t n p) ≡ true)
        (sym (ap (λ (o : Option ℕ). unwrap_or o 0) (added_at f n p t free was)))
        (still (above f t) (tree.parents f was))

    root_is : above 0 (insert_entry nat_cmp t n p) ≡ 0
    root_is =
        let other : is_at (nat_cmp n) 0 ≡ false = grind (arith, is_at_same n 0, some) in
        let same : value_at 0 (insert_entry nat_cmp t n p) ≡ value_at 0 t = lookup-insert 0 n p t ∙ rw other refl in
        ap (λ (o : Option ℕ). unwrap_or o 0) same ∙ tree.root

    old_root : (f : ℕ) → is_facet f t ≡ true → IsBelow 0 f (insert_entry nat_cmp t n p)
    old_root f was =
        let up = tree.rooted f was in
        (up.0, added_climb up.0 f n p t tree free was ∙ up.1)

    root : (f : ℕ) (b : Bool) → is_at (nat_cmp n) f ≡ b → is_facet f (insert_entry nat_cmp t n p) ≡ true
        → IsBelow 0 f (insert_entry nat_cmp t n p)
    root f true here is =
        let same : n ≡ f = grind (arith, is_at_same n f, here) in
        let up = old_root p there in
        subst (λ (k : ℕ). IsBelow 0 k (insert_entry nat_cmp t n p)) same (
          suc up.0,
          ap (λ (q : ℕ). climbed up.0 q (insert_entry nat_cmp t n p))
              (ap (λ (o : Option ℕ). unwrap_or o 0) (added_new n p t)) ∙ up.1,
        )
    root f false other is = old_root f (old_one f other is)

-- ---- some less

-- one that stays
kept_at : (g : ℕ) (gs : List ℕ) (t : Tree) → is_key g gs ≡ false
    → value_at g (filter (λ e. not (is_key e.0 gs)) t) ≡ value_at g t
kept_at g gs t kept = lookup-filter g gs t ∙ rw kept refl

-- whoever stands above one that stays, stays
above_kept : (f g : ℕ) (gs : List ℕ) (t : Tree) → IsTree t → AreBelow f t gs → is_facet g t ≡ true
    → is_key g gs ≡ false → is_key (above g t) gs ≡ false
above_kept f g gs t tree below is kept = split (is_key (above g t) gs) refl
  where
    split : (b : Bool) → is_key (above g t) gs ≡ b → is_key (above g t) gs ≡ false
    split false out = out
    split true gone =
        let up = ((below (above g t)).0 gone).1 in
        let too : is_key g gs ≡ true = (below g).1 (is, (suc up.0, up.1)) in
        let clash : true ≡ false = sym too ∙ kept in absurd cc

less_climb : (k f g : ℕ) (gs : List ℕ) (t : Tree) → IsTree t → AreBelow f t gs → is_facet g t ≡ true
    → is_key g gs ≡ false → climbed k g (filter (λ e. not (is_key e.0 gs)) t) ≡ climbed k g t
less_climb zero f g gs t tree below is kept = refl
less_climb (suc k) f g gs t tree below is kept =
    let same : above g (filter (λ e. not (is_key e.0 gs)) t) ≡ above g t =
    ap (λ (o : Option ℕ). unwrap_or o 0) (kept_at g gs t kept) in
    ap (λ (h : ℕ). climbed k h (filter (λ e. not (is_key e.0 gs)) t)) same
    ∙ less_climb k f (above g t) gs t tree below (tree.parents g is) (above_kept f g gs t tree below is kept)

pub tree_less : (f : ℕ) (gs : List ℕ) (t : Tree) → IsTree t → AreBelow f t gs
    → KeysAscend (filter (λ e. not (is_key e.0 gs)) t) → IsTree (filter (λ e. not (is_key e.0 gs)) t)
tree_less f gs t tree below ascends = record {
  ascends = ascends;
  parents = λ g is. parent g (old g (is_key g gs) refl is);
  root = root (is_key 0 gs) refl;
  rooted = λ g is. rooted g (old g (is_key g gs) refl is);
}
  where
    old : (g : ℕ) (b : Bool) → is_key g gs ≡ b → is_facet g (filter (λ e. not (is_key e.0 gs)) t) ≡ true
        → (is_facet g t ≡ true) × (is_key g gs ≡ false)
    old g true gone is =
        let out : value_at g (filter (λ e. not (is_key e.0 gs)) t) ≡ None = lookup-filter g gs t ∙ rw gone refl in
        let none : is_facet g (filter (λ e. not (is_key e.0 gs)) t) ≡ false = ap is_some out in
        let clash : true ≡ false = sym is ∙ none in absurd cc
    old g false kept is = (sym (ap is_some (kept_at g gs t kept)) ∙ is, kept)

    parent : (g : ℕ) → (is_facet g t ≡ true) × (is_key g gs ≡ false)
        → is_facet (above g (filter (λ e. not (is_key e.0 gs)) t)) (filter (λ e. not (is_key e.0 gs)) t) ≡ true
    parent g was =
        let out = above_kept f g gs t tree below was.0 was.1 in
        subst (λ (p : ℕ). is_facet p (filter (λ e. not (is_key e.0 gs)) t) ≡ true)
        (sym (ap (λ (o : Option ℕ). unwrap_or o 0) (kept_at g gs t was.1)))
        (ap is_some (kept_at (above g t) gs t out) ∙ tree.parents g was.0)

    root : (b : Bool) → is_key 0 gs ≡ b → above 0 (filter (λ e. not (is_key e.0 gs)) t) ≡ 0
    root true gone =
        let out : value_at 0 (filter (λ e. not (is_key e.0 gs)) t) ≡ None = lookup-filter 0 gs t ∙ rw gone refl in
        ap (λ (o : Option ℕ). unwrap_or o 0) out
    root false kept = ap (λ (o : Option ℕ). unwrap_or o 0) (kept_at 0 gs t kept) ∙ tree.root

    rooted : (g : ℕ) → (is_facet g t ≡ true) × (is_key g gs ≡ false)
        → IsBelow 0 g (filter (λ e. not (is_key e.0 gs)) t)
    rooted g was =
        let up = tree.rooted g was.0 in
        (up.0, less_climb up.0 f g gs t tree below was.0 was.1 ∙ up.1)

-- ---- the root is there where any facet is

climbs_to_facets : (k g : ℕ) (t : Tree) → IsTree t → is_facet g t ≡ true → is_facet (climbed k g t) t ≡ true
climbs_to_facets zero g t tree is = is
climbs_to_facets (suc k) g t tree is = climbs_to_facets k (above g t) t tree (tree.parents g is)

pub root_there : (g : ℕ) (t : Tree) → IsTree t → is_facet g t ≡ true → is_facet 0 t ≡ true
root_there g t tree is =
    let up = tree.rooted g is in
    subst (λ (r : ℕ). is_facet r t ≡ true) up.1 (climbs_to_facets up.0 g t tree is)

-- ---- what is closed under standing right below has all that stand below

pub record IsClosed (f : ℕ) (t : Tree) (found : List ℕ) : Type 0 where
  pub start : is_key f found ≡ true
  pub sound : (g : ℕ) → is_key g found ≡ true → (is_facet g t ≡ true) × IsBelow f g t
  pub closed : (p : ℕ) → is_key p found ≡ true → (g : ℕ) → is_child g p t ≡ true → is_key g found ≡ true

below_found : (k f g : ℕ) (t : Tree) (found : List ℕ) → IsTree t → IsClosed f t found → is_facet g t ≡ true
    → climbed k g t ≡ f → is_key g found ≡ true
below_found zero f g t found tree c is up = subst (λ (n : ℕ). is_key n found ≡ true) (sym up) c.start
below_found (suc k) f g t found tree c is up =
    split (nat_lt 0 g) refl (below_found k f (above g t) t found tree c (tree.parents g is) up)
  where
    split : (b : Bool) → nat_lt 0 g ≡ b → is_key (above g t) found ≡ true → is_key g found ≡ true
    split true some have =
        let child : is_child g (above g t) t ≡ true = grind (arith, nat_tests, some, is) in
        c.closed (above g t) have g child
    split false none have =
        let zero_is : g ≡ 0 = grind (arith, nat_tests, none) in
        let at_root : above g t ≡ g =
        subst (λ (n : ℕ). above n t ≡ n) (sym zero_is) tree.root in
        subst (λ (n : ℕ). is_key n found ≡ true) at_root have

pub all_found : (f : ℕ) (t : Tree) (found : List ℕ) → IsTree t → IsClosed f t found → AreBelow f t found
all_found f t found tree c g = (
  λ have. c.sound g have,
  λ is. below_found is.1.0 f g t found tree c is.0 is.1.1,
)

-- ---- no facets at all

ascend_none : KeysAscend {X = ℕ} []
unfolding IsStrictlySortedBy
ascend_none = tt

pub tree_none : IsTree []
tree_none = record {
  ascends = ascend_none;
  parents = λ f is. absurd (none f is);
  root = refl;
  rooted = λ f is. absurd (none f is);
}
  where
    none : (f : ℕ) → is_facet f [] ≡ true → ⊥
    none f is = cc
