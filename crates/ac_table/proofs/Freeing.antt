-- Which numbers are free, as facets come and go.
use Rattle.std.proofs.Common.{zero, suc}
use Rattle.std.proofs.Common.{◌≡◌, ℕ, ◌+◌, ◌<◌, ◌≤◌, ◌^◌, Bool, true, false, not, ◌==◌, nat_lt, ◌&&◌, ◌||◌, cond}
use Rattle.std.proofs.Common.{List, [], ◌∷◌, map, refl, ap, arith, sym, ◌∙◌, is_some, Some, None, filter, subst}
use Rattle.std.specs.BTreeMap.{is_at, insert_entry}
use Rattle.std.specs.List.Sorted.{IsStrictlySortedBy}
use Rattle.std.specs.Map.{keys_of}
use Rattle.std.specs.Ordering.{nat_cmp}
use Rattle.std.proofs.lemmas.Bool.Decides.{nat_tests}
use Rattle.ac_table.specs.Facets.{is_facet, IsTree, IsLeastFree, AreBelow}
use Rattle.ac_table.specs.Maps.{value_at, is_key, KeysAscend, ChangesAt, SetChangesAt}
use Rattle.ac_table.specs.Placed.{FacetState, facet_seen, tree_in, bare, KeepsLinks, LinksAt, IsPlaced}
use Rattle.ac_table.specs.Placed.{IsLinked}
use Rattle.ac_table.specs.declared.facets.Facet.{Facet}
use Rattle.ac_table.specs.Lemmas.Entries.{is_at_same, lookup-filter}
use Rattle.ac_table.proofs.Placing.{facet-seen, present, above-seen, facet_same}
use Rattle.ac_table.proofs.Trees.{tree_added, tree_less, root_there}

is_free : (n end : ℕ) (free b : Bool) → free ≡ (nat_lt n end && not b) → free ≡ true → (n < end) × (b ≡ false)
is_free n end free true is have =
    let clash : true ≡ false = sym have ∙ is ∙ none (nat_lt n end) in absurd cc
  where
    none : (b : Bool) → (b && false) ≡ false
    none true = refl
    none false = refl
is_free n end free false is have = (below (nat_lt n end) refl, refl)
  where
    below : (b : Bool) → nat_lt n end ≡ b → n < end
    below true lt = grind (arith, nat_tests, lt)
    below false ge =
        let clash : true ≡ false = sym have ∙ is ∙ rw ge refl in absurd cc

-- one below the end that isn't free is a facet
taken : (n end : ℕ) (free b : Bool) → free ≡ (nat_lt n end && not b) → free ≡ false → n < end → b ≡ true
taken n end free true is none l = refl
taken n end free false is none l =
    let lt : nat_lt n end ≡ true = grind (arith, nat_tests, l) in
    let clash : false ≡ true = sym none ∙ is ∙ rw lt refl in absurd cc

pub free_least : (n : ℕ) (all : List (ℕ × Facet)) (free : List ℕ) (end : ℕ) → IsPlaced all free end
    → is_facet 0 (tree_in (map facet_seen all)) ≡ true → is_key n free ≡ true
    → ((q : ℕ) → is_key q free ≡ true → n ≤ q) → IsLeastFree n (tree_in (map facet_seen all))
free_least n all free end k root have least =
    let is = is_free n end (is_key n free) (is_some (value_at n all)) (k.freed n) have in
    let out : is_facet n (tree_in (map facet_seen all)) ≡ false = facet-seen n all ∙ is.1 in
    record {
      some = some n refl out;
      free = out;
      least = λ m some l. facet-seen m all ∙ taken m end (is_key m free) (is_some (value_at m all)) (k.freed m)
          (other m l (is_key m free) refl) (omega (arith, l, is.0));
    }
  where
    some : (m : ℕ) → m ≡ n → is_facet m (tree_in (map facet_seen all)) ≡ false → 0 < m
    some zero same out = let clash : true ≡ false = sym root ∙ out in absurd cc
    some (suc m) same out = omega arith

    other : (m : ℕ) → m < n → (b : Bool) → is_key m free ≡ b → is_key m free ≡ false
    other m l true is = let up = least m is in absurd (omega (arith, up, l))
    other m l false is = is

pub end_least : (all : List (ℕ × Facet)) (free : List ℕ) (end : ℕ) → IsPlaced all free end
    → is_facet 0 (tree_in (map facet_seen all)) ≡ true → free ≡ [] → IsLeastFree end (tree_in (map facet_seen all))
end_least all free end k root none = record {
  some = k.within 0 (sym (facet-seen 0 all) ∙ root);
  free = facet-seen end all ∙ out (is_some (value_at end all)) refl;
  least = λ m some l. facet-seen m all ∙ taken m end (is_key m free) (is_some (value_at m all)) (k.freed m)
      (ap (is_key m) none) l;
}
  where
    out : (b : Bool) → is_some (value_at end all) ≡ b → is_some (value_at end all) ≡ false
    out true is = let l = k.within end is in absurd (omega (arith, l))
    out false is = is

-- ---- one more facet

insert-seen : (n : ℕ) (y : Facet) (es : List (ℕ × Facet))
    → map facet_seen (insert_entry nat_cmp es n y)
    ≡ insert_entry nat_cmp (map facet_seen es) n (record { parent = y.parent; rows = y.rows.keys })
insert-seen n y [] = refl
insert-seen n y (e ∷ es) = grind (arith, insert-seen n y es)

pub insert-tree : (n : ℕ) (x : FacetState) (fs : List (ℕ × FacetState))
    → tree_in (insert_entry nat_cmp fs n x) ≡ insert_entry nat_cmp (tree_in fs) n x.parent
insert-tree n x [] = refl
insert-tree n x (e ∷ es) = grind (arith, insert-tree n x es)

pub added_seen : (n p : ℕ) (y : Facet) (old m new : List (ℕ × Facet)) → map facet_seen m ≡ map facet_seen old
    → new ≡ insert_entry nat_cmp m n y → y.parent ≡ p → y.rows.keys ≡ []
    → map facet_seen new ≡ insert_entry nat_cmp (map facet_seen old) n (bare p)
added_seen n p y old m new same is parent empty =
    ap (map facet_seen) is ∙ insert-seen n y m
    ∙ (λ i. insert_entry nat_cmp (same i) n (record { parent = parent i; rows = empty i }))

-- what is known where a facet comes: the others' links are kept, and the new number is below its parent
pub record IsAdding (n p : ℕ) (y : Facet) (old m new : List (ℕ × Facet)) : Type 0 where
  pub same : map facet_seen m ≡ map facet_seen old
  pub links : KeepsLinks (λ k. true) old m
  pub linked : LinksAt p n m
  pub parent : y.parent ≡ p
  pub none : y.below.keys ≡ []
  pub empty : y.rows.keys ≡ []
  pub is : new ≡ insert_entry nat_cmp m n y
  pub changes : ChangesAt n (Some y) m new
  pub ascends : KeysAscend new

module _ (n p : ℕ) (y : Facet) (old m new : List (ℕ × Facet)) (free : List ℕ) (end : ℕ) (k : IsPlaced old free end)
    (d : IsAdding n p y old m new) (f : IsLeastFree n (tree_in (map facet_seen old)))
    (there : is_facet p (tree_in (map facet_seen old)) ≡ true) where
  m_tree : tree_in (map facet_seen m) ≡ tree_in (map facet_seen old)
  m_tree = ap tree_in d.same

  new_tree : tree_in (map facet_seen new) ≡ insert_entry nat_cmp (tree_in (map facet_seen old)) n p
  new_tree = ap tree_in (added_seen n p y old m new d.same d.is d.parent d.empty)
      ∙ insert-tree n (bare p) (map facet_seen old)

  -- at another number nothing changes
  old_at : (g : ℕ) → is_facet g (tree_in (map facet_seen old)) ≡ true → value_at g new ≡ value_at g m
  old_at g is = d.changes g ∙ by (is_at (nat_cmp n) g) refl
    where
      by : (b : Bool) → is_at (nat_cmp n) g ≡ b → cond (is_at (nat_cmp n) g) (Some y) (value_at g m) ≡ value_at g m
      by true here =
          let number : n ≡ g = grind (arith, is_at_same n g, here) in
          let clash : true ≡ false = sym is
          ∙ subst (λ (q : ℕ). is_facet q (tree_in (map facet_seen old)) ≡ false) number f.free in absurd cc
      by false other = rw other refl

  was_facet : (g : ℕ) (x : Facet) → value_at g m ≡ Some x → is_facet g (tree_in (map facet_seen old)) ≡ true
  was_facet g x is = sym (ap (is_facet g) m_tree) ∙ present g m x is

  new_linked : IsLinked new
  new_linked g x q some is up = by (is_at (nat_cmp n) g) refl
    where
      by : (b : Bool) → is_at (nat_cmp n) g ≡ b → is_key g q.below.keys ≡ true
      by true here =
          let number : n ≡ g = grind (arith, is_at_same n g, here) in
          let x_is : Some y ≡ Some x = sym (d.changes g ∙ rw here refl) ∙ is in
          let same : y ≡ x = grind (arith, x_is) in
          let up_is : x.parent ≡ p = ap (λ (z : Facet). z.parent) (sym same) ∙ d.parent in
          let at_p : value_at p m ≡ Some q =
          sym (old_at p there) ∙ subst (λ (r : ℕ). value_at r new ≡ Some q) up_is up in
          subst (λ (r : ℕ). is_key r q.below.keys ≡ true) number (d.linked q at_p)
      by false other =
          let at_m : value_at g m ≡ Some x = sym (d.changes g ∙ rw other refl) ∙ is in
          let a = d.links g x at_m in
          let r_there : is_facet x.parent (tree_in (map facet_seen old)) ≡ true =
          subst (λ (r : ℕ). is_facet r (tree_in (map facet_seen old)) ≡ true)
          (above-seen g old a.was a.found ∙ sym a.parent)
          (k.tree.parents g (present g old a.was a.found)) in
          let up_m : value_at x.parent m ≡ Some q = sym (old_at x.parent r_there) ∙ up in
          let b = d.links x.parent q up_m in
          let up_old : value_at a.was.parent old ≡ Some b.was =
          subst (λ (r : ℕ). value_at r old ≡ Some b.was) a.parent b.found in
          b.below g refl (k.linked g a.was b.was some a.found up_old)

  new_facet : (g : ℕ) → is_at (nat_cmp n) g ≡ true → is_some (value_at g new) ≡ true
  new_facet g here = let now : value_at g new ≡ Some y = d.changes g ∙ rw here refl in ap is_some now

  other_facet : (g : ℕ) → is_at (nat_cmp n) g ≡ false → is_some (value_at g new) ≡ is_some (value_at g old)
  other_facet g other =
      let at_m : value_at g new ≡ value_at g m = d.changes g ∙ rw other refl in
      ap is_some at_m ∙ facet_same old m g m_tree

  added_tree : KeysAscend (tree_in (map facet_seen new)) → IsTree (tree_in (map facet_seen new))
  added_tree ascends =
      subst IsTree (sym new_tree) (tree_added n p (tree_in (map facet_seen old)) k.tree f.free there f.some
      (subst KeysAscend new_tree ascends))

  -- the number was free
  pub placed_added_free : (less : List ℕ) → is_key n free ≡ true → SetChangesAt n false free less
      → KeysAscend (tree_in (map facet_seen new)) → IsPlaced new less end
  placed_added_free less have set ascends = record {
    ascends = d.ascends;
    tree = added_tree ascends;
    linked = new_linked;
    freed = λ g. freed g (is_at (nat_cmp n) g) refl;
    within = λ g is. within g (is_at (nat_cmp n) g) refl is;
    fits = k.fits;
  }
    where
      low : n < end
      low = (is_free n end (is_key n free) (is_some (value_at n old)) (k.freed n) have).0

      freed : (g : ℕ) (b : Bool) → is_at (nat_cmp n) g ≡ b
          → is_key g less ≡ (nat_lt g end && not (is_some (value_at g new)))
      freed g true here = set g ∙ rw here (rw (new_facet g here) (none (nat_lt g end)))
        where
          none : (b : Bool) → false ≡ (b && false)
          none true = refl
          none false = refl
      freed g false other = set g ∙ rw other (k.freed g
          ∙ ap (λ b. nat_lt g end && not b) (sym (other_facet g other)))

      within : (g : ℕ) (b : Bool) → is_at (nat_cmp n) g ≡ b → is_some (value_at g new) ≡ true → g < end
      within g true here is =
          let number : n ≡ g = grind (arith, is_at_same n g, here) in
          subst (λ (q : ℕ). q < end) number low
      within g false other is = k.within g (sym (other_facet g other) ∙ is)

  -- the number was the end
  pub placed_added_end : (same : List ℕ) → is_key n free ≡ false → same ≡ free → n < 2 ^ 32
      → KeysAscend (tree_in (map facet_seen new)) → IsPlaced new same (end + 1)
  placed_added_end same none keys small ascends = record {
    ascends = d.ascends;
    tree = added_tree ascends;
    linked = new_linked;
    freed = λ g. freed g (is_at (nat_cmp n) g) refl;
    within = λ g is. within g (is_at (nat_cmp n) g) refl is;
    fits = omega (arith, is_end, small);
  }
    where
      no_facet : is_some (value_at n old) ≡ false
      no_facet = sym (facet-seen n old) ∙ f.free

      not_below : n < end → ⊥
      not_below l =
          let facet = taken n end (is_key n free) (is_some (value_at n old)) (k.freed n) none l in
          let clash : true ≡ false = sym facet ∙ no_facet in absurd cc

      some : 0 < end
      some = k.within 0 (sym (facet-seen 0 old) ∙ root_there p (tree_in (map facet_seen old)) k.tree there)

      not_above : end < n → ⊥
      not_above l =
          let facet = sym (facet-seen end old) ∙ f.least end some l in
          let low = k.within end facet in
          absurd (omega (arith, low))

      is_end : n ≡ end
      is_end = by (nat_lt n end) refl (nat_lt end n) refl
        where
          by : (b : Bool) → nat_lt n end ≡ b → (c : Bool) → nat_lt end n ≡ c → n ≡ end
          by true lt c is = absurd (not_below (grind (arith, nat_tests, lt)))
          by false ge true lt = absurd (not_above (grind (arith, nat_tests, lt)))
          by false ge false le = grind (arith, nat_tests, ge, le)

      at_end : (g : ℕ) → is_at (nat_cmp n) g ≡ true → g ≡ end
      at_end g here = let number : n ≡ g = grind (arith, is_at_same n g, here) in sym number ∙ is_end

      not_end : (g : ℕ) → is_at (nat_cmp n) g ≡ false → nat_lt g (end + 1) ≡ nat_lt g end
      not_end g other =
          let apart : (g == n) ≡ false = sym (is_at_same n g) ∙ other in
          grind (arith, nat_tests, apart, is_end)

      freed : (g : ℕ) (b : Bool) → is_at (nat_cmp n) g ≡ b
          → is_key g same ≡ (nat_lt g (end + 1) && not (is_some (value_at g new)))
      freed g true here =
          let number : n ≡ g = grind (arith, is_at_same n g, here) in
          let out : is_key g same ≡ false =
          ap (is_key g) keys ∙ subst (λ (q : ℕ). is_key q free ≡ false) number none in
          out ∙ rw (new_facet g here) (either (nat_lt g (end + 1)))
        where
          either : (b : Bool) → false ≡ (b && false)
          either true = refl
          either false = refl
      freed g false other =
          ap (is_key g) keys ∙ k.freed g
          ∙ (λ i. sym (not_end g other) i && not (sym (other_facet g other) i))

      within : (g : ℕ) (b : Bool) → is_at (nat_cmp n) g ≡ b → is_some (value_at g new) ≡ true → g < end + 1
      within g true here is = let number = at_end g here in omega (arith, number)
      within g false other is = let low = k.within g (sym (other_facet g other) ∙ is) in omega (arith, low)

-- ---- some less

filter-seen : (gs : List ℕ) (es : List (ℕ × Facet))
    → map facet_seen (filter (λ e. not (is_key e.0 gs)) es) ≡ filter (λ e. not (is_key e.0 gs)) (map facet_seen es)
filter-seen gs [] = refl
filter-seen gs (e ∷ es) = by (is_key e.0 gs) refl (filter-seen gs es)
  where
    by : (b : Bool) → is_key e.0 gs ≡ b
        → map facet_seen (filter (λ e. not (is_key e.0 gs)) es) ≡ filter (λ e. not (is_key e.0 gs)) (map facet_seen es)
        → map facet_seen (filter (λ e. not (is_key e.0 gs)) (e ∷ es))
        ≡ filter (λ e. not (is_key e.0 gs)) (map facet_seen (e ∷ es))
    by true is rest = rw is rest
    by false is rest = rw is (ap (λ t. facet_seen e ∷ t) rest)

filter-tree : (gs : List ℕ) (fs : List (ℕ × FacetState))
    → tree_in (filter (λ e. not (is_key e.0 gs)) fs) ≡ filter (λ e. not (is_key e.0 gs)) (tree_in fs)
filter-tree gs [] = refl
filter-tree gs (e ∷ es) = by (is_key e.0 gs) refl (filter-tree gs es)
  where
    by : (b : Bool) → is_key e.0 gs ≡ b
        → tree_in (filter (λ e. not (is_key e.0 gs)) es) ≡ filter (λ e. not (is_key e.0 gs)) (tree_in es)
        → tree_in (filter (λ e. not (is_key e.0 gs)) (e ∷ es))
        ≡ filter (λ e. not (is_key e.0 gs)) (tree_in (e ∷ es))
    by true is rest = rw is rest
    by false is rest = rw is (ap (λ t. (e.0, e.1.parent) ∷ t) rest)

pub less_seen : (gs : List ℕ) (old m new : List (ℕ × Facet)) → map facet_seen m ≡ map facet_seen old
    → new ≡ filter (λ e. not (is_key e.0 gs)) m
    → map facet_seen new ≡ filter (λ e. not (is_key e.0 gs)) (map facet_seen old)
less_seen gs old m new same is =
    ap (map facet_seen) is ∙ filter-seen gs m ∙ ap (filter (λ e. not (is_key e.0 gs))) same

pub tree_of_less : (gs : List ℕ) (fs new : List (ℕ × FacetState)) → new ≡ filter (λ e. not (is_key e.0 gs)) fs
    → tree_in new ≡ filter (λ e. not (is_key e.0 gs)) (tree_in fs)
tree_of_less gs fs new is = ap tree_in is ∙ filter-tree gs fs

-- none of those that go is free
pub gone_not_free : (f : ℕ) (gs : List ℕ) (old : List (ℕ × Facet)) (free : List ℕ) (end : ℕ) → IsPlaced old free end
    → AreBelow f (tree_in (map facet_seen old)) gs → (g : ℕ) → is_key g gs ≡ true → is_key g free ≡ false
gone_not_free f gs old free end k below g gone =
    let facet : is_some (value_at g old) ≡ true = sym (facet-seen g old) ∙ ((below g).0 gone).0 in
    k.freed g ∙ rw facet (none (nat_lt g end))
  where
    none : (b : Bool) → (b && false) ≡ false
    none true = refl
    none false = refl

-- the same numbers are free
pub placed_freed : (all : List (ℕ × Facet)) (free same : List ℕ) (end : ℕ) → IsPlaced all free end
    → ((n : ℕ) → is_key n same ≡ is_key n free) → IsPlaced all same end
placed_freed all free same end k is = record {
  ascends = k.ascends;
  tree = k.tree;
  linked = k.linked;
  freed = λ n. is n ∙ k.freed n;
  within = k.within;
  fits = k.fits;
}

module _ (f : ℕ) (gs : List ℕ) (old m new : List (ℕ × Facet)) (free more : List ℕ) (end : ℕ)
    (k : IsPlaced old free end) (below : AreBelow f (tree_in (map facet_seen old)) gs)
    (same : map facet_seen m ≡ map facet_seen old) (links : KeepsLinks (λ k. not (k == f)) old m)
    (is : new ≡ filter (λ e. not (is_key e.0 gs)) m) where
  new_at : (g : ℕ) → value_at g new ≡ cond (is_key g gs) None (value_at g m)
  new_at g = ap (value_at g) is ∙ lookup-filter g gs m

  stays : (g : ℕ) (x : Facet) → value_at g new ≡ Some x → (value_at g m ≡ Some x) × (is_key g gs ≡ false)
  stays g x at = by (is_key g gs) refl
    where
      by : (b : Bool) → is_key g gs ≡ b → (value_at g m ≡ Some x) × (is_key g gs ≡ false)
      by true gone =
          let clash : None ≡ Some x = sym (new_at g ∙ rw gone refl) ∙ at in absurd cc
      by false kept = (sym (new_at g ∙ rw kept refl) ∙ at, kept)

  less_linked : (there : is_facet f (tree_in (map facet_seen old)) ≡ true) → IsLinked new
  less_linked there g x q some at up =
      let here = stays g x at in
      let over = stays x.parent q up in
      let a = links g x here.0 in
      let b = links x.parent q over.0 in
      let up_old : value_at a.was.parent old ≡ Some b.was =
      subst (λ (r : ℕ). value_at r old ≡ Some b.was) a.parent b.found in
      b.below g (spared (g == f) refl here.1) (k.linked g a.was b.was some a.found up_old)
    where
      f_gone : is_key f gs ≡ true
      f_gone = (below f).1 (there, (0, refl))

      spared : (b : Bool) → (g == f) ≡ b → is_key g gs ≡ false → not (g == f) ≡ true
      spared true at_f kept =
          let number : g ≡ f = grind (arith, nat_tests, at_f) in
          let clash : true ≡ false = sym f_gone ∙ subst (λ (n : ℕ). is_key n gs ≡ false) number kept in absurd cc
      spared false other kept = rw other refl

  pub placed_less : (there : is_facet f (tree_in (map facet_seen old)) ≡ true)
      → ((g : ℕ) → is_key g more ≡ (is_key g free || is_key g gs)) → KeysAscend new
      → KeysAscend (tree_in (map facet_seen new)) → IsPlaced new more end
  placed_less there freed ascends tree_ascends = record {
    ascends = ascends;
    tree = subst IsTree (sym tree_is) (tree_less f gs (tree_in (map facet_seen old)) k.tree below
        (subst KeysAscend tree_is tree_ascends));
    linked = less_linked there;
    freed = λ g. freed g ∙ free_now g (is_key g gs) refl;
    within = λ g at. within g (is_key g gs) refl at;
    fits = k.fits;
  }
    where
      tree_is : tree_in (map facet_seen new) ≡ filter (λ e. not (is_key e.0 gs)) (tree_in (map facet_seen old))
      tree_is = tree_of_less gs (map facet_seen old) (map facet_seen new) (less_seen gs old m new same is)

      m_facet : (g : ℕ) → is_some (value_at g m) ≡ is_some (value_at g old)
      m_facet g = facet_same old m g (ap tree_in same)

      free_now : (g : ℕ) (b : Bool) → is_key g gs ≡ b
          → (is_key g free || is_key g gs) ≡ (nat_lt g end && not (is_some (value_at g new)))
      free_now g true gone =
          let facet : is_some (value_at g old) ≡ true = sym (facet-seen g old) ∙ ((below g).0 gone).0 in
          let low = k.within g facet in
          let lt : nat_lt g end ≡ true = grind (arith, nat_tests, low) in
          let out : value_at g new ≡ None = new_at g ∙ rw gone refl in
          rw (gone, out, lt) (either (is_key g free))
        where
          either : (b : Bool) → (b || true) ≡ true
          either true = refl
          either false = refl
      free_now g false kept =
          let at_m : value_at g new ≡ value_at g m = new_at g ∙ rw kept refl in
          rw kept (either (is_key g free)) ∙ k.freed g
          ∙ ap (λ b. nat_lt g end && not b) (sym (ap is_some at_m ∙ m_facet g))
        where
          either : (b : Bool) → (b || false) ≡ b
          either true = refl
          either false = refl

      within : (g : ℕ) (b : Bool) → is_key g gs ≡ b → is_some (value_at g new) ≡ true → g < end
      within g true gone at =
          let out : value_at g new ≡ None = new_at g ∙ rw gone refl in
          let clash : true ≡ false = sym at ∙ ap is_some out in absurd cc
      within g false kept at =
          let at_m : value_at g new ≡ value_at g m = new_at g ∙ rw kept refl in
          k.within g (sym (ap is_some at_m ∙ m_facet g) ∙ at)

keys-seen : (es : List (ℕ × Facet)) → keys_of (tree_in (map facet_seen es)) ≡ keys_of es
keys-seen [] = refl
keys-seen (e ∷ es) = ap (λ t. e.0 ∷ t) (keys-seen es)

pub ascend_seen : (es : List (ℕ × Facet)) → KeysAscend es → KeysAscend (tree_in (map facet_seen es))
ascend_seen es ascends = subst (IsStrictlySortedBy nat_cmp) (sym (keys-seen es)) ascends
