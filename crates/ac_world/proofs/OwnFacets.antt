-- An actor's facets and those of its groups, as one is made and as one goes.
use Rattle.std.proofs.Common.{◌≡◌, ◌≢◌, ℕ, ◌<◌, ◌==◌, List, [], ◌∷◌, Bool, true, false, not, cond, Some, None}
use Rattle.std.proofs.Common.{is_some, filter, refl, ap, sym, ◌∙◌, subst, arith, Ordering, Less, Equal, Greater}
use Rattle.std.proofs.lemmas.Bool.Decides.{nat_tests}
use Rattle.std.specs.BTreeMap.{is_at, insert_entry}
use Rattle.std.specs.List.{AllByRecursion}
use Rattle.std.specs.Map.{lookup, remove_entry, values_of}
use Rattle.std.specs.Ordering.{nat_cmp, match_ordering}
use Rattle.pv_value.specs.Plain.{Plain}
use Rattle.pv_value.specs.Order.{order}
use Rattle.ac_table.specs.Facets.{Tree, is_facet}
use Rattle.ac_table.specs.Lemmas.Entries.{is_at_same, lookup-insert, lookup-filter}
use Rattle.ac_table.specs.Lemmas.Leaves.{flat_more, flat_less, leaf_stops, no_rows_go, one_key}
use Rattle.ac_table.specs.Tables.{TableState, IsStopped, has_facet, has_rows, tree_of, without_facets}
use Rattle.ac_table.specs.Maps.{is_key, value_at}
use Rattle.ac_world.specs.Allocating.{Facets, IsRooted, AreApart, IsOwnFacet, AreOwnFacets}

-- ---- the numbers that groups have

abbrev with_facet : Plain → ℕ → Facets → Facets
with_facet g n fs = insert_entry order fs g n

all_with_facet : (P : ℕ → Type 0) (g : Plain) (n : ℕ) (fs : Facets) → P n → AllByRecursion P (values_of fs)
    → AllByRecursion P (values_of (with_facet g n fs))
all_with_facet P g n [] p all = (p, tt)
all_with_facet P g n (e ∷ es) p all = by (order g e.0) (all_with_facet P g n es p all.1)
  where
    by : (o : Ordering) → AllByRecursion P (values_of (with_facet g n es))
        → AllByRecursion P
        (values_of (match_ordering o ((g, n) ∷ e ∷ es) ((e.0, n) ∷ es) (e ∷ with_facet g n es)))
    by Less rest = (p, all)
    by Equal rest = (p, all.1)
    by Greater rest = (all.0, rest)

turned : (m n : ℕ) → m ≢ n → n ≢ m
turned m n ne is = ne (sym is)

apart_with_facet : (g : Plain) (n : ℕ) (fs : Facets) → AllByRecursion (λ m. m ≢ n) (values_of fs)
    → AreApart (values_of fs) → AreApart (values_of (with_facet g n fs))
apart_with_facet g n [] new apart = (tt, tt)
apart_with_facet g n (e ∷ es) new apart = by (order g e.0) (apart_with_facet g n es new.1 apart.1)
  where
    by : (o : Ordering) → AreApart (values_of (with_facet g n es))
        → AreApart (values_of (match_ordering o ((g, n) ∷ e ∷ es) ((e.0, n) ∷ es) (e ∷ with_facet g n es)))
    by Less rest = (new, apart)
    by Equal rest = (new.1, apart.1)
    by Greater rest = (all_with_facet (λ m. m ≢ e.1) g n es (turned e.1 n new.0) apart.0, rest)

-- ---- one group less

all_without_facet : (P : ℕ → Type 0) (test : Plain → Bool) (fs : Facets) → AllByRecursion P (values_of fs)
    → AllByRecursion P (values_of (remove_entry test fs))
all_without_facet P test [] all = tt
all_without_facet P test (e ∷ es) all = by (test e.0) (all_without_facet P test es all.1)
  where
    by : (b : Bool) → AllByRecursion P (values_of (remove_entry test es))
        → AllByRecursion P (values_of (cond b es (e ∷ remove_entry test es)))
    by true rest = all.1
    by false rest = (all.0, rest)

apart_without_facet : (test : Plain → Bool) (fs : Facets) → AreApart (values_of fs)
    → AreApart (values_of (remove_entry test fs))
apart_without_facet test [] apart = tt
apart_without_facet test (e ∷ es) apart = by (test e.0) (apart_without_facet test es apart.1)
  where
    by : (b : Bool) → AreApart (values_of (remove_entry test es))
        → AreApart (values_of (cond b es (e ∷ remove_entry test es)))
    by true rest = apart.1
    by false rest = (all_without_facet (λ g. g ≢ e.1) test es apart.0, rest)

-- what a group has passes what all pass
pub own_facet_passes : (P : ℕ → Type 0) (test : Plain → Bool) (f : ℕ) (fs : Facets) → lookup test fs ≡ Some f
    → AllByRecursion P (values_of fs) → P f
own_facet_passes P test f [] is all = absurd cc
own_facet_passes P test f (e ∷ es) is all = by (test e.0) is (λ found. own_facet_passes P test f es found all.1)
  where
    by : (b : Bool) → cond b (Some e.1) (lookup test es) ≡ Some f → (lookup test es ≡ Some f → P f) → P f
    by true here later = let same : e.1 ≡ f = cc in subst P same all.0
    by false past later = later past

-- no other group has it
others_apart : (test : Plain → Bool) (f : ℕ) (fs : Facets) → lookup test fs ≡ Some f → AreApart (values_of fs)
    → AllByRecursion (λ m. m ≢ f) (values_of (remove_entry test fs))
others_apart test f [] is apart = absurd cc
others_apart test f (e ∷ es) is apart =
    by (test e.0) is
    (λ found. (
      turned f e.1 (own_facet_passes (λ m. m ≢ e.1) test f es found apart.0),
      others_apart test f es found
          apart.1,
    ))
  where
    by : (b : Bool) → cond b (Some e.1) (lookup test es) ≡ Some f
        → (lookup test es ≡ Some f → AllByRecursion (λ m. m ≢ f) (e.1 ∷ values_of (remove_entry test es)))
        → AllByRecursion (λ m. m ≢ f) (values_of (cond b es (e ∷ remove_entry test es)))
    by true here later =
        let same : e.1 ≡ f = cc in subst (λ (n : ℕ). AllByRecursion (λ m. m ≢ n) (values_of es)) same apart.0
    by false past later = later past

-- ---- a tree with one facet more, or one less

abbrev with_leaf : ℕ → Tree → Tree
with_leaf n t = insert_entry nat_cmp t n 0

abbrev without_leaf : ℕ → Tree → Tree
without_leaf f t = filter (λ e. not (is_key e.0 (f ∷ []))) t

pub leaf_there : (n : ℕ) (t : Tree) → is_facet n (with_leaf n t) ≡ true
leaf_there n t =
    let here : is_at (nat_cmp n) n ≡ true = grind (arith, is_at_same n n) in
    ap is_some (lookup-insert n n 0 t) ∙ ap (λ b. is_some (cond b (Some 0) (value_at n t))) here

leaf_stays : (g n : ℕ) (t : Tree) → is_facet g t ≡ true → is_facet g (with_leaf n t) ≡ true
leaf_stays g n t is = ap is_some (lookup-insert g n 0 t) ∙ by (is_at (nat_cmp n) g)
  where
    by : (b : Bool) → is_some (cond b (Some 0) (value_at g t)) ≡ true
    by true = refl
    by false = is

leaf_spared : (g f : ℕ) (t : Tree) → g ≢ f → is_facet g t ≡ true → is_facet g (without_leaf f t) ≡ true
leaf_spared g f t ne is = ap is_some (lookup-filter g (f ∷ []) t) ∙ by (is_key g (f ∷ [])) (one_key g f)
  where
    by : (b : Bool) → b ≡ (g == f) → is_some (cond b None (value_at g t)) ≡ true
    by true same = absurd (ne (grind (arith, nat_tests, same)))
    by false same = is

pub rooted_more : (n : ℕ) (t : Tree) → IsRooted t → IsRooted (with_leaf n t)
rooted_more n t r = record { root = leaf_stays 0 n t r.root; flat = flat_more n t r.flat }

pub rooted_less : (f : ℕ) (t : Tree) → 0 < f → IsRooted t → IsRooted (without_leaf f t)
rooted_less f t some r = record {
  root = leaf_spared 0 f t (λ is. absurd (omega (arith, is, some))) r.root;
  flat = flat_less (f ∷ []) t r.flat;
}

-- an empty facet goes, and nothing else
pub leaf_gone : (a f : ℕ) (old new : TableState) (told : List ℕ) → IsStopped a f old new told
    → has_facet a f old ≡ true → 0 < f → IsRooted (tree_of a old) → has_rows a f old ≡ false
    → new ≡ record old { trees = (without_facets a (f ∷ []) old).trees }
leaf_gone a f old new told stopped there some rooted none =
    leaf_stops a f old new told stopped there some rooted.flat
    ∙ (λ i. record {
      next = old.next;
      rows = no_rows_go a f old none i;
      actors = old.actors;
      trees = (without_facets a (f ∷ []) old).trees;
    })

-- ---- groups and the tree together

own_facets_stay : (t u : Tree) (fs : List ℕ) → ((f : ℕ) → is_facet f t ≡ true → is_facet f u ≡ true)
    → AllByRecursion (IsOwnFacet t) fs → AllByRecursion (IsOwnFacet u) fs
own_facets_stay t u [] stays all = tt
own_facets_stay t u (f ∷ fs) stays all = ((all.0.0, stays f all.0.1), own_facets_stay t u fs stays all.1)

new_to_all : (n : ℕ) (t : Tree) (fs : List ℕ) → is_facet n t ≡ false → AllByRecursion (IsOwnFacet t) fs
    → AllByRecursion (λ m. m ≢ n) fs
new_to_all n t [] free all = tt
new_to_all n t (f ∷ fs) free all = (other, new_to_all n t fs free all.1)
  where
    other : f ≢ n
    other is = let clash : true ≡ false = sym all.0.1 ∙ ap (λ (g : ℕ). is_facet g t) is ∙ free in absurd cc

-- a group has a facet from now on that nobody had
pub own_facets_more : (g : Plain) (n : ℕ) (fs : Facets) (t : Tree) → 0 < n → is_facet n t ≡ false → AreOwnFacets fs t
    → AreOwnFacets (with_facet g n fs) (with_leaf n t)
own_facets_more g n fs t some free h = record {
  there = all_with_facet (IsOwnFacet (with_leaf n t)) g n fs (some, leaf_there n t)
      (own_facets_stay t (with_leaf n t) (values_of fs) (λ f is. leaf_stays f n t is) h.there);
  apart = apart_with_facet g n fs (new_to_all n t (values_of fs) free h.there) h.apart;
}

spared_own_facets : (f : ℕ) (t : Tree) (fs : List ℕ) → AllByRecursion (λ m. m ≢ f) fs → AllByRecursion (IsOwnFacet t) fs
    → AllByRecursion (IsOwnFacet (without_leaf f t)) fs
spared_own_facets f t [] other all = tt
spared_own_facets f t (g ∷ gs) other all =
    ((all.0.0, leaf_spared g f t other.0 all.0.1), spared_own_facets f t gs other.1 all.1)

-- a group has none from now on, and the one that it had goes
pub own_facets_less : (g : Plain) (f : ℕ) (fs : Facets) (t : Tree) → lookup (is_at (order g)) fs ≡ Some f
    → AreOwnFacets fs t
    → AreOwnFacets (remove_entry (is_at (order g)) fs) (without_leaf f t)
own_facets_less g f fs t is h = record {
  there = spared_own_facets f t (values_of (remove_entry (is_at (order g)) fs))
      (others_apart (is_at (order g)) f fs is h.apart)
      (all_without_facet (IsOwnFacet t) (is_at (order g)) fs h.there);
  apart = apart_without_facet (is_at (order g)) fs h.apart;
}
