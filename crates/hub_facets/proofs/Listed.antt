-- The numbers of facets that are listed, as a group comes or goes; and a number that no facet has.
use Rattle.std.proofs.Common.{◌≡◌, ◌≢◌, ℕ, suc, ◌≤◌, ◌<◌, ◌==◌, ◌||◌, ◌&&◌, not, nat_lt, List, [], ◌∷◌, Bool, true, false}
use Rattle.std.proofs.Common.{cond, Some, None, Ordering, Less, Equal, Greater, refl, ap, sym, ◌∙◌, subst, arith}
use Rattle.std.proofs.lemmas.Bool.Decides.{nat_tests}
use Rattle.std.proofs.lemmas.Map.Keys.{sorted_head, sorted_tail}
use Rattle.std.specs.BTreeMap.{is_at, insert_entry}
use Rattle.std.specs.List.{AllByRecursion}
use Rattle.std.specs.Map.{lookup, remove_entry, keys_of, values_of}
use Rattle.std.specs.Ordering.{nat_cmp, match_ordering}
use Rattle.pv_value.specs.Plain.{Plain}
use Rattle.pv_value.specs.Order.{order}
use Rattle.ac_table.specs.Facets.{Tree, is_facet, least_from, least_free}
use Rattle.ac_table.specs.Lemmas.Entries.{is_at_same}
use Rattle.ac_table.specs.Maps.{KeysAscend, is_key}
use Rattle.ac_world.specs.Allocating.{Facets, AreApart}
use Rattle.ac_world.proofs.OwnFacets.{own_facet_passes}
use Rattle.hub_facets.specs.Rooms.{is_listed}

-- ---- numbers in a list

pub at_is : (q n : ℕ) → is_at (nat_cmp q) n ≡ (q == n)
at_is q n = grind (arith, is_at_same q n, is_at_same n q)

-- one of them passes what all pass
pub key_passes : (P : ℕ → Type 0) (f : ℕ) (ns : List ℕ) → is_key f ns ≡ true → AllByRecursion P ns → P f
key_passes P f [] is all = absurd cc
key_passes P f (n ∷ ns) is all = by (is_at (nat_cmp f) n) refl is (λ later. key_passes P f ns later all.1)
  where
    by : (b : Bool) → is_at (nat_cmp f) n ≡ b → (b || is_key f ns) ≡ true → (is_key f ns ≡ true → P f) → P f
    by true here is later =
        let same : n ≡ f = grind (arith, nat_tests, sym (at_is f n) ∙ here) in
        subst P same all.0
    by false past is later = later is

none_listed : (q : ℕ) (ns : List ℕ) → AllByRecursion (λ m. m ≢ q) ns → is_key q ns ≡ false
none_listed q [] all = refl
none_listed q (m ∷ ms) all = by (is_at (nat_cmp q) m) refl (none_listed q ms all.1)
  where
    by : (b : Bool) → is_at (nat_cmp q) m ≡ b → is_key q ms ≡ false → (b || is_key q ms) ≡ false
    by true here later = absurd (all.0 (grind (arith, nat_tests, sym (at_is q m) ∙ here)))
    by false past later = later

-- ---- one group more

pub listed_more : (q : ℕ) (g : Plain) (n : ℕ) (fs : Facets) → lookup (is_at (order g)) fs ≡ None
    → is_listed q (insert_entry order fs g n) ≡ (q == n || is_listed q fs)
listed_more q g n [] none = ap (λ b. b || false) (at_is q n)
listed_more q g n (e ∷ es) none = by (order g e.0) refl (listed_more q g n es)
  where
    turn : (a b c : Bool) → (a || (b || c)) ≡ (b || (a || c))
    turn true true c = refl
    turn true false c = refl
    turn false b c = refl

    by : (o : Ordering) → order g e.0 ≡ o
        → (lookup (is_at (order g)) es ≡ None → is_listed q (insert_entry order es g n) ≡ (q == n || is_listed q es))
        → is_listed q (match_ordering o ((g, n) ∷ e ∷ es) ((e.0, n) ∷ es) (e ∷ insert_entry order es g n))
        ≡ (q == n || is_listed q (e ∷ es))
    by Less is later = ap (λ b. b || is_listed q (e ∷ es)) (at_is q n)
    by Equal is later = absurd (let some : Some e.1 ≡ None = rw is at none in cc)
    by Greater is later =
        ap (λ b. is_at (nat_cmp q) e.1 || b) (later (rw is at none))
        ∙ turn (is_at (nat_cmp q) e.1) (q == n) (is_listed q es)

-- ---- one group less

pub listed_less : (test : Plain → Bool) (q f : ℕ) (fs : Facets) → lookup test fs ≡ Some f → AreApart (values_of fs)
    → is_listed q (remove_entry test fs) ≡ (is_listed q fs && not (q == f))
listed_less test q f [] found apart = absurd cc
listed_less test q f (e ∷ es) found apart =
    by (test e.0) found (λ later. listed_less test q f es later apart.1)
  where
    goes : (a l c : Bool) → a ≡ c → (c ≡ true → l ≡ false) → l ≡ ((a || l) && not c)
    goes true l true is none = none refl
    goes true l false is none = absurd cc
    goes false l true is none = absurd cc
    goes false true false is none = refl
    goes false false false is none = refl

    stays : (a l c : Bool) → (c ≡ true → a ≡ false) → (a || (l && not c)) ≡ ((a || l) && not c)
    stays true l true other = absurd (let clash : true ≡ false = other refl in cc)
    stays true l false other = refl
    stays false l c other = refl

    same_number : (q == f) ≡ true → q ≡ f
    same_number is = grind (arith, nat_tests, is)

    none_left : e.1 ≡ f → (q == f) ≡ true → is_listed q es ≡ false
    none_left same is =
        let one : e.1 ≡ q = same ∙ sym (same_number is) in
        none_listed q (values_of es) (subst (λ (n : ℕ). AllByRecursion (λ m. m ≢ n) (values_of es)) one apart.0)

    other_here : lookup test es ≡ Some f → (q == f) ≡ true → is_at (nat_cmp q) e.1 ≡ false
    other_here past is =
        let ne : f ≢ e.1 = own_facet_passes (λ m. m ≢ e.1) test f es past apart.0 in
        let one : q ≡ f = same_number is in
        at_is q e.1 ∙ ap (λ (n : ℕ). n == e.1) one ∙ grind (arith, nat_tests, ne)

    by : (b : Bool) → cond b (Some e.1) (lookup test es) ≡ Some f
        → (lookup test es ≡ Some f → is_listed q (remove_entry test es) ≡ (is_listed q es && not (q == f)))
        → is_listed q (cond b es (e ∷ remove_entry test es))
        ≡ ((is_at (nat_cmp q) e.1 || is_listed q es) && not (q == f))
    by true here later =
        let same : e.1 ≡ f = cc in
        goes (is_at (nat_cmp q) e.1) (is_listed q es) (q == f)
        (at_is q e.1 ∙ ap (λ (n : ℕ). q == n) same) (none_left same)
    by false past later =
        ap (λ b. is_at (nat_cmp q) e.1 || b) (later past)
        ∙ stays (is_at (nat_cmp q) e.1) (is_listed q es) (q == f) (other_here past)

-- ---- the least number that no facet has

-- it is n or above it, and no facet has it
record IsFree (n m : ℕ) (t : Tree) : Type 0 where
  from : n ≤ m
  free : is_facet m t ≡ false

free_below : (n x : ℕ) (es : Tree) → AllByRecursion (λ q. nat_cmp x q ≡ Less) (keys_of es) → n < x
    → is_facet n es ≡ false
free_below n x [] above l = refl
free_below n x (e ∷ es) above l = grind (arith, is_at_same n e.0, above.0, free_below n x es above.1 l)

facet_past : (k : ℕ) (e : ℕ × ℕ) (es : Tree) → (e.0 == k) ≡ false → is_facet k (e ∷ es) ≡ is_facet k es
facet_past k e es apart =
    let other : is_at (nat_cmp k) e.0 ≡ false = is_at_same k e.0 ∙ apart in rw other refl

free_from : (n : ℕ) (t : Tree) → KeysAscend t → IsFree n (least_from n t) t
free_from n [] s = record { from = omega arith; free = refl }
free_from n (e ∷ es) s =
    by (e.0 == n) (nat_lt e.0 n) refl refl (free_from (suc n) es (sorted_tail nat_cmp _ _ s))
    (free_from n es (sorted_tail nat_cmp _ _ s))
  where
    by : (b c : Bool) → (e.0 == n) ≡ b → nat_lt e.0 n ≡ c → IsFree (suc n) (least_from (suc n) es) es
        → IsFree n (least_from n es) es → IsFree n (least_from n (e ∷ es)) (e ∷ es)
    by true c here before w v =
        rw here (record {
          from = omega (arith, w.from);
          free = facet_past (least_from (suc n) es) e es (grind (arith, nat_tests, here, w.from)) ∙ w.free;
        })
    by false true other before w v =
        rw (other, before) (record {
          from = v.from;
          free = facet_past (least_from n es) e es (grind (arith, nat_tests, before, v.from)) ∙ v.free;
        })
    by false false other before w v =
        let l : n < e.0 = grind (arith, nat_tests, other, before) in
        rw (other, before) (record {
          from = omega arith;
          free = facet_past n e es other ∙ free_below n e.0 es (sorted_head nat_cmp _ _ s) l;
        })

pub least_is_new : (t : Tree) → KeysAscend t → (0 < least_free t) × (is_facet (least_free t) t ≡ false)
least_is_new t s = let w = free_from 1 t s in (omega (arith, w.from), w.free)
