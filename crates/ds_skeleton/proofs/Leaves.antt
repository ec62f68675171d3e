-- What a change of one leaf does to what each place has.
use Rattle.std.proofs.Common.{◌≡◌, ℕ, zero, suc, ◌+◌, ◌-◌, List, [], ◌∷◌, length, Bool, true, false, cond, ◌&&◌, ◌||◌}
use Rattle.std.proofs.Common.{not, Option, Some, None, is_some, refl, ap, sym, ◌∙◌, subst, arith, rules}
use Rattle.std.specs.Option.{IsSome}
use Rattle.std.specs.List.{list_any}
use Rattle.std.specs.BTreeMap as tree
use Rattle.std.specs.BTreeMap.{BTreeMap, WritesThrough}
use Rattle.std.specs.BTreeSet as sorted
use Rattle.std.specs.BTreeSet.{BTreeSet}
use Rattle.pv_value.specs.Plain.{Plain}
use Rattle.pv_value.specs.Order.{order}
use Rattle.pv_words.specs.Lemmas.Same.{same_is, same_self}
use Rattle.pv_words.specs.Parts.{same}
use Rattle.ds_space.specs.Changes.{among}
use Rattle.ds_skeleton.specs.Leaves.{Leaf, number, kept, captured_at, observed_at, leaf_at, has_leaf_at, others_observe}
use Rattle.ds_skeleton.proofs.Truths.{same_truth, any_at, witness, not_true}

-- ---- counts under keys

pub number-kept : (n : ℕ) → number (kept n) ≡ n
number-kept zero = refl
number-kept (suc n) = refl

up_by : (b : Bool) (x y w : Option ℕ) → (b ≡ true → w ≡ x) → y ≡ cond b (Some (number w + 1)) x
    → number y ≡ number x + cond b 1 0
up_by true x y w h e = ap number e ∙ ap (λ o. number o + 1) (h refl)
up_by false x y w h e = let i : number y ≡ number x = ap number e in omega arith

pub counted_up : (f g : Plain → Option ℕ) (c : Plain)
    → ((q : Plain) → g q ≡ cond (same c q) (Some (number (f c) + 1)) (f q))
    → (q : Plain) → number (g q) ≡ number (f q) + cond (same c q) 1 0
counted_up f g c put q = up_by (same c q) (f q) (g q) (f c) (λ e. ap f (same_is c q e)) (put q)

down_by : (b : Bool) (x y w : Option ℕ) → (b ≡ true → w ≡ x) → y ≡ cond b (kept (number w - 1)) x
    → number y ≡ number x - cond b 1 0
down_by true x y w h e = ap number e ∙ number-kept (number w - 1) ∙ ap (λ o. number o - 1) (h refl)
down_by false x y w h e = let i : number y ≡ number x = ap number e in omega arith

pub counted_down : (f g : Plain → Option ℕ) (c : Plain)
    → ((q : Plain) → g q ≡ cond (same c q) (kept (number (f c) - 1)) (f q))
    → (q : Plain) → number (g q) ≡ number (f q) - cond (same c q) 1 0
counted_down f g c put q = down_by (same c q) (f q) (g q) (f c) (λ e. ap f (same_is c q e)) (put q)

-- ---- one leaf is changed

clash : {A : Type 0} → true ≡ false → A
clash e = cc

-- where `is` stands at k in place of `was`: what holds of these two, and of any leaf that stays, holds at each place
each_leaf : (P : Option Leaf → Option Leaf → Type 0) (old new : BTreeMap Plain Leaf) (k : Plain) (was is : Option Leaf)
    → leaf_at old k ≡ was → (q : Plain) → leaf_at new q ≡ cond (same k q) is (leaf_at old q)
    → (same k q ≡ true → P was is) → (same k q ≡ false → (x : Option Leaf) → P x x)
    → P (leaf_at old q) (leaf_at new q)
each_leaf P old new k was is here q put at others = by (same k q) refl put
  where
    by : (b : Bool) → same k q ≡ b → leaf_at new q ≡ cond b is (leaf_at old q) → P (leaf_at old q) (leaf_at new q)
    by true e f =
        subst (λ (x : Option Leaf). P x (leaf_at new q)) (sym (ap (leaf_at old) (sym (same_is k q e)) ∙ here))
        (subst (λ (x : Option Leaf). P was x) (sym f) (at e))
    by false e f = subst (λ (x : Option Leaf). P (leaf_at old q) x) (sym f) (others e (leaf_at old q))

-- new has the leaf w where old has `was`, at k
abbrev pub Rewrites : Plain → Leaf → Leaf → BTreeMap Plain Leaf → BTreeMap Plain Leaf → Type 0
Rewrites k was w old new =
    (leaf_at old k ≡ Some was) × ((q : Plain) → leaf_at new q ≡ cond (same k q) (Some w) (leaf_at old q))

pub rewrites : (old new : BTreeMap Plain Leaf) (k : Plain) (was w : Leaf) → Some was ≡ leaf_at old k
    → WritesThrough order (order k) old w new → Rewrites k was w old new
rewrites old new k was w e h = (sym e, (h.3 (subst IsSome e (search rules))).0)

pub still_there : (old new : BTreeMap Plain Leaf) (k : Plain) (was w : Leaf) → Rewrites k was w old new
    → (q : Plain) → has_leaf_at new q ≡ has_leaf_at old q
still_there old new k was w r q =
    each_leaf (λ x y. is_some y ≡ is_some x) old new k (Some was) (Some w) r.0 q (r.1 q) (λ e. refl) (λ e x. refl)

-- what was counted where none stands, or at another place
none_more : (x : Option Leaf) (b d : Bool) (c : Plain) → (b ≡ true → x ≡ None)
    → captured_at x c ≡ captured_at x c + cond (is_some x && (b && d)) 1 0
none_more None b d c h = refl
none_more (Some leaf) true d c h = absurd (by (h refl))
  where
    by : Some leaf ≡ None → ⊥
    by e = cc
none_more (Some leaf) false d c h = let n = captured_at (Some leaf) c in omega arith

none_less : (x : Option Leaf) (b d : Bool) (c : Plain) → (b ≡ true → x ≡ None)
    → captured_at x c ≡ captured_at x c - cond (is_some x && (b && d)) 1 0
none_less None b d c h = refl
none_less (Some leaf) true d c h = absurd (by (h refl))
  where
    by : Some leaf ≡ None → ⊥
    by e = cc
none_less (Some leaf) false d c h = let n = captured_at (Some leaf) c in omega arith

pub counted_one_more : (old new : BTreeMap Plain Leaf) (k d : Plain) (was w : Leaf) → Rewrites k was w old new
    → ((c : Plain) → number (tree.get order w.captured c)
    ≡ number (tree.get order was.captured c) + cond (same d c) 1 0)
    → (q c : Plain) → captured_at (leaf_at new q) c
    ≡ captured_at (leaf_at old q) c + cond (has_leaf_at old q && (same k q && same d c)) 1 0
counted_one_more old new k d was w r up q c =
    each_leaf (λ x y. captured_at y c ≡ captured_at x c + cond (is_some x && (same k q && same d c)) 1 0) old new k
    (Some was) (Some w) r.0 q (r.1 q)
    (λ e. up c ∙ ap (λ b. number (tree.get order was.captured c) + cond (b && same d c) 1 0) (sym e))
    (λ e x. none_more x (same k q) (same d c) c (λ t. clash (sym t ∙ e)))

pub counted_one_less : (old new : BTreeMap Plain Leaf) (k d : Plain) (was w : Leaf) → Rewrites k was w old new
    → ((c : Plain) → number (tree.get order w.captured c)
    ≡ number (tree.get order was.captured c) - cond (same d c) 1 0)
    → (q c : Plain) → captured_at (leaf_at new q) c
    ≡ captured_at (leaf_at old q) c - cond (has_leaf_at old q && (same k q && same d c)) 1 0
counted_one_less old new k d was w r down q c =
    each_leaf (λ x y. captured_at y c ≡ captured_at x c - cond (is_some x && (same k q && same d c)) 1 0) old new k
    (Some was) (Some w) r.0 q (r.1 q)
    (λ e. down c ∙ ap (λ b. number (tree.get order was.captured c) - cond (b && same d c) 1 0) (sym e))
    (λ e x. none_less x (same k q) (same d c) c (λ t. clash (sym t ∙ e)))

pub none_counted_more : (old new : BTreeMap Plain Leaf) (k d : Plain) → new ≡ old → leaf_at old k ≡ None
    → (q c : Plain) → captured_at (leaf_at new q) c
    ≡ captured_at (leaf_at old q) c + cond (has_leaf_at old q && (same k q && same d c)) 1 0
none_counted_more old new k d is none q c =
    ap (λ m. captured_at (leaf_at m q) c) is
    ∙ none_more (leaf_at old q) (same k q) (same d c) c (λ e. ap (leaf_at old) (sym (same_is k q e)) ∙ none)

pub none_counted_less : (old new : BTreeMap Plain Leaf) (k d : Plain) → new ≡ old → leaf_at old k ≡ None
    → (q c : Plain) → captured_at (leaf_at new q) c
    ≡ captured_at (leaf_at old q) c - cond (has_leaf_at old q && (same k q && same d c)) 1 0
none_counted_less old new k d is none q c =
    ap (λ m. captured_at (leaf_at m q) c) is
    ∙ none_less (leaf_at old q) (same k q) (same d c) c (λ e. ap (leaf_at old) (sym (same_is k q e)) ∙ none)

pub counted_alike : (old new : BTreeMap Plain Leaf) (k : Plain) (was w : Leaf) → Rewrites k was w old new
    → ((c : Plain) → number (tree.get order w.captured c) ≡ number (tree.get order was.captured c))
    → (q c : Plain) → captured_at (leaf_at new q) c ≡ captured_at (leaf_at old q) c
counted_alike old new k was w r alike q c =
    each_leaf (λ x y. captured_at y c ≡ captured_at x c) old new k (Some was) (Some w) r.0 q (r.1 q)
    (λ e. alike c) (λ e x. refl)

pub seen_alike : (old new : BTreeMap Plain Leaf) (k : Plain) (was w : Leaf) → Rewrites k was w old new
    → ((o : Plain) → sorted.contains order w.observers o ≡ sorted.contains order was.observers o)
    → (q o : Plain) → observed_at (leaf_at new q) o ≡ observed_at (leaf_at old q) o
seen_alike old new k was w r alike q o =
    each_leaf (λ x y. observed_at y o ≡ observed_at x o) old new k (Some was) (Some w) r.0 q (r.1 q)
    (λ e. alike o) (λ e x. refl)

at_other : (a b v x : Bool) → a ≡ false → x ≡ cond (a && b) v x
at_other true b v x e = clash e
at_other false b v x e = refl

-- at k it is told of v whether it observes
pub seen_set : (old new : BTreeMap Plain Leaf) (k v : Plain) (t : Bool) (was w : Leaf) → Rewrites k was w old new
    → ((o : Plain) → sorted.contains order w.observers o
    ≡ cond (same v o) t (sorted.contains order was.observers o))
    → (q o : Plain) → observed_at (leaf_at new q) o ≡ cond (same k q && same v o) t (observed_at (leaf_at old q) o)
seen_set old new k v t was w r set q o =
    each_leaf (λ x y. observed_at y o ≡ cond (same k q && same v o) t (observed_at x o)) old new k (Some was) (Some w)
    r.0 q (r.1 q)
    (λ e. set o ∙ ap (λ b. cond (b && same v o) t (sorted.contains order was.observers o)) (sym e))
    (λ e x. at_other (same k q) (same v o) t (observed_at x o) e)

-- ---- a leaf is put where none stands

-- new has the leaf w at k, and old has none there
abbrev pub Begins : Plain → Leaf → BTreeMap Plain Leaf → BTreeMap Plain Leaf → Type 0
Begins k w old new =
    (has_leaf_at old k ≡ false) × ((q : Plain) → leaf_at new q ≡ cond (same k q) (Some w) (leaf_at old q))

none_by : (x : Option Leaf) → is_some x ≡ false → x ≡ None
none_by None e = refl
none_by (Some leaf) e = clash e

pub there_too : (old new : BTreeMap Plain Leaf) (k : Plain) (w : Leaf) → Begins k w old new
    → (q : Plain) → has_leaf_at new q ≡ (same k q || has_leaf_at old q)
there_too old new k w r q = by (same k q) (leaf_at old q) (leaf_at new q) (r.1 q)
  where
    by : (b : Bool) (x y : Option Leaf) → y ≡ cond b (Some w) x → is_some y ≡ (b || is_some x)
    by true x y e = ap is_some e
    by false x y e = ap is_some e

pub counted_there : (old new : BTreeMap Plain Leaf) (k : Plain) (w : Leaf) → Begins k w old new
    → (q c : Plain) → captured_at (leaf_at new q) c
    ≡ cond (same k q) (number (tree.get order w.captured c)) (captured_at (leaf_at old q) c)
counted_there old new k w r q c = by (same k q) (leaf_at old q) (leaf_at new q) (r.1 q)
  where
    by : (b : Bool) (x y : Option Leaf) → y ≡ cond b (Some w) x
        → captured_at y c ≡ cond b (number (tree.get order w.captured c)) (captured_at x c)
    by true x y e = ap (λ l. captured_at l c) e
    by false x y e = ap (λ l. captured_at l c) e

pub seen_there : (old new : BTreeMap Plain Leaf) (k v : Plain) (w : Leaf) → Begins k w old new
    → ((o : Plain) → sorted.contains order w.observers o ≡ cond (same v o) true false)
    → (q o : Plain) → observed_at (leaf_at new q) o ≡ cond (same k q && same v o) true (observed_at (leaf_at old q) o)
seen_there old new k v w r set q o =
    each_leaf (λ x y. observed_at y o ≡ cond (same k q && same v o) true (observed_at x o)) old new k None (Some w)
    (none_by (leaf_at old k) r.0) q (r.1 q)
    (λ e. set o ∙ ap (λ b. cond (b && same v o) true false) (sym e))
    (λ e x. at_other (same k q) (same v o) true (observed_at x o) e)

-- ---- an observer goes

-- somebody is there
abbrev is_any : List Plain → Bool
is_any [] = false
is_any (x ∷ xs) = true

-- those left are the others
others_left : (v : Plain) (old new : List Plain) → ((o : Plain) → among o new ≡ cond (same v o) false (among o old))
    → list_any (λ other. not (same v other)) old ≡ is_any new
others_left v old new less =
    same_truth (list_any (λ other. not (same v other)) old) (is_any new)
    (λ e. let found = witness (λ other. not (same v other)) old e in
    left found.0 new (less found.0 ∙ ap (λ b. cond b false (among found.0 old)) (not_true (same v found.0) found.1)
    ∙ found.2))
    (other new less)
  where
    left : (o : Plain) (xs : List Plain) → among o xs ≡ true → is_any xs ≡ true
    left o [] e = e
    left o (x ∷ xs) e = refl

    at_first : (x : Plain) (b : Bool) → same v x ≡ b → cond b false (among x old) ≡ true
        → list_any (λ other. not (same v other)) old ≡ true
    at_first x true is f = clash (sym f)
    at_first x false is f = any_at (λ other. not (same v other)) x old (ap not is) f

    other : (xs : List Plain) → ((o : Plain) → among o xs ≡ cond (same v o) false (among o old))
        → is_any xs ≡ true → list_any (λ other. not (same v other)) old ≡ true
    other [] h e = clash (sym e)
    other (x ∷ xs) h e = at_first x (same v x) refl (sym (h x) ∙ ap (λ b. b || among x xs) (same_self x))

-- the leaf stays, since somebody is left
pub stays_there : (old new : BTreeMap Plain Leaf) (k v : Plain) (was w : Leaf) → Rewrites k was w old new
    → ((o : Plain) → sorted.contains order w.observers o
    ≡ cond (same v o) false (sorted.contains order was.observers o))
    → is_any (sorted.keys w.observers) ≡ true
    → (q : Plain) → has_leaf_at new q ≡ cond (same k q) (others_observe v (leaf_at old q)) (has_leaf_at old q)
stays_there old new k v was w r less some q =
    each_leaf (λ x y. is_some y ≡ cond (same k q) (others_observe v x) (is_some x)) old new k (Some was) (Some w)
    r.0 q (r.1 q)
    (λ e. sym some ∙ sym (others_left v (sorted.keys was.observers) (sorted.keys w.observers) less)
    ∙ ap (λ b. cond b (others_observe v (Some was)) true) (sym e))
    (λ e x. ap (λ b. cond b (others_observe v x) (is_some x)) (sym e))

pub kept_counts : (x : Option Leaf) (c : Plain) → captured_at x c ≡ cond (is_some x) (captured_at x c) 0
kept_counts None c = refl
kept_counts (Some leaf) c = refl

pub counted_still : (old new : BTreeMap Plain Leaf) (k : Plain) (was w : Leaf) → Rewrites k was w old new
    → ((c : Plain) → number (tree.get order w.captured c) ≡ number (tree.get order was.captured c))
    → (q c : Plain) → captured_at (leaf_at new q) c ≡ cond (has_leaf_at new q) (captured_at (leaf_at old q) c) 0
counted_still old new k was w r alike q c =
    each_leaf (λ x y. captured_at y c ≡ cond (is_some y) (captured_at x c) 0) old new k (Some was) (Some w) r.0 q (r.1 q)
    (λ e. alike c) (λ e x. kept_counts x c)

-- new has no leaf at k, where old has `was`; what would be left of it is w
abbrev pub Ends : Plain → Leaf → BTreeMap Plain Leaf → BTreeMap Plain Leaf → Type 0
Ends k was old new =
    (leaf_at old k ≡ Some was) × ((q : Plain) → leaf_at new q ≡ cond (same k q) None (leaf_at old q))

-- a leaf that is written through, and then taken out
pub ends_after : (old mid new : BTreeMap Plain Leaf) (k : Plain) (was w : Leaf) → Rewrites k was w old mid
    → ((q : Plain) → leaf_at new q ≡ cond (same k q) None (leaf_at mid q)) → Ends k was old new
ends_after old mid new k was w r gone = (r.0, λ q. by (same k q) q (r.1 q) (gone q))
  where
    by : (b : Bool) (q : Plain) → leaf_at mid q ≡ cond b (Some w) (leaf_at old q)
        → leaf_at new q ≡ cond b None (leaf_at mid q) → leaf_at new q ≡ cond b None (leaf_at old q)
    by true q e f = f
    by false q e f = f ∙ e

pub goes_there : (old new : BTreeMap Plain Leaf) (k v : Plain) (was : Leaf) (left : BTreeSet Plain) → Ends k was old new
    → ((o : Plain) → sorted.contains order left o ≡ cond (same v o) false (sorted.contains order was.observers o))
    → is_any (sorted.keys left) ≡ false
    → (q : Plain) → has_leaf_at new q ≡ cond (same k q) (others_observe v (leaf_at old q)) (has_leaf_at old q)
goes_there old new k v was left r less none q =
    each_leaf (λ x y. is_some y ≡ cond (same k q) (others_observe v x) (is_some x)) old new k (Some was) None
    r.0 q (r.1 q)
    (λ e. sym none ∙ sym (others_left v (sorted.keys was.observers) (sorted.keys left) less)
    ∙ ap (λ b. cond b (others_observe v (Some was)) true) (sym e))
    (λ e x. ap (λ b. cond b (others_observe v x) (is_some x)) (sym e))

pub counted_no_more : (old new : BTreeMap Plain Leaf) (k : Plain) (was : Leaf) → Ends k was old new
    → (q c : Plain) → captured_at (leaf_at new q) c ≡ cond (has_leaf_at new q) (captured_at (leaf_at old q) c) 0
counted_no_more old new k was r q c =
    each_leaf (λ x y. captured_at y c ≡ cond (is_some y) (captured_at x c) 0) old new k (Some was) None r.0 q (r.1 q)
    (λ e. refl) (λ e x. kept_counts x c)

no_more : (ks : List Plain) (o : Plain) → is_any ks ≡ false → false ≡ among o ks
no_more [] o e = refl
no_more (x ∷ xs) o e = clash e

pub seen_no_more : (old new : BTreeMap Plain Leaf) (k v : Plain) (was : Leaf) (left : BTreeSet Plain)
    → Ends k was old new
    → ((o : Plain) → sorted.contains order left o ≡ cond (same v o) false (sorted.contains order was.observers o))
    → is_any (sorted.keys left) ≡ false
    → (q o : Plain) → observed_at (leaf_at new q) o ≡ cond (same k q && same v o) false (observed_at (leaf_at old q) o)
seen_no_more old new k v was left r less none q o =
    each_leaf (λ x y. observed_at y o ≡ cond (same k q && same v o) false (observed_at x o)) old new k (Some was) None
    r.0 q (r.1 q)
    (λ e. no_more (sorted.keys left) o none ∙ less o
    ∙ ap (λ b. cond (b && same v o) false (sorted.contains order was.observers o)) (sym e))
    (λ e x. at_other (same k q) (same v o) false (observed_at x o) e)

-- no leaf stands at k
pub none_stays : (old new : BTreeMap Plain Leaf) (k v : Plain) → new ≡ old → leaf_at old k ≡ None
    → (q : Plain) → has_leaf_at new q ≡ cond (same k q) (others_observe v (leaf_at old q)) (has_leaf_at old q)
none_stays old new k v is none q =
    ap (λ m. has_leaf_at m q) is
    ∙ by (same k q) (leaf_at old q) (λ e. ap (leaf_at old) (sym (same_is k q e)) ∙ none)
  where
    by : (b : Bool) (x : Option Leaf) → (b ≡ true → x ≡ None) → is_some x ≡ cond b (others_observe v x) (is_some x)
    by true x h = ap is_some (h refl) ∙ sym (ap (others_observe v) (h refl))
    by false x h = refl

pub none_counted : (old new : BTreeMap Plain Leaf) → new ≡ old
    → (q c : Plain) → captured_at (leaf_at new q) c ≡ cond (has_leaf_at new q) (captured_at (leaf_at old q) c) 0
none_counted old new is q c =
    kept_counts (leaf_at new q) c ∙ ap (λ m. cond (has_leaf_at new q) (captured_at (leaf_at m q) c) 0) is

pub none_seen : (old new : BTreeMap Plain Leaf) (k v : Plain) → new ≡ old → leaf_at old k ≡ None
    → (q o : Plain) → observed_at (leaf_at new q) o ≡ cond (same k q && same v o) false (observed_at (leaf_at old q) o)
none_seen old new k v is none q o =
    ap (λ m. observed_at (leaf_at m q) o) is
    ∙ by (same k q) (same v o) (leaf_at old q) (λ e. ap (leaf_at old) (sym (same_is k q e)) ∙ none)
  where
    by : (b d : Bool) (x : Option Leaf) → (b ≡ true → x ≡ None)
        → observed_at x o ≡ cond (b && d) false (observed_at x o)
    by true true x h = ap (λ l. observed_at l o) (h refl)
    by true false x h = refl
    by false d x h = refl

-- what `is_empty` answered
pub some_left : (b : Bool) (ks : List Plain) → (length ks ≡ 0 → b ≡ true) → b ≡ false → is_any ks ≡ true
some_left b [] h e = clash (sym (h refl) ∙ e)
some_left b (x ∷ xs) h e = refl

pub none_left : (ks : List Plain) → length ks ≡ 0 → is_any ks ≡ false
none_left [] e = refl
none_left (x ∷ xs) e = absurd (omega arith)
