-- The index after an observation or a value has come or gone.
use Rattle.std.proofs.Common.{◌≡◌, ℕ, suc, ◌+◌, ◌-◌, List, ◌∷◌, Bool, true, false, cond, ◌&&◌, ◌||◌}
use Rattle.std.proofs.Common.{ltb, not, Option, Some, None, refl, ap, sym, ◌∙◌, subst, arith}
use Rattle.std.specs.List.{list_any, AllZip}
use Rattle.pv_value.specs.Plain.{Plain}
use Rattle.pv_words.specs.Lemmas.Same.{same_is}
use Rattle.pv_words.specs.Parts.{same}
use Rattle.ds_shape.specs.Outlines.{Outline}
use Rattle.ds_space.specs.Changes.{among}
use Rattle.ds_space.specs.Lemmas.Keys.{same_turns}
use Rattle.ds_skeleton.specs.Places.{Place, same_outline, same_place, place_of, is_placed, observes, is_observed}
use Rattle.ds_skeleton.specs.Places.{is_outlined, has_outline, stands, count}
use Rattle.ds_skeleton.specs.Leaves.{number, kept, captured_at, observed_at}
use Rattle.ds_skeleton.specs.Shapes.{Shape, IsBumped, IsDropped, observations_at, is_kept, leaf_of, has_leaf, AreInOrder}
use Rattle.ds_skeleton.specs.Indexes.{IsIndexOf}
use Rattle.ds_skeleton.proofs.Same.{outline_is, outline_self}
use Rattle.ds_skeleton.proofs.Leaves.{number-kept}
use Rattle.ds_skeleton.proofs.Kept.{kept_is}
use Rattle.ds_skeleton.proofs.Truths.{or_true}
use Rattle.ds_skeleton.proofs.Counts.{any-count}
use Rattle.ds_skeleton.proofs.Exact.{among_with}
use Rattle.ds_skeleton.proofs.Walks.{zip_each, keeps_bumped, keeps_dropped, each_in_order, each_observed, each_has}
use Rattle.ds_skeleton.proofs.Walks.{each_seen, bumped, dropped}

-- ---- an observation comes

-- the counts of outlines, where one more observation has the outline t
outline_more : (t s : Outline) (v : Plain) (place : Place) (seen : List Plain) (x y w : Option ℕ)
    → place_of v ≡ Some place → place.outline ≡ t
    → ((u : Outline) → same_outline t u ≡ true → w ≡ kept (count (has_outline u) seen))
    → x ≡ kept (count (has_outline s) seen) → y ≡ cond (same_outline t s) (Some (number w + 1)) x
    → y ≡ kept (count (has_outline s) (v ∷ seen))
outline_more t s v place seen x y w is at here e f =
    f ∙ by (same_outline t s) refl
    ∙ ap (λ b. kept (cond b 1 0 + count (has_outline s) seen))
    (sym (ap (is_outlined s) is ∙ ap (λ u. same_outline u s) at))
  where
    one_more : (n : ℕ) → Some (number (kept n) + 1) ≡ kept (1 + n)
    one_more n = ap (λ m. Some (m + 1)) (number-kept n) ∙ plain n
      where
        plain : (n : ℕ) → Some (n + 1) ≡ kept (1 + n)
        plain n = let e : n + 1 ≡ suc n = omega arith in let f : suc n ≡ 1 + n = omega arith in ap Some e ∙ ap kept f

    none_more : (n : ℕ) → n ≡ 0 + n
    none_more n = omega arith

    by : (b : Bool) → same_outline t s ≡ b
        → cond b (Some (number w + 1)) x ≡ kept (cond b 1 0 + count (has_outline s) seen)
    by true g = ap (λ o. Some (number o + 1)) (here s g) ∙ one_more (count (has_outline s) seen)
    by false g = e ∙ ap kept (none_more (count (has_outline s) seen))

observed_more : (sv ov w a : Bool) (x y : Bool) → (sv ≡ true → ov ≡ w) → x ≡ cond (w && sv) true y → y ≡ (a && ov)
    → x ≡ ((sv || a) && ov)
observed_more true ov true a x y h e f = e ∙ sym (h refl)
observed_more true ov false a x y h e f = e ∙ f ∙ ap (λ t. a && t) (h refl) ∙ none a ∙ sym (h refl)
  where
    none : (a : Bool) → (a && false) ≡ false
    none true = refl
    none false = refl
observed_more false ov true a x y h e f = e ∙ f
observed_more false ov false a x y h e f = e ∙ f

counted_more : (w h b : Bool) (n x y : ℕ) → b ≡ (w || h) → x ≡ cond h n 0 → y ≡ cond (w && not h) n x → y ≡ cond b n 0
counted_more true true b n x y i e f = f ∙ e ∙ sym (ap (λ c. cond {A = ℕ} c n 0) i)
counted_more true false b n x y i e f = f ∙ sym (ap (λ c. cond {A = ℕ} c n 0) i)
counted_more false h b n x y i e f = f ∙ e ∙ sym (ap (λ c. cond {A = ℕ} c n 0) i)

pub observer_came : (vs others : List Plain) (S T : List Shape) (v : Plain) (place : Place)
    → place_of v ≡ Some place → IsIndexOf vs others S → AreInOrder T
    → ((p : Place) → has_leaf T p ≡ (same_place place p || has_leaf S p))
    → ((p : Place) (c : Plain) → captured_at (leaf_of T p) c
    ≡ cond (same_place place p && not (has_leaf S p)) (count (stands p.outline p.constants c) vs)
    (captured_at (leaf_of S p) c))
    → ((p : Place) (o : Plain) → observed_at (leaf_of T p) o
    ≡ cond (same_place place p && same v o) true (observed_at (leaf_of S p) o))
    → ((s : Outline) → observations_at T s
    ≡ cond (same_outline place.outline s) (Some (number (observations_at S place.outline) + 1)) (observations_at S s))
    → IsIndexOf vs (v ∷ others) T
observer_came vs others S T v place is index ordered leaves counts seen put = record {
  in_order = ordered;
  outlines_are = λ s.
      outline_more place.outline s v place others (observations_at S s) (observations_at T s)
      (observations_at S place.outline) is refl
      (λ u e. ap (observations_at S) (outline_is place.outline u e) ∙ index.outlines_are u)
      (index.outlines_are s) (put s);
  leaves_are = λ p.
      leaves p ∙ ap (λ b. b || has_leaf S p) (sym (ap (λ x. is_placed x p) is))
      ∙ ap (λ b. observes v p || b) (index.leaves_are p);
  counts = λ p c.
      counted_more (same_place place p) (has_leaf S p) (has_leaf T p) (count (stands p.outline p.constants c) vs)
      (captured_at (leaf_of S p) c) (captured_at (leaf_of T p) c) (leaves p) (index.counts p c) (counts p c);
  observers = λ p o.
      observed_more (same v o) (observes o p) (same_place place p) (among o others) (observed_at (leaf_of T p) o)
      (observed_at (leaf_of S p) o)
      (λ e. ap (λ x. observes x p) (sym (same_is v o e)) ∙ ap (λ x. is_placed x p) is) (seen p o)
      (index.observers p o)
      ∙ ap (λ t. (t || among o others) && observes o p) (same_turns v o);
}

unobserved : (sv ov a x : Bool) → (sv ≡ true → ov ≡ false) → x ≡ (a && ov) → x ≡ ((sv || a) && ov)
unobserved true ov a x h e = e ∙ ap (λ t. a && t) (h refl) ∙ none a ∙ sym (h refl)
  where
    none : (a : Bool) → (a && false) ≡ false
    none true = refl
    none false = refl
unobserved false ov a x h e = e

none_counted : (v : Plain) (s : Outline) (seen : List Plain) → place_of v ≡ None
    → kept (count (has_outline s) seen) ≡ kept (count (has_outline s) (v ∷ seen))
none_counted v s seen is =
    ap kept (plain (count (has_outline s) seen))
    ∙ ap (λ x. kept (cond (is_outlined s x) 1 0 + count (has_outline s) seen)) (sym is)
  where
    plain : (n : ℕ) → n ≡ 0 + n
    plain n = omega arith

-- a value that is no observation changes nothing of the observers
pub other_came : (vs seen : List Plain) (S : List Shape) (v : Plain)
    → place_of v ≡ None → IsIndexOf vs seen S → IsIndexOf vs (v ∷ seen) S
other_came vs seen S v is index = record {
  in_order = index.in_order;
  outlines_are = λ s. index.outlines_are s ∙ none_counted v s seen is;
  leaves_are = λ p. index.leaves_are p ∙ ap (λ x. is_placed x p || is_observed seen p) (sym is);
  counts = index.counts;
  observers = λ p o.
      unobserved (same o v) (observes o p) (among o seen) (observed_at (leaf_of S p) o)
      (λ e. ap (λ x. is_placed x p) (ap place_of (same_is o v e) ∙ is)) (index.observers p o);
}

or_right : (sv ov a x : Bool) → (sv ≡ true → ov ≡ false) → x ≡ ((sv || a) && ov) → x ≡ (a && ov)
or_right true ov a x h e = e ∙ h refl ∙ sym (ap (λ t. a && t) (h refl) ∙ none a)
  where
    none : (a : Bool) → (a && false) ≡ false
    none true = refl
    none false = refl
or_right false ov a x h e = e

pub other_went : (vs seen : List Plain) (S : List Shape) (v : Plain)
    → place_of v ≡ None → IsIndexOf vs (v ∷ seen) S → IsIndexOf vs seen S
other_went vs seen S v is index = record {
  in_order = index.in_order;
  outlines_are = λ s. index.outlines_are s ∙ sym (none_counted v s seen is);
  leaves_are = λ p. index.leaves_are p ∙ ap (λ x. is_placed x p || is_observed seen p) is;
  counts = index.counts;
  observers = λ p o.
      or_right (same o v) (observes o p) (among o seen) (observed_at (leaf_of S p) o)
      (λ e. ap (λ x. is_placed x p) (ap place_of (same_is o v e) ∙ is)) (index.observers p o);
}

-- ---- an observation goes

outline_less : (t s : Outline) (v : Plain) (place : Place) (seen : List Plain) (x y w : Option ℕ)
    → place_of v ≡ Some place → place.outline ≡ t
    → ((u : Outline) → same_outline t u ≡ true → w ≡ kept (count (has_outline u) (v ∷ seen)))
    → x ≡ kept (count (has_outline s) (v ∷ seen)) → y ≡ cond (same_outline t s) (kept (number w - 1)) x
    → y ≡ kept (count (has_outline s) seen)
outline_less t s v place seen x y w is at here e f = f ∙ by (same_outline t s) refl
  where
    has : has_outline s v ≡ same_outline t s
    has = ap (is_outlined s) is ∙ ap (λ u. same_outline u s) at

    one_less : (n m : ℕ) → n ≡ 1 + m → kept (n - 1) ≡ kept m
    one_less n m e = ap kept (omega arith)

    none_less : (n : ℕ) → 0 + n ≡ n
    none_less n = omega arith

    by : (b : Bool) → same_outline t s ≡ b → cond b (kept (number w - 1)) x ≡ kept (count (has_outline s) seen)
    by true g =
        one_less (number w) (count (has_outline s) seen)
        (ap number (here s g) ∙ number-kept (count (has_outline s) (v ∷ seen))
        ∙ ap (λ b. cond b 1 0 + count (has_outline s) seen) (has ∙ g))
    by false g =
        e ∙ ap (λ b. kept (cond b 1 0 + count (has_outline s) seen)) (has ∙ g)
        ∙ ap kept (none_less (count (has_outline s) seen))

observed_less : (sv ov w a b x y : Bool) → (sv ≡ true → ov ≡ w) → (sv ≡ true → b ≡ false) → a ≡ (sv || b)
    → x ≡ cond (w && sv) false y → y ≡ (a && ov) → x ≡ (b && ov)
observed_less true ov true a b x y h g i e f = e ∙ ap (λ t. t && ov) (sym (g refl))
observed_less true ov false a b x y h g i e f =
    e ∙ f ∙ ap (λ t. a && t) (h refl) ∙ none a ∙ ap (λ t. t && ov) (sym (g refl))
  where
    none : (a : Bool) → (a && false) ≡ false
    none true = refl
    none false = refl
observed_less false ov true a b x y h g i e f = e ∙ f ∙ ap (λ t. t && ov) i
observed_less false ov false a b x y h g i e f = e ∙ f ∙ ap (λ t. t && ov) i

pub outlines_less : (vs seen : List Plain) (S T : List Shape) (v : Plain) (place : Place)
    → place_of v ≡ Some place → IsIndexOf vs (v ∷ seen) S
    → ((s : Outline) → observations_at T s ≡ cond (same_outline place.outline s)
    (kept (number (observations_at S place.outline) - 1)) (observations_at S s))
    → (s : Outline) → observations_at T s ≡ kept (count (has_outline s) seen)
outlines_less vs seen S T v place is index put s =
    outline_less place.outline s v place seen (observations_at S s) (observations_at T s)
    (observations_at S place.outline) is refl
    (λ u e. ap (observations_at S) (outline_is place.outline u e) ∙ index.outlines_are u)
    (index.outlines_are s) (put s)

pub was_kept : (vs seen : List Plain) (S : List Shape) (v : Plain) (place : Place)
    → place_of v ≡ Some place → IsIndexOf vs (v ∷ seen) S → is_kept S place.outline ≡ true
was_kept vs seen S v place is index =
    kept_is S (v ∷ seen) index.outlines_are place.outline
    ∙ ap (λ b. b || list_any (has_outline place.outline) seen)
    (ap (is_outlined place.outline) is ∙ outline_self place.outline)

pub observers_less : (vs seen : List Plain) (S T : List Shape) (v : Plain) (place : Place)
    → place_of v ≡ Some place → among v seen ≡ false → IsIndexOf vs (v ∷ seen) S → (p : Place) (o : Plain)
    → observed_at (leaf_of T p) o ≡ cond (same_place place p && same v o) false (observed_at (leaf_of S p) o)
    → observed_at (leaf_of T p) o ≡ (among o seen && observes o p)
observers_less vs seen S T v place is gone index p o unseen =
    observed_less (same v o) (observes o p) (same_place place p) (same o v || among o seen) (among o seen)
    (observed_at (leaf_of T p) o) (observed_at (leaf_of S p) o)
    (λ e. ap (λ x. observes x p) (sym (same_is v o e)) ∙ ap (λ x. is_placed x p) is)
    (λ e. subst (λ (x : Plain). among x seen ≡ false) (same_is v o e) gone)
    (ap (λ t. t || among o seen) (same_turns o v)) unseen (index.observers p o)

counted_less : (t h : Bool) (n x y : ℕ) → (t ≡ true → h ≡ true) → x ≡ cond h n 0 → y ≡ cond t x 0 → y ≡ cond t n 0
counted_less true h n x y i e f = f ∙ e ∙ ap (λ b. cond {A = ℕ} b n 0) (i refl)
counted_less false h n x y i e f = f

pub observer_went : (vs seen : List Plain) (S T : List Shape) (v : Plain)
    (place : Place) → place_of v ≡ Some place → IsIndexOf vs (v ∷ seen) S → AreInOrder T
    → ((p : Place) → has_leaf T p ≡ is_observed seen p)
    → ((p : Place) (c : Plain) → captured_at (leaf_of T p) c ≡ cond (has_leaf T p) (captured_at (leaf_of S p) c) 0)
    → ((p : Place) (o : Plain) → observed_at (leaf_of T p) o ≡ (among o seen && observes o p))
    → ((s : Outline) → observations_at T s ≡ cond (same_outline place.outline s)
    (kept (number (observations_at S place.outline) - 1)) (observations_at S s))
    → IsIndexOf vs seen T
observer_went vs seen S T v place is index ordered leaves counts observers put = record {
  in_order = ordered;
  outlines_are = outlines_less vs seen S T v place is index put;
  leaves_are = leaves;
  counts = λ p c.
      counted_less (has_leaf T p) (has_leaf S p) (count (stands p.outline p.constants c) vs)
      (captured_at (leaf_of S p) c) (captured_at (leaf_of T p) c)
      (λ e. index.leaves_are p ∙ or_true (observes v p) (is_observed seen p) (sym (leaves p) ∙ e))
      (index.counts p c) (counts p c);
  observers = observers;
}

-- ---- a value comes or goes

count_more : (d st : Bool) (n x y : ℕ) (m : ℕ) → x ≡ cond d n 0 → y ≡ x + cond (d && st) 1 0 → m ≡ n + cond st 1 0
    → y ≡ cond d m 0
count_more true st n x y m e f g = omega arith
count_more false st n x y m e f g = omega arith

count_less : (d st : Bool) (n x y : ℕ) (m : ℕ) → x ≡ cond d n 0 → y ≡ x - cond (d && st) 1 0 → n ≡ m + cond st 1 0
    → y ≡ cond d m 0
count_less true st n x y m e f g = omega arith
count_less false st n x y m e f g = omega arith

front : (a n : ℕ) → a + n ≡ n + a
front a n = omega arith

-- the same observations in another order
pub seen_alike : (vs seen others : List Plain) (S : List Shape) → ((f : Plain → Bool) → count f seen ≡ count f others)
    → ((o : Plain) → among o seen ≡ among o others) → IsIndexOf vs seen S → IsIndexOf vs others S
seen_alike vs seen others S same_count same_among index = record {
  in_order = index.in_order;
  outlines_are = λ s. index.outlines_are s ∙ ap kept (same_count (has_outline s));
  leaves_are = λ p.
      index.leaves_are p ∙ any-count (λ o. observes o p) seen ∙ ap (ltb 0) (same_count (λ o. observes o p))
      ∙ sym (any-count (λ o. observes o p) others);
  counts = index.counts;
  observers = λ p o. index.observers p o ∙ ap (λ t. t && observes o p) (same_among o);
}

pub value_came : (vs ws seen : List Plain) (S T : List Shape) (v : Plain)
    → ((f : Plain → Bool) → count f ws ≡ count f vs + cond (f v) 1 0) → IsIndexOf vs seen S
    → AllZip (IsBumped v) S T → IsIndexOf ws seen T
value_came vs ws seen S T v more index each = record {
  in_order = each_in_order S T (zip_each (λ s t r. r.outline) S T each) index.in_order;
  outlines_are = λ s. each_observed S T (zip_each (λ s t r. keeps_bumped v s t r) S T each) s ∙ index.outlines_are s;
  leaves_are = λ p. each_has S T (zip_each (λ s t r. keeps_bumped v s t r) S T each) p ∙ index.leaves_are p;
  counts = λ p c.
      count_more (has_leaf S p) (stands p.outline p.constants c v) (count (stands p.outline p.constants c) vs)
      (captured_at (leaf_of S p) c) (captured_at (leaf_of T p) c) (count (stands p.outline p.constants c) ws)
      (index.counts p c) (bumped v S T each p c) (more (stands p.outline p.constants c))
      ∙ ap (λ b. cond b (count (stands p.outline p.constants c) ws) 0)
      (sym (each_has S T (zip_each (λ s t r. keeps_bumped v s t r) S T each) p));
  observers = λ p o.
      each_seen S T (zip_each (λ s t r. keeps_bumped v s t r) S T each) p o ∙ index.observers p o;
}

pub value_went : (vs ws seen : List Plain) (S T : List Shape) (v : Plain)
    → ((f : Plain → Bool) → count f vs ≡ count f ws + cond (f v) 1 0) → IsIndexOf vs seen S
    → AllZip (IsDropped v) S T → IsIndexOf ws seen T
value_went vs ws seen S T v more index each = record {
  in_order = each_in_order S T (zip_each (λ s t r. r.outline) S T each) index.in_order;
  outlines_are = λ s. each_observed S T (zip_each (λ s t r. keeps_dropped v s t r) S T each) s ∙ index.outlines_are s;
  leaves_are = λ p. each_has S T (zip_each (λ s t r. keeps_dropped v s t r) S T each) p ∙ index.leaves_are p;
  counts = λ p c.
      count_less (has_leaf S p) (stands p.outline p.constants c v) (count (stands p.outline p.constants c) vs)
      (captured_at (leaf_of S p) c) (captured_at (leaf_of T p) c) (count (stands p.outline p.constants c) ws)
      (index.counts p c) (dropped v S T each p c) (more (stands p.outline p.constants c))
      ∙ ap (λ b. cond b (count (stands p.outline p.constants c) ws) 0)
      (sym (each_has S T (zip_each (λ s t r. keeps_dropped v s t r) S T each) p));
  observers = λ p o.
      each_seen S T (zip_each (λ s t r. keeps_dropped v s t r) S T each) p o ∙ index.observers p o;
}

-- the first of a list counts like one more
pub with_first : (vs ws : List Plain) (v : Plain) → ((f : Plain → Bool) → count f ws ≡ count f vs + cond (f v) 1 0)
    → (f : Plain → Bool) → count f (v ∷ vs) ≡ count f ws
with_first vs ws v more f = front (cond (f v) 1 0) (count f vs) ∙ sym (more f)

pub among_first : (vs ws : List Plain) (v : Plain) → ((f : Plain → Bool) → count f ws ≡ count f vs + cond (f v) 1 0)
    → (o : Plain) → among o (v ∷ vs) ≡ among o ws
among_first vs ws v more o = sym (among_with o v ws vs more)
