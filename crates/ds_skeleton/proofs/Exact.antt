-- The keys that the index finds to go with a value are those that are wanted with it and not without it.
use Rattle.std.proofs.Common.{◌≡◌, ℕ, ◌+◌, List, [], ◌∷◌, Bool, true, false, cond, ◌&&◌, ◌||◌, ltb, eqb, not, Option}
use Rattle.std.proofs.Common.{Some, None, option_and_then, refl, ap, sym, ◌∙◌, subst, arith}
use Rattle.std.specs.List.{list_any}
use Rattle.std.specs.BTreeMap.{BTreeMap}
use Rattle.std.proofs.lemmas.Bool.Decides.{nat_tests}
use Rattle.pv_value.specs.Plain.{Plain}
use Rattle.pv_value.specs.declared.Entry.{Entry}
use Rattle.pv_words.specs.Lemmas.Same.{same_is}
use Rattle.pv_words.specs.Parts.{same}
use Rattle.ds_shape.specs.Outlines.{Outline}
use Rattle.ds_space.specs.Changes.{among}
use Rattle.ds_space.specs.Lemmas.Keys.{same_turns, any_none}
use Rattle.ds_skeleton.specs.Places.{Place, Parts, same_outline, same_place, place_of, is_placed, stand, stands}
use Rattle.ds_skeleton.specs.Places.{is_found}
use Rattle.ds_skeleton.specs.Places.{catches_by, count}
use Rattle.ds_skeleton.specs.Leaves.{Leaf, leaf_at, captured_at, observed_at}
use Rattle.ds_skeleton.specs.Shapes.{Shape, shape_at, is_kept, leaf_of, has_leaf, AreInOrder}
use Rattle.ds_skeleton.specs.Indexes.{IsIndexOf, touched, touched_by, own, own_by, goes_with, only_in}
use Rattle.ds_skeleton.proofs.Counts.{any-count}
use Rattle.ds_skeleton.proofs.Found.{any_found, none_found}
use Rattle.ds_skeleton.proofs.Same.{outline_is}
use Rattle.ds_skeleton.proofs.Kept.{covered, watched}

pub any_with : {X : Type 0} (p : X → Bool) (r : X → Bool) (b : Bool) (xs : List X) → ((x : X) → p x ≡ (r x && b))
    → list_any p xs ≡ (list_any r xs && b)
any_with p r b [] h = refl
any_with p r b (x ∷ xs) h = ap (λ t. t || list_any p xs) (h x) ∙ ap (λ t. (r x && b) || t) (any_with p r b xs h)
    ∙ split_or (r x) (list_any r xs) b
  where
    split_or : (u w b : Bool) → ((u && b) || (w && b)) ≡ ((u || w) && b)
    split_or true true true = refl
    split_or true true false = refl
    split_or true false true = refl
    split_or true false false = refl
    split_or false w b = refl

false_end : (a b : Bool) → (a && (b && false)) ≡ false
false_end true true = refl
false_end true false = refl
false_end false b = refl

-- a key whose observer is not seen at the outline is not touched
untouched : (v : Plain) (q : Entry) (s : Shape) → ((k : Plain) → observed_at (leaf_at s.leaves k) q.key ≡ false)
    → touched v q s ≡ false
untouched v q s h = by (stand s.outline v)
  where
    by : (e : Option Parts) → touched_by s.leaves e q ≡ false
    by None = refl
    by (Some e) =
        ap (λ t. eqb (captured_at (leaf_at s.leaves e.constants) e.captures) 1 && (same e.captures q.value && t))
        (h e.constants)
        ∙ false_end (eqb (captured_at (leaf_at s.leaves e.constants) e.captures) 1) (same e.captures q.value)

three : (x y b d : Bool) → (b ≡ true → d ≡ true → x ≡ y) → (x && (d && b)) ≡ ((b && d) && y)
three x y true true h = and_true x ∙ h refl refl
  where
    and_true : (x : Bool) → (x && true) ≡ x
    and_true true = refl
    and_true false = refl
three x y true false h = and_false x
  where
    and_false : (x : Bool) → (x && false) ≡ false
    and_false true = refl
    and_false false = refl
three x y false true h = and_false x
  where
    and_false : (x : Bool) → (x && false) ≡ false
    and_false true = refl
    and_false false = refl
three x y false false h = and_false x
  where
    and_false : (x : Bool) → (x && false) ≡ false
    and_false true = refl
    and_false false = refl

abbrev place : Outline → Plain → Place
place s k = record { outline = s; constants = k }

-- what is found at the outline of the observer itself, where a value has the parts e there
at_outline : (leaves : BTreeMap Plain Leaf) (k c : Plain) (n : ℕ) (q : Entry) → q.value ≡ c
    → captured_at (leaf_at leaves k) c ≡ n → ((l : Plain) → observed_at (leaf_at leaves l) q.key ≡ same k l)
    → (e : Option Parts) → touched_by leaves e q ≡ (is_found e k c && eqb n 1)
at_outline leaves k c n q is count_is obs None = refl
at_outline leaves k c n q is count_is obs (Some e) =
    ap (λ t. eqb (captured_at (leaf_at leaves e.constants) e.captures) 1
    && (same e.captures t && observed_at (leaf_at leaves e.constants) q.key)) is
    ∙ ap (λ t. eqb (captured_at (leaf_at leaves e.constants) e.captures) 1 && (same e.captures c && t))
    (obs e.constants ∙ same_turns k e.constants)
    ∙ three (eqb (captured_at (leaf_at leaves e.constants) e.captures) 1) (eqb n 1) (same e.constants k)
    (same e.captures c) (λ f g.
    ap (λ l. eqb (captured_at (leaf_at leaves l) e.captures) 1) (same_is e.constants k f)
    ∙ ap (λ d. eqb (captured_at (leaf_at leaves k) d) 1) (same_is e.captures c g)
    ∙ ap (λ m. eqb m 1) count_is)

-- at each shape
at_each : (S : List Shape) (v : Plain) (s : Outline) (k c : Plain) (n : ℕ) (q : Entry) → q.value ≡ c
    → captured_at (leaf_of S (place s k)) c ≡ n
    → ((r : Place) → observed_at (leaf_of S r) q.key ≡ same_place (place s k) r)
    → (r : Shape) → shape_at S r.outline ≡ Some r
    → touched v q r ≡ (same_outline s r.outline && (stands s k c v && eqb n 1))
at_each S v s k c n q is count_is obs r found = by (same_outline s r.outline) refl
  where
    here : (l : Plain) → leaf_at r.leaves l ≡ leaf_of S (place r.outline l)
    here l = sym (ap (λ x. option_and_then (λ t. leaf_at t.leaves l) x) found)

    by : (b : Bool) → same_outline s r.outline ≡ b → touched v q r ≡ (b && (stands s k c v && eqb n 1))
    by true e =
        at_outline r.leaves k c n q is
        (ap (λ l. captured_at l c) (here k) ∙ ap (λ o. captured_at (leaf_of S (place o k)) c)
        (sym (outline_is s r.outline e)) ∙ count_is)
        (λ l. ap (λ x. observed_at x q.key) (here l) ∙ obs (place r.outline l) ∙ ap (λ b. b && same k l) e)
        (stand r.outline v)
        ∙ ap (λ o. stands o k c v && eqb n 1) (sym (outline_is s r.outline e))
    by false e =
        untouched v q r
        (λ l. ap (λ x. observed_at x q.key) (here l) ∙ obs (place r.outline l) ∙ ap (λ b. b && same k l) e)

finally_true : (st sv a : Bool) (n m : ℕ) → n ≡ m + cond st 1 0 → (sv ≡ true → a ≡ false) → (sv ≡ false → a ≡ true)
    → ((st && eqb n 1) || (sv && ltb 0 n)) ≡ (ltb 0 n && not (a && ltb 0 m))
finally_true true true a n m e f g = rw (f refl) (grind (arith, nat_tests, e))
finally_true true false a n m e f g = rw (g refl) (grind (arith, nat_tests, e))
finally_true false true a n m e f g = rw (f refl) (grind (arith, nat_tests, e))
finally_true false false a n m e f g = rw (g refl) (grind (arith, nat_tests, e))

pub among_with : (o v : Plain) (vs ws : List Plain) → ((f : Plain → Bool) → count f vs ≡ count f ws + cond (f v) 1 0)
    → among o vs ≡ (same o v || among o ws)
among_with o v vs ws drop = any-count (same o) vs ∙ ap (ltb 0) (drop (same o)) ∙ by (same o v) ∙ ap (λ t. same o v || t)
    (sym (any-count (same o) ws))
  where
    by : (b : Bool) → ltb 0 (count (same o) ws + cond b 1 0) ≡ (b || ltb 0 (count (same o) ws))
    by true = grind (arith, nat_tests)
    by false = grind (arith, nat_tests)

own_is : (S : List Shape) (v : Plain) (q : Entry) → own S v q ≡ (same v q.key && own_by S (place_of q.key) q.value)
own_is S v q = by (same v q.key) refl
  where
    by : (b : Bool) → same v q.key ≡ b → (b && own_by S (place_of v) q.value) ≡ (b && own_by S (place_of q.key) q.value)
    by true e = ap (λ x. own_by S (place_of x) q.value) (same_is v q.key e)
    by false e = refl

pub from_or : (a b : Bool) → (a || b) ≡ false → a ≡ false
from_or true b e = e
from_or false b e = refl

-- where the observer of a key is at no place, no shape is touched
pub none_touched : (S : List Shape) (v : Plain) (q : Entry) → AreInOrder S
    → ((p : Place) → observed_at (leaf_of S p) q.key ≡ false) → list_any (touched v q) S ≡ false
none_touched S v q o h =
    none_found S (touched v q) o
    (λ r found. untouched v q r (λ k. ap (λ x. observed_at (option_and_then (λ t. leaf_at t.leaves k) x) q.key)
    (sym found) ∙ h (place r.outline k)))

-- an observer that is not there
exact_absent : (vs ws : List Plain) (S : List Shape) (v : Plain) (q : Entry) (so : Option Place) (x y : Bool)
    → AreInOrder S → ((f : Plain → Bool) → count f vs ≡ count f ws + cond (f v) 1 0)
    → ((p : Place) → observed_at (leaf_of S p) q.key ≡ (among q.key vs && is_placed so p))
    → among q.key vs ≡ false
    → (list_any (touched v q) S || (same v q.key && own_by S so q.value)) ≡ ((among q.key vs && x) && not y)
exact_absent vs ws S v q so x y o drop obs e =
    let other : same v q.key ≡ false = same_turns v q.key ∙ from_or (same q.key v) (among q.key ws)
    (sym (among_with q.key v vs ws drop) ∙ e) in
    let still : list_any (touched v q) S ≡ false = none_touched S v q o (λ p. obs p ∙ ap (λ t. t && is_placed so p) e) in
    rw (still, other, e) refl

-- an observer at the place p
exact_present : (vs ws : List Plain) (S : List Shape) (v : Plain) (s : Outline) (k : Plain) (q : Entry) → AreInOrder S
    → ((f : Plain → Bool) → count f vs ≡ count f ws + cond (f v) 1 0) → among v ws ≡ false
    → captured_at (leaf_of S (place s k)) q.value ≡ count (stands s k q.value) vs
    → ((r : Place) → observed_at (leaf_of S r) q.key ≡ same_place (place s k) r)
    → is_kept S s ≡ true
    → among q.key vs ≡ true
    → (list_any (touched v q) S || (same v q.key && ltb 0 (captured_at (leaf_of S (place s k)) q.value)))
    ≡ (list_any (stands s k q.value) vs && not (among q.key ws && list_any (stands s k q.value) ws))
exact_present vs ws S v s k q o drop gone count_is obs has e =
    let st = stands s k q.value in
    let n = count (stands s k q.value) vs in
    let m = count (stands s k q.value) ws in
    let found : list_any (touched v q) S ≡ (stands s k q.value v && eqb n 1) =
    any_found S (touched v q) s (stands s k q.value v && eqb n 1) o (at_each S v s k q.value n q refl count_is obs)
    ∙ ap (λ t. t && (stands s k q.value v && eqb n 1)) has in
    rw (found, count_is, any-count (stands s k q.value) vs, any-count (stands s k q.value) ws)
    (finally_true (stands s k q.value v) (same v q.key) (among q.key ws) n m (drop (stands s k q.value))
    (λ h. subst (λ (o : Plain). among o ws ≡ false) (same_is v q.key h) gone)
    (λ h. ap (λ t. t || among q.key ws) (sym (same_turns q.key v ∙ h)) ∙ sym (among_with q.key v vs ws drop) ∙ e))

-- what the index has of an observer, by its place
exact_by : (vs ws : List Plain) (S : List Shape) (v : Plain) (q : Entry) (so : Option Place) → AreInOrder S
    → ((f : Plain → Bool) → count f vs ≡ count f ws + cond (f v) 1 0) → among v ws ≡ false
    → ((p : Place) (c : Plain) → captured_at (leaf_of S p) c
    ≡ cond (has_leaf S p) (count (stands p.outline p.constants c) vs) 0)
    → ((p : Place) → observed_at (leaf_of S p) q.key ≡ (among q.key vs && is_placed so p))
    → ((p : Place) → among q.key vs ≡ true → so ≡ Some p → is_kept S p.outline ≡ true)
    → ((p : Place) → among q.key vs ≡ true → so ≡ Some p → has_leaf S p ≡ true)
    → (list_any (touched v q) S || (same v q.key && own_by S so q.value))
    ≡ ((among q.key vs && list_any (catches_by so q.value) vs) && not
    (among q.key ws && list_any (catches_by so q.value) ws))
exact_by vs ws S v q None o drop gone counts obs covered watched =
    rw (
      none_touched S v q o (λ p. obs p ∙ no (among q.key vs)),
      any_none (λ x. catches_by None q.value x) vs
          (λ x. refl),
      any_none (λ x. catches_by None q.value x) ws (λ x. refl),
    )
    (last (same v q.key) (among q.key vs) (among q.key ws))
  where
    no : (b : Bool) → (b && false) ≡ false
    no true = refl
    no false = refl

    last : (a b d : Bool) → (false || (a && false)) ≡ ((b && false) && not (d && false))
    last true true d = refl
    last true false d = refl
    last false true d = refl
    last false false d = refl
exact_by vs ws S v q (Some p) o drop gone counts obs covered watched = by (among q.key vs) refl
  where
    at_place : (b d : Bool) → b ≡ true → (b && d) ≡ d
    at_place true d e = refl
    at_place false d e = cc

    by : (b : Bool) → among q.key vs ≡ b
        → (list_any (touched v q) S || (same v q.key && own_by S (Some p) q.value))
        ≡ ((among q.key vs && list_any (catches_by (Some p) q.value) vs) && not
        (among q.key ws && list_any (catches_by (Some p) q.value) ws))
    by false e = exact_absent vs ws S v q (Some p) (list_any (catches_by (Some p) q.value) vs)
        (among q.key ws && list_any (catches_by (Some p) q.value) ws) o drop obs e
    by true e =
        exact_present vs ws S v p.outline p.constants q o drop gone
        (counts p q.value ∙ ap (λ b. cond b (count (stands p.outline p.constants q.value) vs) 0) (watched p e refl))
        (λ r. obs r ∙ at_place (among q.key vs) (same_place p r) e)
        (covered p e refl) e
        ∙ ap (λ t. t && not (among q.key ws && list_any (catches_by (Some p) q.value) ws))
        (sym (at_place (among q.key vs) (list_any (catches_by (Some p) q.value) vs) e))

-- the keys that go with v are those that are wanted with it and not without it
pub exact : (vs ws : List Plain) (S : List Shape) (v : Plain)
    → ((f : Plain → Bool) → count f vs ≡ count f ws + cond (f v) 1 0) → among v ws ≡ false → IsIndexOf vs vs S
    → (q : Entry) → goes_with S v q ≡ only_in vs ws q
exact vs ws S v drop gone index q =
    ap (λ t. list_any (touched v q) S || t) (own_is S v q)
    ∙ exact_by vs ws S v q (place_of q.key) index.in_order drop gone index.counts (λ p. index.observers p q.key)
    (λ p. covered vs vs S index q.key p) (λ p. watched vs vs S index q.key p)
