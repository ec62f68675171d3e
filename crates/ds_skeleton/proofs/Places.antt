-- A shape is put among those in order, put in the place of another, or taken out.
use Rattle.std.proofs.Common.{◌≡◌, ℕ, zero, suc, ◌<◌, ◌≤◌, List, [], ◌∷◌, ◌++◌, length, take, drop, map, slice_set}
use Rattle.std.proofs.Common.{slice_index_or, Bool, true, false, cond, Option, Some, None, Result, Ok, Err, MatchResult}
use Rattle.std.proofs.Common.{refl, ap, sym, ◌∙◌, subst, arith}
use Rattle.std.specs.declared.cmp.Ordering.{Ordering}
use Rattle.std.specs.declared.cmp.Ordering.TheVariants.{Less, Equal, Greater}
use Rattle.std.specs.Ordering.{is_eq, ordering_index, ordering_reverse}
use Rattle.std.specs.List.{AllByRecursion, HoldsAt, insert, remove}
use Rattle.std.specs.List.Sorted.{IsStrictlySortedBy, IsPartitionPoint, IsBinarySearchResult}
use Rattle.std.proofs.lemmas.List.{take-append-drop}
use Rattle.ds_shape.specs.Outlines.{Outline}
use Rattle.ds_skeleton.specs.Places.{outline_order, same_outline}
use Rattle.ds_skeleton.specs.Shapes.{Shape, shape_at, AreInOrder}
use Rattle.ds_skeleton.proofs.Same.{outline_is, outline_self, outline_total, outline_turns}

-- ---- what a search finds

less_first : (a b c : Outline) → outline_order a b ≡ Less
    → ordering_index (outline_order a c) ≤ ordering_index (outline_order b c)
less_first a b c e = by (outline_order b c) refl
  where
    at_most : (o : Ordering) → ordering_index o ≤ 2
    at_most Less = omega arith
    at_most Equal = omega arith
    at_most Greater = omega arith

    below : (o : Ordering) (n : ℕ) → o ≡ Less → ordering_index o ≤ n
    below o n f = subst (λ p. ordering_index p ≤ n) (sym f) (omega arith)

    by : (o : Ordering) → outline_order b c ≡ o → ordering_index (outline_order a c) ≤ ordering_index o
    by Less f = below (outline_order a c) 0 (outline_total.trans a b c e f)
    by Equal f =
        below (outline_order a c) 1
        (outline_total.antisymm a c ∙ ap ordering_reverse (sym (outline_total.congr b c a f))
        ∙ sym (outline_total.antisymm a b) ∙ e)
    by Greater f = at_most (outline_order a c)

all_at : (P : Outline → Type 0) (xs : List Shape) (k : ℕ) (d : Shape) → AllByRecursion P (map (λ s. s.outline) xs)
    → k < length xs → P (slice_index_or xs k d).outline
all_at P [] k d a h = absurd (omega arith)
all_at P (x ∷ xs) zero d a h = a.0
all_at P (x ∷ xs) (suc k) d a h = all_at P xs k d a.1 (omega arith)

rises : (o : Outline) (xs : List Shape) → AreInOrder xs
    → (i j : ℕ) (d : Shape) → i ≤ j → j < length xs
    → ordering_index (outline_order (slice_index_or xs i d).outline o)
    ≤ ordering_index (outline_order (slice_index_or xs j d).outline o)
unfolding IsStrictlySortedBy
rises o [] s i j d le lt = absurd (omega arith)
rises o (x ∷ xs) s zero zero d le lt = omega arith
rises o (x ∷ xs) s zero (suc j) d le lt =
    less_first x.outline (slice_index_or xs j d).outline o
    (all_at (λ y. outline_order x.outline y ≡ Less) xs j d s.0 (omega arith))
rises o (x ∷ xs) s (suc i) zero d le lt = absurd (omega arith)
rises o (x ∷ xs) s (suc i) (suc j) d le lt = rises o xs s.1 i j d (omega arith) (omega arith)

pub searched : (o : Outline) (xs : List Shape) (r : Result ℕ ℕ) → AreInOrder xs
    → IsBinarySearchResult (λ s. outline_order s.outline o) xs r
    → MatchResult r (HoldsAt (λ s. outline_order s.outline o ≡ Equal) xs)
    (IsPartitionPoint (λ s. outline_order s.outline o ≡ Less) (λ s. outline_order s.outline o ≡ Greater) xs)
searched o xs (Ok i) s h = h
searched o xs (Err i) s h = h (rises o xs s)

-- ---- what stands before and behind a place

abbrev Below : Outline → List Shape → Type 0
Below o xs = AllByRecursion (λ x. outline_order x.outline o ≡ Less) xs

abbrev Above : Outline → List Shape → Type 0
Above o xs = AllByRecursion (λ x. outline_order x.outline o ≡ Greater) xs

all_taken : (P : Shape → Type 0) (xs : List Shape) (i : ℕ)
    → ((k : ℕ) (d : Shape) → 0 ≤ k → k < i → P (slice_index_or xs k d)) → AllByRecursion P (take i xs)
all_taken P xs zero h = tt
all_taken P [] (suc i) h = tt
all_taken P (x ∷ xs) (suc i) h =
    (h zero x (omega arith) (omega arith), all_taken P xs i (λ k d l m. h (suc k) d (omega arith) (omega arith)))

all_left : (P : Shape → Type 0) (xs : List Shape) (i : ℕ)
    → ((k : ℕ) (d : Shape) → i ≤ k → k < length xs → P (slice_index_or xs k d)) → AllByRecursion P (drop i xs)
all_left P [] zero h = tt
all_left P (x ∷ xs) zero h =
    (h zero x (omega arith) (omega arith), all_left P xs zero (λ k d l m. h (suc k) d (omega arith) (omega arith)))
all_left P [] (suc i) h = tt
all_left P (x ∷ xs) (suc i) h = all_left P xs i (λ k d l m. h (suc k) d (omega arith) (omega arith))

pub split_at : (xs : List Shape) (i : ℕ) (d : Shape) → i < length xs
    → xs ≡ take i xs ++ slice_index_or xs i d ∷ drop (suc i) xs
split_at [] i d h = absurd (omega arith)
split_at (x ∷ xs) zero d h = refl
split_at (x ∷ xs) (suc i) d h = ap (λ l. x ∷ l) (split_at xs i d (omega arith))

set_at : (xs : List Shape) (i : ℕ) (y : Shape) → i < length xs → slice_set xs i y ≡ take i xs ++ y ∷ drop (suc i) xs
set_at [] i y h = absurd (omega arith)
set_at (x ∷ xs) zero y h = refl
set_at (x ∷ xs) (suc i) y h = ap (λ l. x ∷ l) (set_at xs i y (omega arith))

-- ---- order

flip : (a b : Outline) → outline_order a b ≡ Less → outline_order b a ≡ Greater
flip a b e = outline_total.antisymm b a ∙ ap ordering_reverse e

flop : (a b : Outline) → outline_order a b ≡ Greater → outline_order b a ≡ Less
flop a b e = outline_total.antisymm b a ∙ ap ordering_reverse e

all_but : (P : Outline → Type 0) (front : List Shape) (y : Shape) (back : List Shape)
    → AllByRecursion P (map (λ s. s.outline) (front ++ y ∷ back))
    → P y.outline × AllByRecursion P (map (λ s. s.outline) (front ++ back))
all_but P [] y back a = a
all_but P (x ∷ xs) y back a = let r = all_but P xs y back a.1 in (r.0, (a.0, r.1))

all_with : (P : Outline → Type 0) (front : List Shape) (y : Shape) (back : List Shape) → P y.outline
    → AllByRecursion P (map (λ s. s.outline) (front ++ back))
    → AllByRecursion P (map (λ s. s.outline) (front ++ y ∷ back))
all_with P [] y back p a = (p, a)
all_with P (x ∷ xs) y back p a = (a.0, all_with P xs y back p a.1)

pub in_order_without : (front : List Shape) (y : Shape) (back : List Shape) → AreInOrder (front ++ y ∷ back)
    → AreInOrder (front ++ back)
unfolding IsStrictlySortedBy
in_order_without [] y back s = s.1
in_order_without (x ∷ xs) y back s =
    ((all_but (λ z. outline_order x.outline z ≡ Less) xs y back s.0).1, in_order_without xs y back s.1)

above_all : (o : Outline) (y : Shape) (back : List Shape) → y.outline ≡ o → Above o back
    → AllByRecursion (λ z. outline_order y.outline z ≡ Less) (map (λ s. s.outline) back)
above_all o y [] e a = tt
above_all o y (x ∷ xs) e a = (ap (λ z. outline_order z x.outline) e ∙ flop x.outline o a.0, above_all o y xs e a.1)

pub in_order_with : (o : Outline) (front : List Shape) (y : Shape) (back : List Shape) → y.outline ≡ o → Below o front
    → Above o back → AreInOrder (front ++ back) → AreInOrder (front ++ y ∷ back)
unfolding IsStrictlySortedBy
in_order_with o [] y back e b a s = (above_all o y back e a, s)
in_order_with o (x ∷ xs) y back e b a s = (
  all_with (λ z. outline_order x.outline z ≡ Less) xs y back (ap (outline_order x.outline) e ∙ b.0) s.0,
  in_order_with o xs y back e b.1 a s.1,
)

all_above : (o : Outline) (y : Shape) (back : List Shape) → y.outline ≡ o
    → AllByRecursion (λ z. outline_order y.outline z ≡ Less) (map (λ s. s.outline) back) → Above o back
all_above o y [] e a = tt
all_above o y (x ∷ xs) e a =
    (flip o x.outline (ap (λ z. outline_order z x.outline) (sym e) ∙ a.0), all_above o y xs e a.1)

pub around : (o : Outline) (front : List Shape) (y : Shape) (back : List Shape) → y.outline ≡ o
    → AreInOrder (front ++ y ∷ back) → Below o front × Above o back
unfolding IsStrictlySortedBy
around o [] y back e s = (tt, all_above o y back e s.0)
around o (x ∷ xs) y back e s =
    let r = around o xs y back e s.1 in (
      (
        ap (outline_order x.outline) (sym e)
            ∙ (all_but (λ z. outline_order x.outline z ≡ Less) xs y back s.0).0,
        r.0,
      ),
      r.1,
    )

-- ---- what is found

not_here : (o r x : Outline) (c : Ordering) → is_eq c ≡ false → outline_order x o ≡ c → same_outline o r ≡ true
    → same_outline r x ≡ false
not_here o r x c f e h =
    ap (λ z. same_outline z x) (sym (outline_is o r h)) ∙ outline_turns o x ∙ ap is_eq e ∙ f

none_of : (c : Ordering) → is_eq c ≡ false → (o r : Outline) (xs : List Shape)
    → AllByRecursion (λ x. outline_order x.outline o ≡ c) xs → same_outline o r ≡ true → shape_at xs r ≡ None
none_of c f o r [] a h = refl
none_of c f o r (x ∷ xs) a h =
    ap (λ b. cond {A = Option Shape} b (Some x) (shape_at xs r)) (not_here o r x.outline c f a.0 h)
    ∙ none_of c f o r xs a.1 h

none_there : (o r : Outline) (front back : List Shape) → Below o front → Above o back → same_outline o r ≡ true
    → shape_at (front ++ back) r ≡ None
none_there o r [] back b a h = none_of Greater refl o r back a h
none_there o r (x ∷ xs) back b a h =
    ap (λ t. cond {A = Option Shape} t (Some x) (shape_at (xs ++ back) r)) (not_here o r x.outline Less refl b.0 h)
    ∙ none_there o r xs back b.1 a h

with_here : (o r : Outline) (front : List Shape) (y : Shape) (back : List Shape) → y.outline ≡ o → Below o front
    → shape_at (front ++ y ∷ back) r ≡ cond (same_outline o r) (Some y) (shape_at (front ++ back) r)
with_here o r [] y back e b =
    ap (λ t. cond {A = Option Shape} t (Some y) (shape_at back r))
    (ap (same_outline r) e ∙ outline_turns r o)
with_here o r (x ∷ xs) y back e b = by (same_outline o r) refl (with_here o r xs y back e b.1)
  where
    later : Option Shape
    later = shape_at (xs ++ y ∷ back) r

    rest : Option Shape
    rest = shape_at (xs ++ back) r

    by : (t : Bool) → same_outline o r ≡ t → later ≡ cond (same_outline o r) (Some y) rest
        → cond {A = Option Shape} (same_outline r x.outline) (Some x) later
        ≡ cond {A = Option Shape} t (Some y) (cond {A = Option Shape} (same_outline r x.outline) (Some x) rest)
    by true h i =
        ap (λ t. cond {A = Option Shape} t (Some x) later) (not_here o r x.outline Less refl b.0 h)
        ∙ i ∙ ap (λ t. cond {A = Option Shape} t (Some y) rest) h
    by false h i =
        ap (cond {A = Option Shape} (same_outline r x.outline) (Some x))
        (i ∙ ap (λ t. cond {A = Option Shape} t (Some y) rest) h)

-- ---- the three changes

-- the shapes ys are in order, and have w at o and elsewhere what xs have
pub record Updates (o : Outline) (w : Option Shape) (xs ys : List Shape) : Type 0 where
  pub in_order : AreInOrder ys
  pub at : (r : Outline) → shape_at ys r ≡ cond (same_outline o r) w (shape_at xs r)

-- the shape of o stands at i
abbrev pub IsAt : Outline → ℕ → List Shape → Type 0
IsAt o i xs = (i < length xs) × HoldsAt (λ s. outline_order s.outline o ≡ Equal) xs i

-- it stands nowhere, and is to be put in at i
abbrev pub IsGap : Outline → ℕ → List Shape → Type 0
IsGap o i xs =
    IsPartitionPoint (λ s. outline_order s.outline o ≡ Less) (λ s. outline_order s.outline o ≡ Greater) xs i

pub gap_in : (o : Outline) (xs : List Shape) (r : Result ℕ ℕ) (i : ℕ)
    → MatchResult r (HoldsAt (λ s. outline_order s.outline o ≡ Equal) xs) (λ j. IsGap o j xs) → r ≡ Err i → IsGap o i xs
gap_in o xs r i h e =
    subst (λ q. MatchResult q (HoldsAt (λ s. outline_order s.outline o ≡ Equal) xs) (λ j. IsGap o j xs)) e h

equal_is : (s o : Outline) → outline_order s o ≡ Equal → s ≡ o
equal_is s o e = outline_is s o (ap is_eq e)

pub missing : (o : Outline) (xs : List Shape) (i : ℕ) → IsGap o i xs → shape_at xs o ≡ None
missing o xs i p =
    ap (λ ys. shape_at ys o) (sym (take-append-drop i xs))
    ∙ none_there o o (take i xs) (drop i xs) (all_taken (λ x. outline_order x.outline o ≡ Less) xs i p.0)
    (all_left (λ x. outline_order x.outline o ≡ Greater) xs i p.1) (outline_self o)

pub inserted : (o : Outline) (xs : List Shape) (i : ℕ) (y : Shape) → AreInOrder xs → y.outline ≡ o
    → IsGap o i xs → Updates o (Some y) xs (insert xs i y)
inserted o xs i y s e p =
    let below = all_taken (λ x. outline_order x.outline o ≡ Less) xs i p.0 in
    let above = all_left (λ x. outline_order x.outline o ≡ Greater) xs i p.1 in
    record {
      in_order = in_order_with o (take i xs) y (drop i xs) e below above
          (subst AreInOrder (sym (take-append-drop i xs)) s);
      at = λ r.
          with_here o r (take i xs) y (drop i xs) e below
          ∙ ap (λ ys. cond (same_outline o r) (Some y) (shape_at ys r)) (take-append-drop i xs);
    }

pub found : (o : Outline) (xs : List Shape) (i : ℕ) (d : Shape) → AreInOrder xs → IsAt o i xs
    → shape_at xs o ≡ Some (slice_index_or xs i d)
found o xs i d s h =
    let y = slice_index_or xs i d in
    let e = equal_is y.outline o (h.1 d) in
    let parts = around o (take i xs) y (drop (suc i) xs) e (subst AreInOrder (split_at xs i d h.0) s) in
    ap (λ ys. shape_at ys o) (split_at xs i d h.0)
    ∙ with_here o o (take i xs) y (drop (suc i) xs) e parts.0
    ∙ ap (λ t. cond {A = Option Shape} t (Some y) (shape_at (take i xs ++ drop (suc i) xs) o)) (outline_self o)

over : (b : Bool) (w v z x : Option Shape) → x ≡ cond b v z → cond b w z ≡ cond b w x
over true w v z x e = refl
over false w v z x e = sym e

pub replaced : (o : Outline) (xs : List Shape) (i : ℕ) (y d : Shape) → AreInOrder xs → IsAt o i xs
    → y.outline ≡ (slice_index_or xs i d).outline
    → Updates o (Some y) xs (slice_set xs i y)
replaced o xs i y d s h same =
    let x = slice_index_or xs i d in
    let e = equal_is x.outline o (h.1 d) in
    let ordered = subst AreInOrder (split_at xs i d h.0) s in
    let parts = around o (take i xs) x (drop (suc i) xs) e ordered in
    subst (Updates o (Some y) xs) (sym (set_at xs i y h.0)) (record {
      in_order = in_order_with o (take i xs) y (drop (suc i) xs) (same ∙ e) parts.0 parts.1
          (in_order_without (take i xs) x (drop (suc i) xs) ordered);
      at = λ r.
          with_here o r (take i xs) y (drop (suc i) xs) (same ∙ e) parts.0
          ∙ over (same_outline o r) (Some y) (Some x) (shape_at (take i xs ++ drop (suc i) xs) r) (shape_at xs r)
          (ap (λ ys. shape_at ys r) (split_at xs i d h.0) ∙ with_here o r (take i xs) x (drop (suc i) xs) e parts.0);
    })

pub removed : (o : Outline) (xs : List Shape) (i : ℕ) (d : Shape) → AreInOrder xs → IsAt o i xs
    → Updates o None xs (remove xs i)
removed o xs i d s h =
    let x = slice_index_or xs i d in
    let e = equal_is x.outline o (h.1 d) in
    let ordered = subst AreInOrder (split_at xs i d h.0) s in
    let parts = around o (take i xs) x (drop (suc i) xs) e ordered in
    record {
      in_order = in_order_without (take i xs) x (drop (suc i) xs) ordered;
      at = λ r.
          gone (same_outline o r) (shape_at (take i xs ++ drop (suc i) xs) r)
          (none_there o r (take i xs) (drop (suc i) xs) parts.0 parts.1)
          ∙ over (same_outline o r) None (Some x) (shape_at (take i xs ++ drop (suc i) xs) r) (shape_at xs r)
          (ap (λ ys. shape_at ys r) (split_at xs i d h.0) ∙ with_here o r (take i xs) x (drop (suc i) xs) e parts.0);
    }
  where
    gone : (b : Bool) (z : Option Shape) → (b ≡ true → z ≡ None) → z ≡ cond b None z
    gone true z f = f refl
    gone false z f = refl
