-- Outlines that have the same value are one.
use Rattle.std.proofs.Common.{◌≡◌, ℕ, Bool, true, false, List, [], ◌∷◌, map, codes, refl, sym, ap, ◌∙◌}
use Rattle.pv_value.specs.Plain.{Plain, symbol, record_of}
use Rattle.std.specs.Cmp.{IsTotalOrder, on_total}
use Rattle.std.specs.declared.cmp.Ordering.TheVariants.{Equal}
use Rattle.pv_value.specs.Lemmas.OrderLaws.{order_total, order_same}
use Rattle.pv_words.specs.Words.{is_word}
use Rattle.dp_pattern.specs.declared.Extent.{Extent}
use Rattle.dp_pattern.specs.declared.Extent.TheVariants.{Open, Exactly}
use Rattle.dp_pattern.specs.declared.Group.{Group}
use Rattle.dp_pattern.specs.declared.Group.TheVariants.{InRecord, InSequence, InDictionary}
use Rattle.ds_shape.specs.Paths.{Step, Field, Item, Under}
use Rattle.ds_shape.specs.Outlines.{Kind, Any, Of, Test, Outline}
use Rattle.ds_shape.specs.Keys.{list_value, step_value, path_value, extent_value, group_value, kind_value}
use Rattle.ds_shape.specs.Keys.{test_value, outline_value, outline_order}
use Rattle.ds_shape.specs.Lemmas.Orders.{plains_same}

one_to_one : {A : Type 0} (f : A → Plain) → ((x y : A) → f x ≡ f y → x ≡ y) → (xs ys : List A) → map f xs ≡ map f ys
    → xs ≡ ys
one_to_one f h [] [] e = refl
one_to_one f h [] (y ∷ ys) e = cc
one_to_one f h (x ∷ xs) [] e = cc
one_to_one f h (x ∷ xs) (y ∷ ys) e =
    let first : f x ≡ f y = cc in
    let rest : map f xs ≡ map f ys = cc in
    λ i. h x y first i ∷ one_to_one f h xs ys rest i

lists_tell : {A : Type 0} (f : A → Plain) → ((x y : A) → f x ≡ f y → x ≡ y) → (xs ys : List A)
    → list_value (map f xs) ≡ list_value (map f ys) → xs ≡ ys
lists_tell f h xs ys e = one_to_one f h xs ys (plains_same (map f xs) (map f ys) e)

abbrev has_word : List ℕ → Plain → Bool
has_word word (record_of (symbol s) fs) = is_word s word
has_word word v = false

other_word : (word : List ℕ) (x y : Plain) → has_word word x ≡ true → has_word word y ≡ false → x ≡ y → ⊥
other_word word x y is isnt e =
    let both : true ≡ false = sym is ∙ ap (has_word word) e ∙ isnt in
    cc

step_tells : (s t : Step) → step_value s ≡ step_value t → s ≡ t
step_tells (Field x) (Field y) e = cc
step_tells (Field x) (Item y) e = absurd (other_word (codes "field") _ _ refl refl e)
step_tells (Field x) (Under y) e = absurd (other_word (codes "field") _ _ refl refl e)
step_tells (Item x) (Field y) e = absurd (other_word (codes "item") _ _ refl refl e)
step_tells (Item x) (Item y) e = cc
step_tells (Item x) (Under y) e = absurd (other_word (codes "item") _ _ refl refl e)
step_tells (Under x) (Field y) e = absurd (other_word (codes "under") _ _ refl refl e)
step_tells (Under x) (Item y) e = absurd (other_word (codes "under") _ _ refl refl e)
step_tells (Under x) (Under y) e = cc

path_tells : (p q : List Step) → path_value p ≡ path_value q → p ≡ q
path_tells = lists_tell step_value step_tells

extent_tells : (c d : Extent) → extent_value c ≡ extent_value d → c ≡ d
extent_tells Open Open e = refl
extent_tells Open (Exactly m) e = absurd cc
extent_tells (Exactly n) Open e = absurd cc
extent_tells (Exactly n) (Exactly m) e = cc

group_tells : (g h : Group) → group_value g ≡ group_value h → g ≡ h
group_tells (InRecord x c) (InRecord y d) e =
    let label : x ≡ y = cc in
    let extent : extent_value c ≡ extent_value d = cc in
    λ i. InRecord (label i) (extent_tells c d extent i)
group_tells (InRecord x d) (InSequence c) e = absurd (other_word (codes "rec") _ _ refl refl e)
group_tells (InRecord x d) InDictionary e = absurd (other_word (codes "rec") _ _ refl refl e)
group_tells (InSequence c) (InRecord y d) e = absurd (other_word (codes "arr") _ _ refl refl e)
group_tells (InSequence c) (InSequence d) e =
    let extent : extent_value c ≡ extent_value d = cc in
    ap InSequence (extent_tells c d extent)
group_tells (InSequence d) InDictionary e = absurd (other_word (codes "arr") _ _ refl refl e)
group_tells InDictionary (InRecord y d) e = absurd (other_word (codes "dict") _ _ refl refl e)
group_tells InDictionary (InSequence d) e = absurd (other_word (codes "dict") _ _ refl refl e)
group_tells InDictionary InDictionary e = refl

no_any : (g : Group) → has_word (codes "any") (group_value g) ≡ false
no_any (InRecord x d) = refl
no_any (InSequence d) = refl
no_any InDictionary = refl

kind_tells : (k l : Kind) → kind_value k ≡ kind_value l → k ≡ l
kind_tells Any Any e = refl
kind_tells Any (Of h) e = absurd (other_word (codes "any") _ _ refl (no_any h) e)
kind_tells (Of g) Any e = absurd (other_word (codes "any") _ _ refl (no_any g) (sym e))
kind_tells (Of g) (Of h) e = ap Of (group_tells g h e)

test_tells : (t u : Test) → test_value t ≡ test_value u → t ≡ u
test_tells t u e =
    let paths : path_value t.path ≡ path_value u.path = cc in
    let kinds : kind_value t.kind ≡ kind_value u.kind = cc in
    λ i. record { path = path_tells t.path u.path paths i; kind = kind_tells t.kind u.kind kinds i }

pub outline_tells : (o p : Outline) → outline_value o ≡ outline_value p → o ≡ p
outline_tells o p e =
    let tests : list_value (map test_value o.tests) ≡ list_value (map test_value p.tests) = cc in
    let constants : list_value (map path_value o.constants) ≡ list_value (map path_value p.constants) = cc in
    let captures : list_value (map path_value o.captures) ≡ list_value (map path_value p.captures) = cc in
    λ i. record {
      tests = lists_tell test_value test_tells o.tests p.tests tests i;
      constants = lists_tell path_value path_tells o.constants p.constants constants i;
      captures = lists_tell path_value path_tells o.captures p.captures captures i;
    }

pub outline_order_total : IsTotalOrder outline_order
outline_order_total = on_total outline_value order_total

pub outline_order_same : (o p : Outline) → outline_order o p ≡ Equal → o ≡ p
outline_order_same o p e = outline_tells o p (order_same (outline_value o) (outline_value p) e)
