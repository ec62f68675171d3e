-- What a value's parts at an outline say of constants and captures.
use Rattle.std.proofs.Common.{◌≡◌, ℕ, ◌+◌, ◌-◌, Bool, true, false, cond, ◌&&◌, ◌||◌, not}
use Rattle.std.proofs.Common.{Option, Some, None, is_some, refl, ap, sym, ◌∙◌, arith}
use Rattle.std.specs.List.{list_all}
use Rattle.std.specs.BTreeMap.{BTreeMap}
use Rattle.pv_value.specs.Plain.{Plain}
use Rattle.pv_value.specs.declared.Entry.{Entry}
use Rattle.pv_words.specs.Parts.{same}
use Rattle.ds_shape.specs.Paths.{sequence_at}
use Rattle.ds_shape.specs.Outlines.{Outline, passes}
use Rattle.pv_words.specs.Lemmas.Same.{same_is}
use Rattle.ds_skeleton.specs.Places.{Parts, stand, stands, constants_in, found, is_found}
use Rattle.ds_skeleton.specs.Leaves.{Leaf, leaf_at, has_leaf_at}
use Rattle.ds_skeleton.specs.Shapes.{at_leaf}
use Rattle.ds_skeleton.specs.Indexes.{touched_in, touched_by, met_in, met_by}

pub at_parts : (s : Outline) (v : Plain) (parts : Parts) → stand s v ≡ Some parts → (k c : Plain)
    → (same parts.constants k && same parts.captures c) ≡ stands s k c v
at_parts s v parts is k c = ap (λ f. is_found f k c) (sym is)

none_more : (n : ℕ) → n ≡ n + 0
none_more n = omega arith

none_less : (n : ℕ) → n ≡ n - 0
none_less n = omega arith

-- ---- where a leaf stands

pub stand_found : (s : Outline) (v : Plain) → stand s v ≡ found (constants_in s v) (sequence_at s.captures v)
unfolding stand
stand_found s v = by (list_all (passes v) s.tests)
  where
    by : (b : Bool) → cond {A = Option Parts} b (found (sequence_at s.constants v) (sequence_at s.captures v)) None
        ≡ found (cond {A = Option Plain} b (sequence_at s.constants v) None) (sequence_at s.captures v)
    by true = refl
    by false = refl

pub leaf_stands : (leaves : BTreeMap Plain Leaf) (s : Outline) (v k : Plain) → constants_in s v ≡ Some k
    → has_leaf_at leaves k ≡ true → found (Some k) (sequence_at s.captures v) ≡ at_leaf leaves (stand s v)
leaf_stands leaves s v k is h =
    by (sequence_at s.captures v)
    ∙ ap (λ o. at_leaf leaves (found o (sequence_at s.captures v))) (sym is) ∙ ap (at_leaf leaves) (sym (stand_found s v))
  where
    by : (c : Option Plain) → found (Some k) c ≡ at_leaf leaves (found (Some k) c)
    by None = refl
    by (Some c) =
        ap (λ b. cond {A = Option Parts} b (Some (record { constants = k; captures = c })) None) (sym h)

pub no_leaf_stands : (leaves : BTreeMap Plain Leaf) (s : Outline) (v k : Plain) → constants_in s v ≡ Some k
    → has_leaf_at leaves k ≡ false → None ≡ at_leaf leaves (stand s v)
no_leaf_stands leaves s v k is h =
    by (sequence_at s.captures v)
    ∙ ap (λ o. at_leaf leaves (found o (sequence_at s.captures v))) (sym is) ∙ ap (at_leaf leaves) (sym (stand_found s v))
  where
    by : (c : Option Plain) → None ≡ at_leaf leaves (found (Some k) c)
    by None = refl
    by (Some c) =
        ap (λ b. cond {A = Option Parts} b (Some (record { constants = k; captures = c })) None) (sym h)

pub no_constants : (leaves : BTreeMap Plain Leaf) (s : Outline) (v : Plain) → constants_in s v ≡ None
    → None ≡ at_leaf leaves (stand s v)
no_constants leaves s v is =
    ap (λ o. at_leaf leaves (found o (sequence_at s.captures v))) (sym is) ∙ ap (at_leaf leaves) (sym (stand_found s v))

is_there : (b : Bool) (e f : Parts) → cond {A = Option Parts} b (Some e) None ≡ Some f → Some e ≡ Some f
is_there true e f h = h
is_there false e f h = cc

isnt_there : (b : Bool) (e : Parts) → cond {A = Option Parts} b (Some e) None ≡ None → b ≡ false
isnt_there true e h = cc
isnt_there false e h = refl

pub found_at : (leaves : BTreeMap Plain Leaf) (o : Option Parts) (e : Parts) → at_leaf leaves o ≡ Some e → o ≡ Some e
found_at leaves None e h = h
found_at leaves (Some d) e h = is_there (has_leaf_at leaves d.constants) d e h

and_false : (b : Bool) → (b && false) ≡ false
and_false true = refl
and_false false = refl

-- nothing is counted where no leaf stands for the value
none_at : (leaves : BTreeMap Plain Leaf) (o : Option Parts) → at_leaf leaves o ≡ None → (k c : Plain)
    → (has_leaf_at leaves k && is_found o k c) ≡ false
none_at leaves None none k c = and_false (has_leaf_at leaves k)
none_at leaves (Some e) none k c = by (same e.constants k) refl
  where
    by : (b : Bool) → same e.constants k ≡ b → (has_leaf_at leaves k && (b && same e.captures c)) ≡ false
    by true is =
        ap (λ h. h && same e.captures c)
        (ap (has_leaf_at leaves) (sym (same_is e.constants k is))
        ∙ isnt_there (has_leaf_at leaves e.constants) e none)
    by false is = and_false (has_leaf_at leaves k)

pub none_more_at : (leaves : BTreeMap Plain Leaf) (o : Option Parts) → at_leaf leaves o ≡ None → (k c : Plain) (n : ℕ)
    → n ≡ n + cond (has_leaf_at leaves k && is_found o k c) 1 0
none_more_at leaves o none k c n = none_more n ∙ ap (λ b. n + cond b 1 0) (sym (none_at leaves o none k c))

pub none_less_at : (leaves : BTreeMap Plain Leaf) (o : Option Parts) → at_leaf leaves o ≡ None → (k c : Plain) (n : ℕ)
    → n ≡ n - cond (has_leaf_at leaves k && is_found o k c) 1 0
none_less_at leaves o none k c n = none_less n ∙ ap (λ b. n - cond b 1 0) (sym (none_at leaves o none k c))

-- and no key comes or goes with it, nor does a message go to anybody
pub touched_at : (leaves : BTreeMap Plain Leaf) (o : Option Parts) (q : Entry)
    → touched_by leaves (at_leaf leaves o) q ≡ touched_by leaves o q
touched_at leaves None q = refl
touched_at leaves (Some e) q = by (leaf_at leaves e.constants) refl
  where
    by : (l : Option Leaf) → leaf_at leaves e.constants ≡ l
        → touched_by leaves (cond {A = Option Parts} (is_some l) (Some e) None) q ≡ touched_in l e.captures q
    by None is = refl
    by (Some l) is = ap (λ x. touched_in x e.captures q) is

pub met_at : (leaves : BTreeMap Plain Leaf) (o : Option Parts) (q : Entry)
    → met_by leaves (at_leaf leaves o) q ≡ met_by leaves o q
met_at leaves None q = refl
met_at leaves (Some e) q = by (leaf_at leaves e.constants) refl
  where
    by : (l : Option Leaf) → leaf_at leaves e.constants ≡ l
        → met_by leaves (cond {A = Option Parts} (is_some l) (Some e) None) q ≡ met_in l e.captures q
    by None is = sym (and_false (same e.captures q.value))
    by (Some l) is = ap (λ x. met_in x e.captures q) is

-- ---- no parts

pub no_parts_more : (s : Outline) (v : Plain) → stand s v ≡ None → (b : Bool) (k c : Plain) (n : ℕ)
    → n ≡ n + cond (b && stands s k c v) 1 0
no_parts_more s v is true k c n = none_more n ∙ ap (λ f. n + cond (is_found f k c) 1 0) (sym is)
no_parts_more s v is false k c n = none_more n

-- ---- one observation more

pub or_there : (b h : Bool) → (b ≡ true → h ≡ true) → h ≡ (b || h)
or_there true h e = e refl
or_there false h e = refl

pub counted_there : (b h : Bool) (n x : ℕ) → (b ≡ true → h ≡ true) → x ≡ cond (b && not h) n x
counted_there true h n x e = sym (ap (λ t. cond {A = ℕ} (not t) n x) (e refl))
counted_there false h n x e = refl

pub counted_new : (b h : Bool) (n m x y z : ℕ) → (b ≡ true → h ≡ false) → (b ≡ true → m ≡ n)
    → y ≡ cond b m z → z ≡ x → y ≡ cond (b && not h) n x
counted_new true h n m x y z e f g i = g ∙ f refl ∙ sym (ap (λ t. cond {A = ℕ} (not t) n x) (e refl))
counted_new false h n m x y z e f g i = g ∙ i
