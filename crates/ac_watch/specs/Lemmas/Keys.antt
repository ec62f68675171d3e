-- The keys that a watcher wants.
use Rattle.std.proofs.Common.{◌≡◌, ◌<◌, ◌+◌, ℕ, List, [], ◌∷◌, Bool, true, false, cond, ◌||◌, refl, ap, sym, ◌∙◌, arith}
use Rattle.std.specs.Prelude.{pos, nat_lt}
use Rattle.std.specs.declared.cmp.Ordering.TheVariants.{Less, Equal, Greater}
use Rattle.std.specs.Ordering.{int_cmp, ordering_then}
use Rattle.std.specs.List.{list_any, flat_map, AllByRecursion}
use Rattle.std.specs.List.Sorted.{IsStrictlySortedBy}
use Rattle.std.proofs.lemmas.Bool.{lt-ltb}
use Rattle.std.proofs.lemmas.Cmp.{tied_itself}
use Rattle.pv_value.specs.Plain.{Plain, sequence, then_more}
use Rattle.pv_value.specs.Order.{order}
use Rattle.pv_value.specs.WellFormed.{Ascend}
use Rattle.pv_value.specs.Lemmas.OrderLaws.{order_total}
use Rattle.pv_words.specs.Lemmas.Same.{same_is, same_self}
use Rattle.pv_words.specs.Parts.{same}
use Rattle.ds_space.specs.Changes.{among}
use Rattle.ds_space.specs.Lemmas.Keys.{any_flat}
use Rattle.ds_space.specs.Lemmas.Lists.{ascending_any, in_order}
use Rattle.ac_watch.specs.Watching.{made, key_at, keys_from, keys_over, watcher_keys}

-- a key is wanted over the values where it is wanted over one
pub among_keys : (q : Plain) (name : List ℕ) (vs : List Plain) → among q (watcher_keys name vs)
    ≡ list_any (λ v. among q (keys_over name v)) vs
among_keys q name vs = ascending_any (same q) (flat_map (keys_over name) vs) ∙ any_flat (same q) (keys_over name) vs

pub keys_ascend : (name : List ℕ) (vs : List Plain) → Ascend (watcher_keys name vs)
keys_ascend name vs = in_order (flat_map (keys_over name) vs)

-- ---- the keys of one sequence

places_in_order : (c : Plain) (i j : ℕ) → i < j → order (key_at c i) (key_at c j) ≡ Less
places_in_order c i j h =
    ap (λ o. ordering_then o (ordering_then (int_cmp (pos i) (pos j)) Equal)) (tied_itself order_total c)
    ∙ ap (λ b. ordering_then (cond b Less (cond (nat_lt j i) Greater Equal)) Equal) (lt-ltb i j h)

all_later : (c : Plain) (i j : ℕ) (vs : List Plain) → i < j
    → AllByRecursion (λ z. order (key_at c i) z ≡ Less) (keys_from c j vs)
all_later c i j [] h = tt
all_later c i j (v ∷ vs) h = (places_in_order c i j h, all_later c i (j + 1) vs (omega arith))

from_ascends : (c : Plain) (i : ℕ) (vs : List Plain) → Ascend (keys_from c i vs)
unfolding IsStrictlySortedBy
from_ascends c i [] = tt
from_ascends c i (v ∷ vs) = (all_later c i (i + 1) vs (omega arith), from_ascends c (i + 1) vs)

pub over_ascends : (name : List ℕ) (c : Plain) → Ascend (keys_over name c)
over_ascends name c = from_ascends c 0 (made name c)

-- ---- keys of two sequences differ

-- what a key begins with
abbrev begun : Plain → Plain
begun (sequence (then_more c xs)) = c
begun v = v

key_begins : (q c : Plain) (i : ℕ) (vs : List Plain) → among q (keys_from c i vs) ≡ true → begun q ≡ c
key_begins q c i [] e = absurd cc
key_begins q c i (v ∷ vs) e = by (same q (key_at c i)) refl e (key_begins q c (i + 1) vs)
  where
    by : (b : Bool) → same q (key_at c i) ≡ b → (b || among q (keys_from c (i + 1) vs)) ≡ true
        → (among q (keys_from c (i + 1) vs) ≡ true → begun q ≡ c) → begun q ≡ c
    by true s e f = ap begun (same_is q (key_at c i) s)
    by false s e f = f e

-- a key of a value that stands is wanted
pub standing_key : (name : List ℕ) (q v : Plain) (vs : List Plain) → among v vs ≡ true → among q (keys_over name v) ≡ true
    → list_any (λ w. among q (keys_over name w)) vs ≡ true
standing_key name q v [] e k = absurd cc
standing_key name q v (w ∷ ws) e k = by (same v w) refl e (λ e. standing_key name q v ws e k)
  where
    or_true : (b : Bool) → (b || true) ≡ true
    or_true true = refl
    or_true false = refl

    by : (b : Bool) → same v w ≡ b → (b || among v ws) ≡ true
        → (among v ws ≡ true → list_any (λ w. among q (keys_over name w)) ws ≡ true)
        → (among q (keys_over name w) || list_any (λ w. among q (keys_over name w)) ws) ≡ true
    by true s e f =
        ap (λ b. b || list_any (λ w. among q (keys_over name w)) ws)
        (ap (λ z. among q (keys_over name z)) (sym (same_is v w s)) ∙ k)
    by false s e f = ap (λ b. among q (keys_over name w) || b) (f e) ∙ or_true (among q (keys_over name w))

-- and one of a value that doesn't is not
pub new_key : (name : List ℕ) (q v : Plain) (vs : List Plain) → among v vs ≡ false → among q (keys_over name v) ≡ true
    → list_any (λ w. among q (keys_over name w)) vs ≡ false
new_key name q v [] e k = refl
new_key name q v (w ∷ ws) e k =
    by (same v w) refl (among q (keys_over name w)) refl e (λ e. new_key name q v ws e k)
  where
    by : (s : Bool) → same v w ≡ s → (b : Bool) → among q (keys_over name w) ≡ b → (s || among v ws) ≡ false
        → (among v ws ≡ false → list_any (λ w. among q (keys_over name w)) ws ≡ false)
        → (b || list_any (λ w. among q (keys_over name w)) ws) ≡ false
    by true s b h e f = absurd cc
    by false s true h e f =
        let one : v ≡ w = sym (key_begins q v 0 (made name v) k) ∙ key_begins q w 0 (made name w) h in
        let clash : true ≡ false = sym (same_self v) ∙ ap (same v) one ∙ s in
        absurd cc
    by false s false h e f = f e
