-- Kept counts, and what is wanted, over lists with the same values.
use Rattle.std.proofs.Common.{◌≡◌, ℕ, zero, suc, ◌+◌, ◌-◌, ◌<◌, ◌≤◌, List, [], ◌∷◌, Bool, true, false, cond, ◌&&◌, ◌||◌}
use Rattle.std.proofs.Common.{ltb, not, Option, Some, None, refl, ap, sym, ◌∙◌, subst, arith, rules}
use Rattle.std.specs.List.{list_any}
use Rattle.std.specs.Option.{is_some, IsSome}
use Rattle.std.proofs.lemmas.Bool.{ltb-true, ltb-false, lt-ltb}
use Rattle.std.specs.BTreeMap as tree
use Rattle.std.specs.BTreeMap.{BTreeMap}
use Rattle.pv_value.specs.Plain.{Plain}
use Rattle.pv_value.specs.Order.{order}
use Rattle.pv_value.specs.declared.Entry.{Entry}
use Rattle.pv_words.specs.Lemmas.Same.{same_is, same_self}
use Rattle.pv_words.specs.Parts.{same}
use Rattle.ds_space.specs.Changes.{among}
use Rattle.ds_space.specs.Lemmas.Keys.{same_turns}
use Rattle.ds_skeleton.specs.Places.{catches, is_wanted, count}
use Rattle.ds_skeleton.specs.Leaves.{number, kept}
use Rattle.ds_skeleton.specs.Indexes.{only_in, AreCounts}
use Rattle.ds_skeleton.proofs.Counts.{any-count}
use Rattle.ds_skeleton.proofs.Kept.{any_keys, is_some-kept}
use Rattle.ds_skeleton.proofs.Leaves.{number-kept}
use Rattle.ds_skeleton.proofs.Truths.{any_at, or_true, same_truth, not_true, not_false}

any_into : (p : Plain → Bool) (us ws : List Plain) → ((x : Plain) → among x us ≡ true → among x ws ≡ true)
    → list_any p us ≡ true → list_any p ws ≡ true
any_into p [] ws h e = cc
any_into p (u ∷ us) ws h e = by (p u) refl e (any_into p us ws (λ x i. h x (or_true (same x u) (among x us) i)))
  where
    by : (b : Bool) → p u ≡ b → (b || list_any p us) ≡ true → (list_any p us ≡ true → list_any p ws ≡ true)
        → list_any p ws ≡ true
    by true is f i = any_at p u ws is (h u (ap (λ t. t || among u us) (same_self u)))
    by false is f i = i f

pub any_alike : (p : Plain → Bool) (us ws : List Plain) → ((x : Plain) → among x us ≡ among x ws) → list_any p us
    ≡ list_any p ws
any_alike p us ws h = same_truth (list_any p us) (list_any p ws) (any_into p us ws (λ x e. sym (h x) ∙ e))
    (any_into p ws us (λ x e. h x ∙ e))

pub wanted_alike : (us ws : List Plain) (o c : Plain) → ((x : Plain) → among x us ≡ among x ws) → is_wanted us o c
    ≡ is_wanted ws o c
wanted_alike us ws o c h = ap (λ t. t && list_any (catches o c) us) (h o) ∙ ap (λ t. among o ws && t)
    (any_alike (catches o c) us ws h)

pub only_in_alike : (us vs xs ys : List Plain) (q : Entry) → ((x : Plain) → among x us ≡ among x xs)
    → ((x : Plain) → among x vs ≡ among x ys) → only_in us vs q ≡ only_in xs ys q
only_in_alike us vs xs ys q h k = ap (λ t. t && not (is_wanted vs q.key q.value)) (wanted_alike us xs q.key q.value h)
    ∙ ap (λ t. is_wanted xs q.key q.value && not t) (wanted_alike vs ys q.key q.value k)

never_both : (b : Bool) → (b && not b) ≡ false
never_both true = refl
never_both false = refl

pub only_in-same : (us vs : List Plain) (q : Entry) → ((x : Plain) → among x us ≡ among x vs) → only_in us vs q ≡ false
only_in-same us vs q h = only_in_alike us vs vs vs q h (λ x. refl) ∙ never_both (is_wanted vs q.key q.value)

-- a value that is there comes once more
pub among_again : (v : Plain) (vs : List Plain) → among v vs ≡ true → (x : Plain) → among x (v ∷ vs) ≡ among x vs
among_again v vs e x = by (same x v) refl
  where
    by : (b : Bool) → same x v ≡ b → (b || among x vs) ≡ among x vs
    by true is = sym (subst (λ (z : Plain). among z vs ≡ true) (sym (same_is x v is)) e)
    by false is = refl

-- ---- counts

pub among_counts : (counts : BTreeMap Plain ℕ) (vs : List Plain) → AreCounts counts vs → (x : Plain) → among x
    (tree.keys counts) ≡ among x vs
among_counts counts vs h x = any_keys (same x) counts.entries ∙ ap is_some (h x) ∙ is_some-kept (count (same x) vs)
    ∙ sym (any-count (same x) vs)

pub number_counts : (counts : BTreeMap Plain ℕ) (vs : List Plain) → AreCounts counts vs → (x : Plain) → number
    (tree.get order counts x) ≡ count (same x) vs
number_counts counts vs h x = ap number (h x) ∙ number-kept (count (same x) vs)

one_more : (n m : ℕ) → m ≡ n + 1 → Some m ≡ kept (1 + n)
one_more n m e = let i : m ≡ suc n = omega arith in let j : suc n ≡ 1 + n = omega arith in ap Some i ∙ ap kept j

pub counted_in : (counts news : BTreeMap Plain ℕ) (v : Plain) (vs : List Plain) (m : ℕ) → AreCounts counts vs
    → ((q : Plain) → tree.get order news q ≡ cond (same v q) (Some m) (tree.get order counts q)) → m ≡ number
    (tree.get order counts v) + 1 → AreCounts news (v ∷ vs)
counted_in counts news v vs m h put is x = put x ∙ by (same v x) refl
  where
    none_more : (n : ℕ) → n ≡ 0 + n
    none_more n = omega arith

    by : (b : Bool) → same v x ≡ b → cond b (Some m) (tree.get order counts x) ≡ kept
        (cond (same x v) 1 0 + count (same x) vs)
    by true e = one_more (count (same x) vs) m
        (is ∙ ap (λ n. n + 1) (number_counts counts vs h v ∙ ap (λ z. count (same z) vs) (same_is v x e))) ∙ ap
        (λ b. kept (cond b 1 0 + count (same x) vs)) (sym (same_turns x v ∙ e))
    by false e = h x ∙ ap kept (none_more (count (same x) vs)) ∙ ap (λ b. kept (cond b 1 0 + count (same x) vs))
        (sym (same_turns x v ∙ e))

pub counted_out : (counts news : BTreeMap Plain ℕ) (v : Plain) (vs : List Plain) (w : Option ℕ) → AreCounts counts
    (v ∷ vs) → ((q : Plain) → tree.get order news q ≡ cond (same v q) w (tree.get order counts q)) → w ≡ kept
    (number (tree.get order counts v) - 1) → AreCounts news vs
counted_out counts news v vs w h put is x = put x ∙ by (same v x) refl
  where
    less : (n m : ℕ) → n ≡ 1 + m → n - 1 ≡ m
    less n m e = omega arith

    none_more : (n : ℕ) → 0 + n ≡ n
    none_more n = omega arith

    by : (b : Bool) → same v x ≡ b → cond b w (tree.get order counts x) ≡ kept (count (same x) vs)
    by true e = is ∙ ap kept (less (number (tree.get order counts v)) (count (same v) vs)
        (number_counts counts (v ∷ vs) h v ∙ ap (λ b. cond b 1 0 + count (same v) vs) (same_self v))) ∙ ap
        (λ z. kept (count (same z) vs)) (same_is v x e)
    by false e = h x ∙ ap (λ b. kept (cond b 1 0 + count (same x) vs)) (same_turns x v ∙ e) ∙ ap kept
        (none_more (count (same x) vs))

pub among_from_count : (v : Plain) (vs : List Plain) → 0 < count (same v) vs → among v vs ≡ true
among_from_count v vs h = any-count (same v) vs ∙ lt-ltb 0 (count (same v) vs) h

pub counts_alike : (counts : BTreeMap Plain ℕ) (us vs : List Plain) → ((f : Plain → Bool) → count f us ≡ count f vs)
    → AreCounts counts us → AreCounts counts vs
counts_alike counts us vs h a x = a x ∙ ap kept (h (same x))

pub among_by_count : (us vs : List Plain) → ((f : Plain → Bool) → count f us ≡ count f vs) → (x : Plain) → among x us
    ≡ among x vs
among_by_count us vs h x = any-count (same x) us ∙ ap (ltb 0) (h (same x)) ∙ sym (any-count (same x) vs)

pub kept_less : (k : ℕ) → 1 < k → Some (k - 1) ≡ kept (k - 1)
kept_less k h = by (k - 1) (omega arith)
  where
    by : (n : ℕ) → 0 < n → Some n ≡ kept n
    by zero l = absurd (omega arith)
    by (suc n) l = refl

pub none_kept : (k : ℕ) → k ≤ 1 → None ≡ kept (k - 1)
none_kept k h = let e : 0 ≡ k - 1 = omega arith in ap kept e

pub none_number : (x : Option ℕ) → is_some x ≡ false → 1 ≡ number x + 1
none_number None e = refl
none_number (Some n) e = cc

pub among_found : (counts : BTreeMap Plain ℕ) (v : Plain) (vs : List Plain) → AreCounts counts vs → is_some
    (tree.get order counts v) ≡ true → among v vs ≡ true
among_found counts v vs h e = any-count (same v) vs ∙ sym (is_some-kept (count (same v) vs)) ∙ sym (ap is_some (h v))
    ∙ e

pub some_by : {X : Type 0} (o : Option X) → is_some o ≡ true → IsSome o
some_by None e = absurd (clash e)
  where
    clash : false ≡ true → ⊥
    clash e = cc
some_by (Some x) e = search rules

pub at_most_one : (n : ℕ) → not (ltb 1 n) ≡ true → n ≤ 1
at_most_one n e = ltb-false 1 n (not_true (ltb 1 n) e)

pub more_than_one : (n : ℕ) → not (ltb 1 n) ≡ false → 1 < n
more_than_one n e = ltb-true 1 n (not_false (ltb 1 n) e)
