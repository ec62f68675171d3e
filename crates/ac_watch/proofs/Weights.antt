-- What a watcher wants weighs more with the first row of a sequence, and less with the last.
use Rattle.std.proofs.Common.{◌≡◌, ℕ, ◌+◌, List, [], ◌∷◌, Bool, true, false, ◌&&◌, ◌||◌, refl, ap, sym, ◌∙◌, arith}
use Rattle.std.proofs.Common.{◌≤◌, ◌-◌, ◌^◌, min}
use Rattle.ds_space.specs.Limits.{most_wanted_weight}
use Rattle.std.specs.declared.cmp.Ordering.{Ordering}
use Rattle.std.specs.declared.cmp.Ordering.TheVariants.{Less, Equal, Greater}
use Rattle.std.specs.Ordering.{is_eq, match_ordering}
use Rattle.std.proofs.lemmas.Bool.{true≢false}
use Rattle.std.specs.List.{filter}
use Rattle.std.specs.BTreeSet.{insert_key}
use Rattle.std.proofs.lemmas.Map.Views.{any-filter_same}
use Rattle.pv_value.specs.Plain.{Plain, boolean, double, integer, string, byte_string, symbol, record_of, sequence}
use Rattle.pv_value.specs.Plain.{set_of, dictionary, embedded}
use Rattle.pv_value.specs.Order.{order}
use Rattle.pv_words.specs.Lemmas.Same.{same_is}
use Rattle.pv_words.specs.Parts.{same}
use Rattle.ds_space.specs.Changes.{among}
use Rattle.ds_space.specs.Lemmas.Lists.{unique, ascending_any, in_order}
use Rattle.ac_watch.specs.Watching.{made, is_sequence, sequences, weight_of_all, weight_of_made}
use Rattle.ac_watch.specs.Lemmas.Rows.{IsLonger}

among_filtered : (q : Plain) (vs : List Plain) → among q (filter is_sequence vs) ≡ (is_sequence q && among q vs)
among_filtered q vs =
    any-filter_same (same q) is_sequence (is_sequence q) (λ k e. ap is_sequence (sym (same_is q k e))) vs

among_sequences : (q : Plain) (vs : List Plain) → among q (sequences vs) ≡ (is_sequence q && among q vs)
among_sequences q vs = ascending_any (same q) (filter is_sequence vs) ∙ among_filtered q vs

-- of what is no sequence nothing is made
nothing_made : (name : List ℕ) (v : Plain) → is_sequence v ≡ false → weight_of_all (made name v) ≡ 0
nothing_made name (boolean b) e = refl
nothing_made name (double n) e = refl
nothing_made name (integer z) e = refl
nothing_made name (string s) e = refl
nothing_made name (byte_string s) e = refl
nothing_made name (symbol s) e = refl
nothing_made name (record_of l fs) e = refl
nothing_made name (sequence cs) e = absurd cc
nothing_made name (set_of xs) e = refl
nothing_made name (dictionary ps) e = refl
nothing_made name (embedded x) e = refl

-- the sum over a list that has one more
put_in : (name : List ℕ) (v : Plain) (cs : List Plain) → among v cs ≡ false
    → weight_of_made name (insert_key order cs v) ≡ weight_of_all (made name v) + weight_of_made name cs
put_in name v [] e = refl
put_in name v (x ∷ xs) e = by (order v x) e (put_in name v xs)
  where
    by : (o : Ordering) → (is_eq o || among v xs) ≡ false
        → (among v xs ≡ false
        → weight_of_made name (insert_key order xs v) ≡ weight_of_all (made name v) + weight_of_made name xs)
        → weight_of_made name (match_ordering o (v ∷ x ∷ xs) (x ∷ xs) (x ∷ insert_key order xs v))
        ≡ weight_of_all (made name v) + (weight_of_all (made name x) + weight_of_made name xs)
    by Less e f = refl
    by Equal e f = absurd cc
    by Greater e f = let rest = f e in omega (arith, rest)

module _ (name : List ℕ) (v : Plain) (less more : List Plain) (longer : IsLonger v less more) where
  -- a value that stands there, or is no sequence, is none of a new sequence
  same_sequences : (is_sequence v ≡ true → among v less ≡ true) → sequences more ≡ sequences less
  same_sequences none =
      unique (sequences more) (sequences less) (in_order (filter is_sequence more)) (in_order (filter is_sequence less))
      (λ q. among_sequences q more ∙ ap (λ b. is_sequence q && b) (longer (same q))
      ∙ by q (same q v) refl ∙ sym (among_sequences q less))
    where
      both : (a b : Bool) → (a ≡ true → b ≡ true) → (a && true) ≡ (a && b)
      both true b h = sym (h refl)
      both false b h = refl

      by : (q : Plain) (s : Bool) → same q v ≡ s
          → (is_sequence q && (s || among q less)) ≡ (is_sequence q && among q less)
      by q true s =
          both (is_sequence q) (among q less)
          (λ e. ap (λ z. among z less) (same_is q v s) ∙ none (ap is_sequence (sym (same_is q v s)) ∙ e))
      by q false s = refl

  one_sequence : is_sequence v ≡ true → sequences more ≡ insert_key order (sequences less) v
  one_sequence is =
      unique (sequences more) (insert_key order (sequences less) v) (in_order (filter is_sequence more))
      (in_order (v ∷ filter is_sequence less))
      (λ q. among_sequences q more ∙ ap (λ b. is_sequence q && b) (longer (same q))
      ∙ by q (same q v) refl ∙ sym (ascending_any (same q) (v ∷ filter is_sequence less)))
    where
      by : (q : Plain) (s : Bool) → same q v ≡ s
          → (is_sequence q && (s || among q less)) ≡ (same q v || among q (filter is_sequence less))
      by q true s =
          ap (λ b. b && true) (ap is_sequence (same_is q v s) ∙ is)
          ∙ ap (λ b. b || among q (filter is_sequence less)) (sym s)
      by q false s = sym (among_filtered q less) ∙ ap (λ b. b || among q (filter is_sequence less)) (sym s)

  pub standing_weight : among v less ≡ true
      → weight_of_made name (sequences more) ≡ weight_of_made name (sequences less)
  standing_weight stands = ap (weight_of_made name) (same_sequences (λ e. stands))

  pub new_weight : among v less ≡ false
      → weight_of_made name (sequences more) ≡ weight_of_all (made name v) + weight_of_made name (sequences less)
  new_weight new = by (is_sequence v) refl
    where
      by : (b : Bool) → is_sequence v ≡ b
          → weight_of_made name (sequences more) ≡ weight_of_all (made name v) + weight_of_made name (sequences less)
      by true is =
          ap (weight_of_made name) (one_sequence is)
          ∙ put_in name v (sequences less)
          (among_sequences v less ∙ ap (λ b. is_sequence v && b) new ∙ ap (λ b. b && false) is)
      by false is =
          let none : is_sequence v ≡ true → among v less ≡ true = λ e. absurd (true≢false (sym e ∙ is)) in
          let rest = ap (weight_of_made name) (same_sequences none) in
          let nothing = nothing_made name v is in
          omega (arith, rest, nothing)

-- ---- sums that end at the greatest 64-bit number

pub fitting : (w all : ℕ) → w ≡ all → w ≤ most_wanted_weight → min all (2 ^ 64 - 1) ≤ most_wanted_weight
fitting w all is fits = omega (arith, is, fits)

-- a sum that fits is whole
pub whole : (w part all after : ℕ) → after ≡ min (w + part) (2 ^ 64 - 1) → after ≤ most_wanted_weight → all ≡ part + w
    → after ≡ all
whole w part all after is fits sum = omega (arith, is, fits, sum)

pub summed : (w part all after : ℕ) → after ≡ min (w + part) (2 ^ 64 - 1) → all ≡ part + w
    → after ≡ min all (2 ^ 64 - 1)
summed w part all after is sum = omega (arith, is, sum)

pub part_fits : (w part rest : ℕ) → w ≡ part + rest → part ≤ w
part_fits w part rest is = omega (arith, is)

pub rest_is : (w part rest after : ℕ) → after ≡ w - part → w ≡ part + rest → after ≡ rest
rest_is w part rest after less is = omega (arith, less, is)

pub rest_fits : (w part after : ℕ) → after ≡ w - part → w ≤ most_wanted_weight → after ≤ most_wanted_weight
rest_fits w part after less fits = omega (arith, less, fits)
