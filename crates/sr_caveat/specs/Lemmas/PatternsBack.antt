-- A pattern that was read is written by the value that it was read from.
use Rattle.std.proofs.Common.{◌≡◌, ℕ, List, [], ◌∷◌, Option, Some, None, option_map, refl, sym, ap}
use Rattle.std.specs.Prelude.{codes}
use Rattle.pv_value.specs.Plain.{Plain, symbol, record_of, sequence, dictionary, Plains, no_more, then_more}
use Rattle.pv_value.specs.Plain.{PlainPairs, no_pairs, then_pair}
use Rattle.pv_words.specs.declared.kinds.AtomKind.TheVariants.{Boolean, Double, SignedInteger, String, ByteString}
use Rattle.pv_words.specs.declared.kinds.AtomKind.TheVariants.{Symbol}
use Rattle.pv_words.specs.Words.{labelled}
use Rattle.sr_caveat.specs.Patterns.{Kind, Atom, Embedded}
use Rattle.sr_caveat.specs.Patterns.{Pattern, discard, of_kind, bind, all_of, none_of, literal, record_with}
use Rattle.sr_caveat.specs.Patterns.{sequence_with, dictionary_with, Patterns}
use Rattle.sr_caveat.specs.Spelled.{kind_name, paired_with, pattern_value, pattern_values}
use Rattle.sr_caveat.specs.Written.{kind_named, keys_in, keys_of_value, short_pattern, record_pattern}
use Rattle.sr_caveat.specs.Written.{with_pattern, pattern_of, patterns_of, patterns_in, patterns_under_keys}
use Rattle.sr_caveat.specs.Written.{patterns_in_pairs}
use Rattle.pv_words.specs.Lemmas.Found.{If, if_map, if_word}

abbrev Named : List ℕ → Kind → Type 0
Named s k = kind_name k ≡ s

kind_back : (s : List ℕ) → If (kind_named s) (Named s)
kind_back s =
    if_word (Named s) s (codes "Boolean") (Some (Atom Boolean)) _ (λ e. sym e)
    (if_word (Named s) s (codes "Double") (Some (Atom Double)) _ (λ e. sym e)
    (if_word (Named s) s (codes "SignedInteger") (Some (Atom SignedInteger)) _ (λ e. sym e)
    (if_word (Named s) s (codes "String") (Some (Atom String)) _ (λ e. sym e)
    (if_word (Named s) s (codes "ByteString") (Some (Atom ByteString)) _ (λ e. sym e)
    (if_word (Named s) s (codes "Symbol") (Some (Atom Symbol)) _ (λ e. sym e)
    (if_word (Named s) s (codes "Embedded") (Some Embedded) None (λ e. sym e) tt))))))

abbrev Writes : Plain → Pattern → Type 0
Writes v p = pattern_value p ≡ v

abbrev ListWrites : Plain → Patterns → Type 0
ListWrites x ps = sequence (pattern_values ps) ≡ x

abbrev KeyedWrites : Plain → Patterns → Type 0
KeyedWrites x ps = dictionary (paired_with (keys_of_value x) (pattern_values ps)) ≡ x

short_back : (s : List ℕ) (x : Plain) (p : Option Pattern) (ps qs : Option Patterns) → If p (Writes x)
    → If ps (ListWrites x) → If qs (KeyedWrites x)
    → If (short_pattern s x p ps qs) (Writes (labelled s (x ∷ [])))
short_back s x p ps qs h k l =
    if_word (Writes (labelled s (x ∷ []))) s (codes "bind") (option_map bind p) _
    (λ e. if_map bind (Writes x) (Writes (labelled s (x ∷ []))) p (λ a f. λ i. labelled (sym e i) (f i ∷ [])) h)
    (if_word (Writes (labelled s (x ∷ []))) s (codes "and") (option_map all_of ps) _
    (λ e. if_map all_of (ListWrites x) (Writes (labelled s (x ∷ []))) ps (λ a f. λ i. labelled (sym e i) (f i ∷ [])) k)
    (if_word (Writes (labelled s (x ∷ []))) s (codes "not") (option_map none_of p) _
    (λ e. if_map none_of (Writes x) (Writes (labelled s (x ∷ []))) p (λ a f. λ i. labelled (sym e i) (f i ∷ [])) h)
    (if_word (Writes (labelled s (x ∷ []))) s (codes "lit") (Some (literal x)) _ (λ e. λ i. labelled (sym e i) (x ∷ []))
    (if_word (Writes (labelled s (x ∷ []))) s (codes "arr") (option_map sequence_with ps) _
    (λ e. if_map sequence_with (ListWrites x) (Writes (labelled s (x ∷ []))) ps
    (λ a f. λ i. labelled (sym e i) (f i ∷ [])) k)
    (if_word (Writes (labelled s (x ∷ []))) s (codes "dict") (option_map (dictionary_with (keys_of_value x)) qs) None
    (λ e. if_map (dictionary_with (keys_of_value x)) (KeyedWrites x) (Writes (labelled s (x ∷ []))) qs
    (λ a f. λ i. labelled (sym e i) (f i ∷ [])) l) tt)))))

record_back : (s : List ℕ) (label x : Plain) (ps : Option Patterns) → If ps (ListWrites x)
    → If (record_pattern s label ps) (Writes (labelled s (label ∷ x ∷ [])))
record_back s label x ps h =
    if_word (Writes (labelled s (label ∷ x ∷ []))) s (codes "rec") (option_map (record_with label) ps) None
    (λ e. if_map (record_with label) (ListWrites x) (Writes (labelled s (label ∷ x ∷ []))) ps
    (λ a f. λ i. labelled (sym e i) (label ∷ f i ∷ [])) h) tt

with_back : (x : Plain) (xs : Plains) (p : Option Pattern) (ps : Option Patterns) → If p (Writes x)
    → If ps (λ qs. pattern_values qs ≡ xs) → If (with_pattern p ps) (λ qs. pattern_values qs ≡ then_more x xs)
with_back x xs None ps h k = tt
with_back x xs (Some p) None h k = tt
with_back x xs (Some p) (Some ps) h k = λ i. then_more (h i) (k i)

with_keyed_back : (k x : Plain) (rs : PlainPairs) (p : Option Pattern) (ps : Option Patterns) → If p (Writes x)
    → If ps (λ qs. paired_with (keys_in rs) (pattern_values qs) ≡ rs)
    → If (with_pattern p ps) (λ qs. paired_with (then_more k (keys_in rs)) (pattern_values qs) ≡ then_pair k x rs)
with_keyed_back k x rs None ps h l = tt
with_keyed_back k x rs (Some p) None h l = tt
with_keyed_back k x rs (Some p) (Some ps) h l = λ i. then_pair k (h i) (l i)

mutual
  pub pattern_back : (v : Plain) → If (pattern_of v) (Writes v)
  pattern_back (symbol s) = if_map of_kind (Named s) (Writes (symbol s)) (kind_named s) (λ k e. ap symbol e)
      (kind_back s)
  pattern_back (record_of (symbol s) no_more) =
      if_word (Writes (labelled s [])) s (codes "_") (Some discard) None (λ e. λ i. labelled (sym e i) []) tt
  pattern_back (record_of (symbol s) (then_more x no_more)) =
      short_back s x (pattern_of x) (patterns_of x) (patterns_under_keys x) (pattern_back x) (list_back x)
      (keyed_back x)
  pattern_back (record_of (symbol s) (then_more label (then_more x no_more))) =
      record_back s label x (patterns_of x) (list_back x)
  pattern_back v = tt

  list_back : (x : Plain) → If (patterns_of x) (ListWrites x)
  list_back (sequence xs) = if_ok (patterns_in xs) (each_back xs)
    where
      if_ok : (o : Option Patterns) → If o (λ qs. pattern_values qs ≡ xs) → If o (ListWrites (sequence xs))
      if_ok None h = tt
      if_ok (Some ps) h = ap sequence h
  list_back v = tt

  each_back : (xs : Plains) → If (patterns_in xs) (λ qs. pattern_values qs ≡ xs)
  each_back no_more = refl
  each_back (then_more x xs) = with_back x xs (pattern_of x) (patterns_in xs) (pattern_back x) (each_back xs)

  keyed_back : (x : Plain) → If (patterns_under_keys x) (KeyedWrites x)
  keyed_back (dictionary ps) = if_ok (patterns_in_pairs ps) (pairs_back ps)
    where
      if_ok : (o : Option Patterns) → If o (λ qs. paired_with (keys_in ps) (pattern_values qs) ≡ ps)
          → If o (KeyedWrites (dictionary ps))
      if_ok None h = tt
      if_ok (Some qs) h = ap dictionary h
  keyed_back v = tt

  pairs_back : (ps : PlainPairs) → If (patterns_in_pairs ps) (λ qs. paired_with (keys_in ps) (pattern_values qs) ≡ ps)
  pairs_back no_pairs = refl
  pairs_back (then_pair k v ps) =
      with_keyed_back k v ps (pattern_of v) (patterns_in_pairs ps) (pattern_back v) (pairs_back ps)
