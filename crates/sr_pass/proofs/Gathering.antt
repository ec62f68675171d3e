-- What is gathered of a value that matches is what is bound, and as many values as the pattern binds.
use Rattle.std.proofs.Common.{◌≡◌, ℕ, ◌+◌, List, [], ◌∷◌, ◌++◌, length, length-append, Bool, true, false}
use Rattle.std.proofs.Common.{Option, Some, None}
use Rattle.std.proofs.Common.{is_some, option_map, option_and_then, unwrap_or, refl, sym, ap, ◌∙◌, arith}
use Rattle.pv_value.specs.Plain.{Plain, Plains, no_more, then_more, PlainPairs}
use Rattle.pv_words.specs.Lemmas.Found.{If, if_map, if_both, found_is, counted_is}
use Rattle.pv_words.specs.Parts.{same, value_under}
use Rattle.sr_caveat.specs.Patterns.{Pattern, discard, of_kind, bind, all_of, none_of, literal, record_with}
use Rattle.sr_caveat.specs.Patterns.{sequence_with, dictionary_with, Patterns, no_patterns, then_pattern}
use Rattle.sr_caveat.specs.Written.{binds, all_binds}
use Rattle.sr_pass.specs.Binding.{is_kind, fields_of, items_of, pairs_of, with_value, under_keys, where_true}
use Rattle.sr_pass.specs.Binding.{where_none, bound, all_bound, each_bound}
use Rattle.sr_pass.specs.Gathered.{gathered, all_gathered, each_gathered, gathered_under}
use Rattle.sr_pass.specs.Laws.{BindingsAreBinds}

if_true : (Q : List Plain → Type 0) (b : Bool) → Q [] → If (where_true b) Q
if_true Q true h = h
if_true Q false h = tt

if_none : (Q : List Plain → Type 0) (o : Option (List Plain)) → Q [] → If (where_none o) Q
if_none Q None h = h
if_none Q (Some bs) h = tt

-- where there is something to look at
if_there : {A : Type 0} (f : A → Option (List Plain)) (g : A → List Plain) (o : Option A)
    → ((x : A) → If (f x) (λ bs. bs ≡ g x))
    → If (option_and_then f o) (λ bs. bs ≡ unwrap_or (option_map g o) [])
if_there f g None h = tt
if_there f g (Some x) h = h x

if_under : (f : Plains → Option (List Plain)) (ks : Plains) (g : PlainPairs → List Plain) (o : Option PlainPairs)
    → ((qs : PlainPairs) → If (option_and_then f (under_keys ks qs)) (λ bs. bs ≡ g qs))
    → If (option_and_then f (option_and_then (under_keys ks) o)) (λ bs. bs ≡ unwrap_or (option_map g o) [])
if_under f ks g None h = tt
if_under f ks g (Some qs) h = h qs

if_later : (p : Pattern) (ps : Patterns) (P : Plain → List Plain → Type 0) (Q R : List Plain → Type 0)
    (o : Option Plain) (r : Option Plains)
    → ((x : Plain) → If (bound p x) (P x)) → If (option_and_then (each_bound ps) r) Q
    → ((x : Plain) (ds es : List Plain) → o ≡ Some x → P x ds → Q es → R (ds ++ es))
    → If (option_and_then (each_bound (then_pattern p ps)) (with_value o r)) R
if_later p ps P Q R None r a b f = tt
if_later p ps P Q R (Some x) None a b f = tt
if_later p ps P Q R (Some x) (Some xs) a b f =
    if_both (P x) Q R (bound p x) (each_bound ps xs) (λ ds es c d. f x ds es refl c d) (a x) b

if_more : (R : List Plain → Type 0) (o : Option Plain) (r : Option Plains)
    → If (option_and_then (each_bound no_patterns) (with_value o r)) R
if_more R None r = tt
if_more R (Some x) None = tt
if_more R (Some x) (Some xs) = tt

-- ---- what is gathered

joined : (p : Pattern) (o : Option Plain) (x : Plain) (ds es gs : List Plain) → o ≡ Some x → ds ≡ gathered p x → es ≡ gs
    → ds ++ es ≡ unwrap_or (option_map (gathered p) o) [] ++ gs
joined p None x ds es gs is a b = absurd cc
joined p (Some y) x ds es gs is a b = let f : y ≡ x = cc in λ i. (a ∙ sym (ap (gathered p) f)) i ++ b i

mutual
  bound_gathered : (p : Pattern) (v : Plain) → If (bound p v) (λ bs. bs ≡ gathered p v)
  bound_gathered discard v = refl
  bound_gathered (of_kind k) v = if_true (λ bs. bs ≡ []) (is_kind k v) refl
  bound_gathered (bind p) v =
      if_map (λ ds. v ∷ ds) (λ bs. bs ≡ gathered p v) (λ bs. bs ≡ v ∷ gathered p v) (bound p v)
      (λ ds e. ap (λ xs. v ∷ xs) e) (bound_gathered p v)
  bound_gathered (all_of ps) v = all_are_gathered ps v
  bound_gathered (none_of p) v = if_none (λ bs. bs ≡ []) (bound p v) refl
  bound_gathered (literal u) v = if_true (λ bs. bs ≡ []) (same u v) refl
  bound_gathered (record_with l ps) v =
      if_there (each_bound ps) (each_gathered ps) (fields_of l v) (λ xs. each_is_gathered ps xs)
  bound_gathered (sequence_with ps) v =
      if_there (each_bound ps) (each_gathered ps) (items_of v) (λ xs. each_is_gathered ps xs)
  bound_gathered (dictionary_with ks ps) v =
      if_under (each_bound ps) ks (gathered_under ps ks) (pairs_of v) (λ qs. under_is_gathered ps ks qs)

  all_are_gathered : (ps : Patterns) (v : Plain) → If (all_bound ps v) (λ bs. bs ≡ all_gathered ps v)
  all_are_gathered no_patterns v = refl
  all_are_gathered (then_pattern p ps) v =
      if_both (λ bs. bs ≡ gathered p v) (λ bs. bs ≡ all_gathered ps v) (λ bs. bs ≡ gathered p v ++ all_gathered ps v)
      (bound p v) (all_bound ps v) (λ ds es a b. λ i. a i ++ b i) (bound_gathered p v) (all_are_gathered ps v)

  each_is_gathered : (ps : Patterns) (xs : Plains) → If (each_bound ps xs) (λ bs. bs ≡ each_gathered ps xs)
  each_is_gathered no_patterns no_more = refl
  each_is_gathered no_patterns (then_more x xs) = tt
  each_is_gathered (then_pattern p ps) no_more = tt
  each_is_gathered (then_pattern p ps) (then_more x xs) =
      if_both (λ bs. bs ≡ gathered p x) (λ bs. bs ≡ each_gathered ps xs)
      (λ bs. bs ≡ gathered p x ++ each_gathered ps xs) (bound p x) (each_bound ps xs)
      (λ ds es a b. λ i. a i ++ b i) (bound_gathered p x) (each_is_gathered ps xs)

  under_is_gathered : (ps : Patterns) (ks : Plains) (qs : PlainPairs)
      → If (option_and_then (each_bound ps) (under_keys ks qs)) (λ bs. bs ≡ gathered_under ps ks qs)
  under_is_gathered no_patterns no_more qs = refl
  under_is_gathered no_patterns (then_more k ks) qs =
      if_more (λ bs. bs ≡ []) (value_under qs k) (under_keys ks qs)
  under_is_gathered (then_pattern p ps) no_more qs = tt
  under_is_gathered (then_pattern p ps) (then_more k ks) qs =
      if_later p ps (λ x bs. bs ≡ gathered p x) (λ bs. bs ≡ gathered_under ps ks qs)
      (λ bs. bs ≡ unwrap_or (option_map (gathered p) (value_under qs k)) [] ++ gathered_under ps ks qs)
      (value_under qs k) (under_keys ks qs) (λ x. bound_gathered p x) (under_is_gathered ps ks qs)
      (λ x ds es is a b. joined p (value_under qs k) x ds es (gathered_under ps ks qs) is a b)

pub found_gathered : (p : Pattern) (v : Plain) → is_some (bound p v) ≡ true → Some (gathered p v) ≡ bound p v
found_gathered p v = found_is (bound p v) (gathered p v) (bound_gathered p v)

-- ---- how many values are bound

if_counted : {A : Type 0} (f : A → Option (List Plain)) (n : ℕ) (o : Option A)
    → ((x : A) → If (f x) (λ bs. length bs ≡ n)) → If (option_and_then f o) (λ bs. length bs ≡ n)
if_counted f n None h = tt
if_counted f n (Some x) h = h x

counted : (m n : ℕ) (ds es : List Plain) → length ds ≡ m → length es ≡ n → length (ds ++ es) ≡ m + n
counted m n ds es a b = length-append ds es ∙ (λ i. a i + b i)

mutual
  bound_binds : (p : Pattern) (v : Plain) → If (bound p v) (λ bs. length bs ≡ binds p)
  bound_binds discard v = refl
  bound_binds (of_kind k) v = if_true (λ bs. length bs ≡ 0) (is_kind k v) refl
  bound_binds (bind p) v =
      if_map (λ ds. v ∷ ds) (λ bs. length bs ≡ binds p) (λ bs. length bs ≡ 1 + binds p) (bound p v)
      (λ ds e. omega arith) (bound_binds p v)
  bound_binds (all_of ps) v = all_are_binds ps v
  bound_binds (none_of p) v = if_none (λ bs. length bs ≡ 0) (bound p v) refl
  bound_binds (literal u) v = if_true (λ bs. length bs ≡ 0) (same u v) refl
  bound_binds (record_with l ps) v =
      if_counted (each_bound ps) (all_binds ps) (fields_of l v) (λ xs. each_is_binds ps xs)
  bound_binds (sequence_with ps) v =
      if_counted (each_bound ps) (all_binds ps) (items_of v) (λ xs. each_is_binds ps xs)
  bound_binds (dictionary_with ks ps) v =
      if_counted (each_bound ps) (all_binds ps) (option_and_then (under_keys ks) (pairs_of v))
      (λ xs. each_is_binds ps xs)

  all_are_binds : (ps : Patterns) (v : Plain) → If (all_bound ps v) (λ bs. length bs ≡ all_binds ps)
  all_are_binds no_patterns v = refl
  all_are_binds (then_pattern p ps) v =
      if_both (λ bs. length bs ≡ binds p) (λ bs. length bs ≡ all_binds ps) (λ bs. length bs ≡ binds p + all_binds ps)
      (bound p v) (all_bound ps v) (λ ds es a b. counted (binds p) (all_binds ps) ds es a b)
      (bound_binds p v) (all_are_binds ps v)

  each_is_binds : (ps : Patterns) (xs : Plains) → If (each_bound ps xs) (λ bs. length bs ≡ all_binds ps)
  each_is_binds no_patterns no_more = refl
  each_is_binds no_patterns (then_more x xs) = tt
  each_is_binds (then_pattern p ps) no_more = tt
  each_is_binds (then_pattern p ps) (then_more x xs) =
      if_both (λ bs. length bs ≡ binds p) (λ bs. length bs ≡ all_binds ps) (λ bs. length bs ≡ binds p + all_binds ps)
      (bound p x) (each_bound ps xs) (λ ds es a b. counted (binds p) (all_binds ps) ds es a b)
      (bound_binds p x) (each_is_binds ps xs)

pub bindings_binds : BindingsAreBinds
bindings_binds p v bs = counted_is (bound p v) (binds p) bs (bound_binds p v)
