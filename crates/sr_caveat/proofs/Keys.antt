-- Pairs whose keys are the first ones of those that ascend.
use Rattle.std.proofs.Common.{◌≡◌, ℕ, zero, suc, ◌+◌, ◌<◌, List, [], ◌∷◌, ◌++◌, map, take, length, get_or, refl, ap}
use Rattle.std.proofs.Common.{◌∙◌, sym}
use Rattle.std.specs.List.{AllByRecursion}
use Rattle.std.specs.List.Sorted.{IsStrictlySortedBy}
use Rattle.std.proofs.lemmas.List.{take_more}
use Rattle.std.specs.Prelude.{Ok}
use Rattle.std.specs.declared.cmp.Ordering.TheVariants.{Less}
use Rattle.std.proofs.lemmas.List.Sorted.{IsPermutation-refl}
use Rattle.std.proofs.lemmas.Bool.Decides.{nat_tests}
use Rattle.std.proofs.Common.{Option, Some, None, cond, ◌==◌, ◌≤◌, min, ltb, drop, Bool, true, false, arith}
use Rattle.pv_value.specs.Plain.{Plain, Plains, plains, no_more, then_more, PlainPairs, pairs, no_pairs, then_pair}
use Rattle.pv_value.specs.Plain.{dictionary, listed}
use Rattle.pv_value.specs.Sets.{dictionary_from, IsMade}
use Rattle.pv_value.specs.Lemmas.SetFrom.{value_or}
use Rattle.pv_value.specs.Lemmas.DictionaryFrom.{dictionary_from_ok}
use Rattle.sr_caveat.specs.Spelled.{paired_with}
use Rattle.sr_caveat.specs.View.{keys_of}
use Rattle.sr_caveat.specs.Lemmas.Dropping.{drop_end}
use Rattle.sr_caveat.specs.Lemmas.Folding.{folded}
use Rattle.pv_value.specs.Order.{order}
use Rattle.pv_value.specs.View.{key_and_value}
use Rattle.pv_value.specs.WellFormed.{Ascend, KeysAscend}
use Rattle.pv_value.specs.declared.Entry.{Entry}

abbrev pub put_pair : Plain × Plain → PlainPairs → PlainPairs
put_pair p ps = then_pair p.0 p.1 ps

abbrev pub keys_from : List Entry → List Plain
keys_from es = map (λ (p : Plain × Plain). p.0) (map key_and_value es)

pub mapped_push : (es : List Entry) (e : Entry) → map key_and_value (es ++ e ∷ [])
    ≡ map key_and_value es ++ key_and_value e ∷ []
mapped_push [] e = refl
mapped_push (d ∷ ds) e = ap (λ ps. key_and_value d ∷ ps) (mapped_push ds e)

keys_push : (es : List Entry) (e : Entry) → keys_from (es ++ e ∷ []) ≡ keys_from es ++ e.key ∷ []
keys_push [] e = refl
keys_push (d ∷ ds) e = ap (λ ks. d.key ∷ ks) (keys_push ds e)

-- one key more
pub keys_more : (made new keys : List Entry) (e k : Entry) (i : ℕ) → i < length keys → k ≡ get_or keys i k
    → new ≡ made ++ e ∷ [] → e.key ≡ k.key → keys_from made ≡ keys_from (take i keys)
    → keys_from new ≡ keys_from (take (i + 1) keys)
keys_more made new keys e k i h is pushed same so_far =
    ap keys_from pushed ∙ keys_push made e ∙ (λ j. so_far j ++ same j ∷ []) ∙ sym (keys_push (take i keys) k)
    ∙ ap (λ x. keys_from (take i keys ++ x ∷ [])) is ∙ ap keys_from (sym (take_more keys i k h))

-- what is true of all keys is true of the first ones
all_front : (P : Plain → Type 0) (ks : List Entry) (i : ℕ) → AllByRecursion P (keys_from ks)
    → AllByRecursion P (keys_from (take i ks))
all_front P ks zero h = tt
all_front P [] (suc i) h = tt
all_front P (k ∷ ks) (suc i) h = (h.0, all_front P ks i h.1)

pub ascend_front : (ks : List Entry) (i : ℕ) → Ascend (keys_from ks) → Ascend (keys_from (take i ks))
unfolding IsStrictlySortedBy
ascend_front ks zero h = tt
ascend_front [] (suc i) h = tt
ascend_front (k ∷ ks) (suc i) h = (all_front (λ l. order k.key l ≡ Less) ks i h.0, ascend_front ks i h.1)

-- ---- pairs of keys and values

pub folded_pairs : (ps : List (Plain × Plain)) → folded put_pair ps no_pairs ≡ pairs ps
folded_pairs [] = refl
folded_pairs (p ∷ ps) = ap (put_pair p) (folded_pairs ps)

no_values : (ks : Plains) → paired_with ks no_more ≡ no_pairs
no_values no_more = refl
no_values (then_more k ks) = refl

pub paired_end : (ks : List Entry) (vs : List Plain) (i : ℕ) → min (length ks) (length vs) ≤ i
    → paired_with (keys_of (map key_and_value (drop i ks))) (plains (drop i vs)) ≡ no_pairs
paired_end ks vs i h = by (ltb i (length ks)) refl
  where
    by : (b : Bool) → ltb i (length ks) ≡ b
        → paired_with (keys_of (map key_and_value (drop i ks))) (plains (drop i vs)) ≡ no_pairs
    by false is =
        let e : length ks ≤ i = grind (arith, nat_tests) in
        ap (λ ls. paired_with (keys_of (map key_and_value ls)) (plains (drop i vs))) (drop_end ks i e)
    by true is =
        let l : i < length ks = grind (arith, nat_tests) in
        ap (λ ys. paired_with (keys_of (map key_and_value (drop i ks))) (plains ys)) (drop_end vs i (omega arith))
        ∙ no_values (keys_of (map key_and_value (drop i ks)))

-- what ascends by its keys makes the dictionary of itself
pub dictionary_made : (ps : List (Plain × Plain)) (v : Plain) → KeysAscend ps → IsMade (Ok v) (dictionary_from ps)
    → v ≡ dictionary (pairs ps)
dictionary_made ps v sorted made =
    sym (ap (value_or v) made) ∙ ap (value_or v) (dictionary_from_ok ps ps (IsPermutation-refl ps) sorted)
