-- The dictionary of a list of pairs, as reading computes it.
use Rattle.std.proofs.Common.{◌≡◌, ℕ, Bool, true, false, cond, List, [], ◌∷◌, map, Option, Some, None, Err, refl, sym}
use Rattle.std.proofs.Common.{ap}
use Rattle.std.specs.declared.cmp.Ordering.{Ordering}
use Rattle.std.specs.declared.cmp.Ordering.TheVariants.{Less, Equal, Greater}
use Rattle.std.specs.Ordering.{is_eq, eq_by_cmp, ordering_then}
use Rattle.std.specs.Cmp.{IsTotalOrder, eq_by_cmp_equiv, then_total, on_total}
use Rattle.std.specs.List.{IsDistinct, AllByRecursion}
use Rattle.std.specs.List.Sorted.{IsPermutation, IsStrictlySortedBy}
use Rattle.std.proofs.lemmas.List.Sorted.{IsPermutation-map}
use Rattle.std.proofs.lemmas.Map.Keys.{IsDistinct-IsPermutation}
use Rattle.std.proofs.lemmas.Map.Lookups.{exact_pairs}
use Rattle.pv_value.specs.Plain.{Plain, pairs, dictionary}
use Rattle.pv_value.specs.Order.{order}
use Rattle.pv_value.specs.Lemmas.OrderLaws.{order_total, order_same}
use Rattle.pv_value.specs.Sets.{IsFirstRepeat, AreDistinct, IsSetFault, IsMade}
use Rattle.pv_value.specs.declared.sets.SetFault.{SetFault}
use Rattle.pv_value.specs.declared.sets.SetFault.TheVariants.{NoMemory, Duplicate}
use Rattle.pv_value.specs.WellFormed.{KeysAscend}
use Rattle.pv_value.specs.Sets.{ascending_by, pair_order, all_differ, dictionary_from}
use Rattle.pv_value.specs.Lemmas.Ascending.{ascending_sorted, ascending_is, ascending_moves}
use Rattle.pv_value.specs.Lemmas.SetFrom.{differ_from_distinct, distinct_from_differ, repeat_fails}
use Rattle.pv_value.specs.Lemmas.SetFrom.{distinct_from_ascend, value_or}

abbrev keys : List (Plain × Plain) → List Plain
keys ps = map (λ (p : Plain × Plain). p.0) ps

pairs_total : IsTotalOrder pair_order
pairs_total = then_total (on_total (λ (p : Plain × Plain). p.0) order_total)
    (on_total (λ (p : Plain × Plain). p.1) order_total)

pairs_same : (p q : Plain × Plain) → pair_order p q ≡ Equal → p ≡ q
pairs_same = exact_pairs order order order_same order_same

-- ---- by keys and by pairs

below_by_keys : (p : Plain × Plain) (ps : List (Plain × Plain)) → AllByRecursion (λ k. order p.0 k ≡ Less) (keys ps)
    → AllByRecursion (λ q. pair_order p q ≡ Less) ps
below_by_keys p [] h = tt
below_by_keys p (q ∷ qs) h = (ap (λ (r : Ordering). ordering_then r (order p.1 q.1)) h.0, below_by_keys p qs h.1)

sorted_by_keys : (ps : List (Plain × Plain)) → KeysAscend ps → IsStrictlySortedBy pair_order ps
unfolding IsStrictlySortedBy
sorted_by_keys [] h = tt
sorted_by_keys (p ∷ ps) h = (below_by_keys p ps h.0, sorted_by_keys ps h.1)

apart_one : (r s : Ordering) → is_eq r ≡ false → is_eq (ordering_then r s) ≡ false
apart_one Less s e = refl
apart_one Equal s e = cc
apart_one Greater s e = refl

apart_by_keys : (p : Plain × Plain) (ps : List (Plain × Plain))
    → AllByRecursion (λ k. eq_by_cmp order p.0 k ≡ false) (keys ps)
    → AllByRecursion (λ q. eq_by_cmp pair_order p q ≡ false) ps
apart_by_keys p [] h = tt
apart_by_keys p (q ∷ qs) h = (apart_one (order p.0 q.0) (order p.1 q.1) h.0, apart_by_keys p qs h.1)

distinct_by_keys : (ps : List (Plain × Plain)) → AreDistinct (keys ps) → IsDistinct (eq_by_cmp pair_order) ps
unfolding IsDistinct
distinct_by_keys [] h = tt
distinct_by_keys (p ∷ ps) h = (apart_by_keys p ps h.0, distinct_by_keys ps h.1)

less_one : (r s : Ordering) → is_eq r ≡ false → ordering_then r s ≡ Less → r ≡ Less
less_one Less s e h = refl
less_one Equal s e h = cc
less_one Greater s e h = cc

keys_below : (p : Plain × Plain) (ps : List (Plain × Plain))
    → AllByRecursion (λ k. eq_by_cmp order p.0 k ≡ false) (keys ps) → AllByRecursion (λ q. pair_order p q ≡ Less) ps
    → AllByRecursion (λ k. order p.0 k ≡ Less) (keys ps)
keys_below p [] d h = tt
keys_below p (q ∷ qs) d h = (less_one (order p.0 q.0) (order p.1 q.1) d.0 h.0, keys_below p qs d.1 h.1)

keys_sorted : (ps : List (Plain × Plain)) → AreDistinct (keys ps) → IsStrictlySortedBy pair_order ps → KeysAscend ps
unfolding IsStrictlySortedBy IsDistinct
keys_sorted [] d h = tt
keys_sorted (p ∷ ps) d h = (keys_below p ps d.0 h.0, keys_sorted ps d.1 h.1)

-- ---- dictionaries

pub dictionary_from_ok : (ps qs : List (Plain × Plain)) → IsPermutation ps qs → KeysAscend qs
    → dictionary_from ps ≡ Some (dictionary (pairs qs))
unfolding dictionary_from
dictionary_from_ok ps qs moved sorted =
    let apart = distinct_from_ascend (keys ps) (keys qs) (IsPermutation-map (λ (p : Plain × Plain). p.0) ps qs moved)
    sorted in
    rw (
      differ_from_distinct (keys ps) apart,
      ascending_is pair_order pairs_total pairs_same ps qs moved (sorted_by_keys qs sorted),
    )

pub dictionary_from_repeat : (ps : List (Plain × Plain)) (p : ℕ) → IsFirstRepeat (keys ps) p → dictionary_from ps ≡ None
unfolding dictionary_from
dictionary_from_repeat ps p h = rw (repeat_fails (keys ps) p h.0 h.1 h.2)

pub dictionary_from_is : (ps : List (Plain × Plain)) (v : Plain) → dictionary_from ps ≡ Some v
    → (qs : List (Plain × Plain)) × IsPermutation ps qs × KeysAscend qs × (v ≡ dictionary (pairs qs))
unfolding dictionary_from
dictionary_from_is ps v e = by (all_differ (keys ps)) refl e
  where
    by : (b : Bool) → all_differ (keys ps) ≡ b
        → cond {A = Option Plain} b (Some (dictionary (pairs (ascending_by pair_order ps)))) (None) ≡ Some v
        → (qs : List (Plain × Plain)) × IsPermutation ps qs × KeysAscend qs × (v ≡ dictionary (pairs qs))
    by true d k =
        let apart = distinct_from_differ (keys ps) d in
        let qs = ascending_by pair_order ps in
        let moved = ascending_moves pair_order pairs_total pairs_same ps (distinct_by_keys ps apart) in
        let still = IsDistinct-IsPermutation (eq_by_cmp order) (eq_by_cmp_equiv order_total).symm (keys ps) (keys qs)
        (IsPermutation-map (λ (p : Plain × Plain). p.0) ps qs moved) apart in (
          qs,
          moved,
          keys_sorted qs still (ascending_sorted pair_order pairs_total pairs_same ps),
          sym (ap (value_or v) k),
        )
    by false d k = cc

-- a fault of a list that makes no dictionary, as its function tells it
pub dictionary_fault_made : (ps : List (Plain × Plain)) (e : SetFault) → IsSetFault (keys ps) e
    → IsMade (Err e) (dictionary_from ps)
dictionary_fault_made ps NoMemory h = tt
dictionary_fault_made ps (Duplicate p) h = dictionary_from_repeat ps p h
