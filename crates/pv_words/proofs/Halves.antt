-- What is found under a key in the half of the pairs where it can be.
use Rattle.std.proofs.Common.{◌≡◌, List, [], ◌∷◌, ◌++◌, map, cond, Option, Some, None}
use Rattle.std.proofs.Common.{refl, sym, ap, ◌∙◌}
use Rattle.std.specs.declared.cmp.Ordering.TheVariants.{Less, Equal, Greater}
use Rattle.std.specs.Ordering.{is_eq, ordering_reverse}
use Rattle.std.specs.List.{AllByRecursion}
use Rattle.std.specs.List.Sorted.{IsStrictlySortedBy}
use Rattle.std.proofs.lemmas.List.{map-append}
use Rattle.pv_value.specs.declared.Entry.{Entry}
use Rattle.pv_value.specs.Plain.{Plain, pairs}
use Rattle.pv_value.specs.View.{key_and_value}
use Rattle.pv_value.specs.Order.{order}
use Rattle.pv_value.specs.WellFormed.{KeysAscend}
use Rattle.pv_value.specs.Lemmas.OrderLaws.{order_chain, order_same, order_turn}
use Rattle.pv_words.specs.Parts.{value_under}

abbrev Pairs : Type 0
Pairs = List (Plain × Plain)

-- the key comes before each of these
abbrev IsBefore : Plain → Pairs → Type 0
IsBefore k ps = AllByRecursion (λ y. order k y ≡ Less) (map (λ (p : Plain × Plain). p.0) ps)

-- ---- the halves ascend

front_before : (k : Plain) (ps qs : Pairs) → IsBefore k (ps ++ qs) → IsBefore k ps
front_before k [] qs h = tt
front_before k (p ∷ ps) qs h = (h.0, front_before k ps qs h.1)

pub front_ascends : (ps qs : Pairs) → KeysAscend (ps ++ qs) → KeysAscend ps
unfolding IsStrictlySortedBy
front_ascends [] qs h = tt
front_ascends (p ∷ ps) qs h = (front_before p.0 ps qs h.0, front_ascends ps qs h.1)

pub behind_ascends : (ps qs : Pairs) → KeysAscend (ps ++ qs) → KeysAscend qs
unfolding IsStrictlySortedBy
behind_ascends [] qs h = h
behind_ascends (p ∷ ps) qs h = behind_ascends ps qs h.1

pub rest_ascends : (p : Plain × Plain) (ps : Pairs) → KeysAscend (p ∷ ps) → KeysAscend ps
unfolding IsStrictlySortedBy
rest_ascends p ps h = h.1

-- ---- what is not found

middle_before : (k : Plain) (ps : Pairs) (e : Plain × Plain) (qs : Pairs) → IsBefore k (ps ++ e ∷ qs)
    → order k e.0 ≡ Less
middle_before k [] e qs h = h.0
middle_before k (p ∷ ps) e qs h = middle_before k ps e qs h.1

-- where the keys of the front all come before this one, it is not found there
passed : (ps : Pairs) (e : Plain × Plain) (qs : Pairs) (key : Plain)
    → ((k : Plain) → order k e.0 ≡ Less → order k key ≡ Less) → KeysAscend (ps ++ e ∷ qs)
    → value_under (pairs (ps ++ e ∷ qs)) key ≡ value_under (pairs (e ∷ qs)) key
unfolding IsStrictlySortedBy
passed [] e qs key f h = refl
passed (p ∷ ps) e qs key f h =
    let less : order p.0 key ≡ Less = f p.0 (middle_before p.0 ps e qs h.0) in
    ap (λ b. cond {A = Option Plain} b (Some p.1) (value_under (pairs (ps ++ e ∷ qs)) key)) (ap is_eq less)
    ∙ passed ps e qs key f h.1

none_behind : (e key : Plain) (qs : Pairs) → order key e ≡ Less → IsBefore e qs → value_under (pairs qs) key ≡ None
none_behind e key [] less h = refl
none_behind e key (q ∷ qs) less h =
    let more : order q.0 key ≡ Greater = order_turn q.0 key ∙ ap ordering_reverse (order_chain key e q.0 less h.0) in
    ap (λ b. cond {A = Option Plain} b (Some q.1) (value_under (pairs qs) key)) (ap is_eq more)
    ∙ none_behind e key qs less h.1

front_found : (ps qs : Pairs) (key : Plain) → value_under (pairs qs) key ≡ None
    → value_under (pairs (ps ++ qs)) key ≡ value_under (pairs ps) key
front_found [] qs key h = h
front_found (p ∷ ps) qs key h =
    ap (λ o. cond {A = Option Plain} (is_eq (order p.0 key)) (Some p.1) o) (front_found ps qs key h)

-- ---- what is found

pub found_behind : (ps : Pairs) (e : Plain × Plain) (qs : Pairs) (key : Plain) → order e.0 key ≡ Less
    → KeysAscend (ps ++ e ∷ qs) → value_under (pairs qs) key ≡ value_under (pairs (ps ++ e ∷ qs)) key
found_behind ps e qs key less h =
    sym
    (passed ps e qs key (λ k l. order_chain k e.0 key l less) h
    ∙ ap (λ b. cond {A = Option Plain} b (Some e.1) (value_under (pairs qs) key)) (ap is_eq less))

pub found_here : (ps : Pairs) (e : Plain × Plain) (qs : Pairs) (key : Plain) → order e.0 key ≡ Equal
    → KeysAscend (ps ++ e ∷ qs) → Some e.1 ≡ value_under (pairs (ps ++ e ∷ qs)) key
found_here ps e qs key same h =
    sym
    (passed ps e qs key (λ k l. ap (λ y. order k y) (sym (order_same e.0 key same)) ∙ l) h
    ∙ ap (λ b. cond {A = Option Plain} b (Some e.1) (value_under (pairs qs) key)) (ap is_eq same))

pub found_before : (ps : Pairs) (e : Plain × Plain) (qs : Pairs) (key : Plain) → order e.0 key ≡ Greater
    → KeysAscend (ps ++ e ∷ qs) → value_under (pairs ps) key ≡ value_under (pairs (ps ++ e ∷ qs)) key
unfolding IsStrictlySortedBy
found_before ps e qs key more h =
    let below : order key e.0 ≡ Less = order_turn key e.0 ∙ ap ordering_reverse more in
    let tail : KeysAscend (e ∷ qs) = behind_ascends ps (e ∷ qs) h in
    sym
    (front_found ps (e ∷ qs) key
    (ap (λ b. cond {A = Option Plain} b (Some e.1) (value_under (pairs qs) key)) (ap is_eq more)
    ∙ none_behind e.0 key qs below tail.0))

-- ---- entries, in two halves about one

pub in_halves : (es before rest : List Entry) (e : Entry) (behind : List Entry) → es ≡ before ++ rest → rest ≡ e ∷ behind
    → map key_and_value es ≡ map key_and_value before ++ key_and_value e ∷ map key_and_value behind
in_halves es before rest e behind a b =
    ap (map key_and_value) a ∙ map-append key_and_value before rest
    ∙ ap (λ r. map key_and_value before ++ map key_and_value r) b
