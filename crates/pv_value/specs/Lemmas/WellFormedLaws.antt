-- How lists come to be well-formed: from their elements, one element at a time, and in another order.
use Rattle.std.specs.Prelude.{◌≡◌, ℕ, ◌+◌, ◌<◌, List, [], ◌∷◌, ◌++◌, map, length, take}
use Rattle.std.specs.List.{All}
use Rattle.std.specs.List.Sorted.{IsPermutation}
use Rattle.std.proofs.Common.{get_or}
use Rattle.std.proofs.lemmas.List.{take_more}
use Rattle.std.proofs.lemmas.List.Elements.{All-nil, All-cons, All-head, All-tail}
use Rattle.std.proofs.lemmas.List.Sorted.{All-permutation}
use Rattle.pv_value.specs.Plain.{Plain, plains, pairs}
use Rattle.pv_value.specs.View.{key_and_value}
use Rattle.pv_value.specs.WellFormed.{IsWellFormed, AreWellFormed, ArePairsWellFormed}
use Rattle.pv_value.specs.declared.Entry.{Entry}

-- a pair, by its key and its value
abbrev pub IsPairWellFormed : Plain × Plain → Type 0
IsPairWellFormed p = IsWellFormed p.0 × IsWellFormed p.1

-- each value of a well-formed list is well-formed
pub all_from_well_formed : (xs : List Plain) → AreWellFormed (plains xs) → All IsWellFormed xs
all_from_well_formed [] h = All-nil IsWellFormed
all_from_well_formed (x ∷ xs) h = All-cons IsWellFormed x xs h.0 (all_from_well_formed xs h.1)

-- a list of well-formed values is well-formed
pub well_formed_from_all : (xs : List Plain) → All IsWellFormed xs → AreWellFormed (plains xs)
well_formed_from_all [] h = tt
well_formed_from_all (x ∷ xs) h = (All-head IsWellFormed x xs h, well_formed_from_all xs (All-tail IsWellFormed x xs h))

-- each pair of a well-formed list is well-formed
pub all_from_pairs_well_formed : (ps : List (Plain × Plain)) → ArePairsWellFormed (pairs ps) → All IsPairWellFormed ps
all_from_pairs_well_formed [] h = All-nil IsPairWellFormed
all_from_pairs_well_formed (p ∷ ps) h = All-cons IsPairWellFormed p ps (h.0, h.1) (all_from_pairs_well_formed ps h.2)

-- a list of well-formed pairs is well-formed
pub pairs_well_formed_from_all : (ps : List (Plain × Plain)) → All IsPairWellFormed ps → ArePairsWellFormed (pairs ps)
pairs_well_formed_from_all [] h = tt
pairs_well_formed_from_all (p ∷ ps) h =
    let here = All-head IsPairWellFormed p ps h in
    (here.0, here.1, pairs_well_formed_from_all ps (All-tail IsPairWellFormed p ps h))

-- one more value, at the end
pub well_formed_push : (xs : List Plain) (x : Plain) → AreWellFormed (plains xs) → IsWellFormed x
    → AreWellFormed (plains (xs ++ x ∷ []))
well_formed_push [] x h w = (w, tt)
well_formed_push (y ∷ ys) x h w = (h.0, well_formed_push ys x h.1 w)

-- one more pair, at the end
pub pairs_well_formed_push : (ps : List (Plain × Plain)) (k v : Plain) → ArePairsWellFormed (pairs ps) → IsWellFormed k
    → IsWellFormed v → ArePairsWellFormed (pairs (ps ++ (k, v) ∷ []))
pairs_well_formed_push [] k v h wk wv = (wk, wv, tt)
pairs_well_formed_push (p ∷ ps) k v h wk wv = (h.0, h.1, pairs_well_formed_push ps k v h.2 wk wv)

-- one more place of a list whose front is well-formed
pub well_formed_more : (xs : List Plain) (i : ℕ) (x : Plain) → i < length xs → x ≡ get_or xs i x
    → AreWellFormed (plains (take i xs)) → IsWellFormed x → AreWellFormed (plains (take (i + 1) xs))
well_formed_more xs i x h e front w = rw (take_more xs i x h, ← e) (well_formed_push (take i xs) x front w)

-- one more entry, at the end
pub entries_well_formed_push : (es : List Entry) (e : Entry) → ArePairsWellFormed (pairs (map key_and_value es))
    → IsWellFormed e.key → IsWellFormed e.value → ArePairsWellFormed (pairs (map key_and_value (es ++ e ∷ [])))
entries_well_formed_push [] e h wk wv = (wk, wv, tt)
entries_well_formed_push (d ∷ es) e h wk wv = (h.0, h.1, entries_well_formed_push es e h.2 wk wv)

-- one more place of a list of entries whose front is well-formed
pub entries_well_formed_more : (es : List Entry) (i : ℕ) (e : Entry) → i < length es → e ≡ get_or es i e
    → ArePairsWellFormed (pairs (map key_and_value (take i es))) → IsWellFormed e.key → IsWellFormed e.value
    → ArePairsWellFormed (pairs (map key_and_value (take (i + 1) es)))
entries_well_formed_more es i e h is front wk wv =
    rw (take_more es i e h, ← is) (entries_well_formed_push (take i es) e front wk wv)

-- the same values in another order
pub well_formed_permutation : (xs ys : List Plain) → IsPermutation xs ys → AreWellFormed (plains xs)
    → AreWellFormed (plains ys)
well_formed_permutation xs ys moved h =
    well_formed_from_all ys (All-permutation IsWellFormed xs ys moved (all_from_well_formed xs h))

-- the same pairs in another order
pub pairs_well_formed_permutation : (ps qs : List (Plain × Plain)) → IsPermutation ps qs → ArePairsWellFormed (pairs ps)
    → ArePairsWellFormed (pairs qs)
pairs_well_formed_permutation ps qs moved h =
    pairs_well_formed_from_all qs (All-permutation IsPairWellFormed ps qs moved (all_from_pairs_well_formed ps h))
