-- Lists as the data holds them, and back.
use Rattle.std.specs.Prelude.{◌≡◌, List, [], ◌∷◌, refl}
use Rattle.std.proofs.Common.{ap}
use Rattle.pv_value.specs.Plain.{Plain, Plains, no_more, then_more, PlainPairs, no_pairs, then_pair, plains, listed}
use Rattle.pv_value.specs.Plain.{pairs, paired}

-- a list of values that is read out and put back
pub plains-listed : (xs : Plains) → plains (listed xs) ≡ xs
plains-listed no_more = refl
plains-listed (then_more x xs) = ap (λ ys. then_more x ys) (plains-listed xs)

-- a list of values that is put in and read out
pub listed-plains : (xs : List Plain) → listed (plains xs) ≡ xs
listed-plains [] = refl
listed-plains (x ∷ xs) = ap (λ ys. x ∷ ys) (listed-plains xs)

-- a list of pairs that is read out and put back
pub pairs-paired : (ps : PlainPairs) → pairs (paired ps) ≡ ps
pairs-paired no_pairs = refl
pairs-paired (then_pair k v ps) = ap (λ qs. then_pair k v qs) (pairs-paired ps)

-- a list of pairs that is put in and read out
pub paired-pairs : (ps : List (Plain × Plain)) → paired (pairs ps) ≡ ps
paired-pairs [] = refl
paired-pairs (p ∷ ps) = ap (λ qs. p ∷ qs) (paired-pairs ps)
