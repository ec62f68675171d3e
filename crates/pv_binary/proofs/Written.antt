-- What is written spells the value.
use Rattle.std.proofs.Common.{◌≡◌, ℕ, true, false, List, [], ◌∷◌, ◌++◌, refl, ap, arith}
use Rattle.std.specs.List.{concat}
use Rattle.std.proofs.lemmas.List.Sorted.{IsPermutation-refl}
use Rattle.pv_value.specs.Plain.{Plain, boolean, double, integer, string, byte_string, symbol, record_of, sequence}
use Rattle.pv_value.specs.Plain.{set_of, dictionary, embedded, Plains, no_more, then_more, PlainPairs, no_pairs}
use Rattle.pv_value.specs.Plain.{then_pair}
use Rattle.pv_value.specs.WellFormed.{IsWellFormed, AreWellFormed, ArePairsWellFormed}
use Rattle.pv_binary.specs.Written.{written, written_all, written_pairs}
use Rattle.pv_binary.specs.Spells.{Spells, Pieces, PairPieces}

abbrev pieces_of : Plains → List (List ℕ)
pieces_of no_more = []
pieces_of (then_more x xs) = written x ∷ pieces_of xs

abbrev pair_pieces_of : PlainPairs → List (List ℕ)
pair_pieces_of no_pairs = []
pair_pieces_of (then_pair k v ps) = (written k ++ written v) ∷ pair_pieces_of ps

pieces_joined : (xs : Plains) → written_all xs ≡ concat (pieces_of xs)
pieces_joined no_more = refl
pieces_joined (then_more x xs) = ap (λ bs. written x ++ bs) (pieces_joined xs)

pair_pieces_joined : (ps : PlainPairs) → written_pairs ps ≡ concat (pair_pieces_of ps)
pair_pieces_joined no_pairs = refl
pair_pieces_joined (then_pair k v ps) = ap (λ bs. (written k ++ written v) ++ bs) (pair_pieces_joined ps)

mutual
  pub spelled : (v : Plain) → IsWellFormed v → Spells (written v) v
  spelled (boolean false) h = refl
  spelled (boolean true) h = refl
  spelled (double n) h = (h, refl)
  spelled (integer z) h = (h, refl)
  spelled (string s) h = (h.0, omega arith, refl)
  spelled (byte_string s) h = (omega arith, refl)
  spelled (symbol s) h = (h.0, omega arith, refl)
  spelled (record_of l fs) h = (
    written l,
    pieces_of fs,
    spelled l h.0,
    all_spelled fs h.1,
    ap (λ bs. 0xb4 ∷ (written l ++ (bs ++ 0x84 ∷ []))) (pieces_joined fs),
  )
  spelled (sequence xs) h = (pieces_of xs, all_spelled xs h, ap (λ bs. 0xb5 ∷ (bs ++ 0x84 ∷ [])) (pieces_joined xs))
  spelled (set_of xs) h = (
    pieces_of xs,
    pieces_of xs,
    all_spelled xs h.1,
    IsPermutation-refl (pieces_of xs),
    h.0,
    ap (λ bs. 0xb6 ∷ (bs ++ 0x84 ∷ [])) (pieces_joined xs),
  )
  spelled (dictionary ps) h = (
    pair_pieces_of ps,
    pair_pieces_of ps,
    pairs_spelled ps h.1,
    IsPermutation-refl (pair_pieces_of ps),
    h.0,
    ap (λ bs. 0xb7 ∷ (bs ++ 0x84 ∷ [])) (pair_pieces_joined ps),
  )
  spelled (embedded x) h = (written x, spelled x h, refl)

  pub all_spelled : (xs : Plains) → AreWellFormed xs → Pieces (pieces_of xs) xs
  all_spelled no_more h = tt
  all_spelled (then_more x xs) h = (spelled x h.0, all_spelled xs h.1)

  pub pairs_spelled : (ps : PlainPairs) → ArePairsWellFormed ps → PairPieces (pair_pieces_of ps) ps
  pairs_spelled no_pairs h = tt
  pairs_spelled (then_pair k v ps) h =
      ((written k, written v, spelled k h.0, spelled v h.1, refl), pairs_spelled ps h.2)
