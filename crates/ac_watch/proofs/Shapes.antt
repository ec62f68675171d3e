-- What is wanted under a key, by its parts.
use Rattle.std.proofs.Common.{◌≡◌, ℕ, List, [], ◌∷◌, length, zero, suc, None, refl, arith}
use Rattle.std.specs.Prelude.{pos, negsuc}
use Rattle.std.specs.List.{slice_get}
use Rattle.pv_value.specs.Plain.{Plain, boolean, double, integer, string, byte_string, symbol, record_of, sequence}
use Rattle.pv_value.specs.Plain.{set_of, dictionary, embedded, plains}
use Rattle.pv_words.specs.Parts.{item_at, item_under}
use Rattle.ac_watch.specs.Watching.{made, value_at}

item_is : (xs : List Plain) (i : ℕ) → slice_get xs i ≡ item_at (plains xs) i
item_is [] i = refl
item_is (x ∷ xs) zero = refl
item_is (x ∷ xs) (suc i) = item_is xs i

pub value_of_two : (name : List ℕ) (c k : Plain) → value_at name (sequence (plains (c ∷ k ∷ [])))
    ≡ item_under (plains (made name c)) k
value_of_two name c (boolean b) = refl
value_of_two name c (double n) = refl
value_of_two name c (integer (pos i)) = item_is (made name c) i
value_of_two name c (integer (negsuc n)) = refl
value_of_two name c (string s) = refl
value_of_two name c (byte_string s) = refl
value_of_two name c (symbol s) = refl
value_of_two name c (record_of l fs) = refl
value_of_two name c (sequence xs) = refl
value_of_two name c (set_of xs) = refl
value_of_two name c (dictionary ps) = refl
value_of_two name c (embedded x) = refl

of_more : (name : List ℕ) (c k z : Plain) (zs : List Plain) → value_at name (sequence (plains (c ∷ k ∷ z ∷ zs))) ≡ None
of_more name c (boolean b) z zs = refl
of_more name c (double n) z zs = refl
of_more name c (integer (pos i)) z zs = refl
of_more name c (integer (negsuc n)) z zs = refl
of_more name c (string s) z zs = refl
of_more name c (byte_string s) z zs = refl
of_more name c (symbol s) z zs = refl
of_more name c (record_of l fs) z zs = refl
of_more name c (sequence xs) z zs = refl
of_more name c (set_of xs) z zs = refl
of_more name c (dictionary ps) z zs = refl
of_more name c (embedded x) z zs = refl

-- a list of another length is no key
pub no_key : (name : List ℕ) (xs : List Plain) → (length xs ≡ 2 → ⊥) → value_at name (sequence (plains xs)) ≡ None
no_key name [] h = refl
no_key name (x ∷ []) h = refl
no_key name (x ∷ y ∷ []) h = absurd (h (omega arith))
no_key name (x ∷ y ∷ z ∷ zs) h = of_more name x y z zs
