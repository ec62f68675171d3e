-- How the logic stores plain data: as a tree of numbers, from which it is read back.
use Rattle.std.specs.Prelude.{◌≡◌, ℕ, zero, suc, ℤ, pos, negsuc, List, [], ◌∷◌, Bool, true, false, refl}
use Rattle.std.specs.Coded.{Coded}
use Rattle.std.proofs.Common.{sym, ◌∙◌, ap}
use base.Stored.{Gv, gnil, gnum, gcons, num}
use Rattle.pv_value.specs.Plain.{Plain, boolean, double, integer, string, byte_string, symbol, record_of, sequence}
use Rattle.pv_value.specs.Plain.{set_of, dictionary, embedded, Plains, no_more, then_more, PlainPairs, no_pairs}
use Rattle.pv_value.specs.Plain.{then_pair}

abbrev bit : Bool → ℕ
bit false = 0
bit true = 1

abbrev unbit : ℕ → Bool
unbit zero = false
unbit (suc n) = true

pub unbit-bit : (b : Bool) → unbit (bit b) ≡ b
unbit-bit false = refl
unbit-bit true = refl

abbrev list_code : List ℕ → Gv
list_code [] = gnil
list_code (n ∷ ns) = gcons (gnum n) (list_code ns)

abbrev list_back : Gv → List ℕ
list_back gnil = []
list_back (gnum n) = []
list_back (gcons a b) = num a ∷ list_back b

pub list_back-list_code : (ns : List ℕ) → list_back (list_code ns) ≡ ns
list_back-list_code [] = refl
list_back-list_code (n ∷ ns) = ap (λ t. n ∷ t) (list_back-list_code ns)

abbrev int_code : ℤ → Gv
int_code (pos n) = gcons (gnum 0) (gnum n)
int_code (negsuc n) = gcons (gnum 1) (gnum n)

abbrev by_sign : ℕ → ℕ → ℤ
by_sign zero n = pos n
by_sign (suc k) n = negsuc n

abbrev int_back : Gv → ℤ
int_back gnil = pos 0
int_back (gnum n) = pos 0
int_back (gcons a b) = by_sign (num a) (num b)

pub int_back-int_code : (z : ℤ) → int_back (int_code z) ≡ z
int_back-int_code (pos n) = refl
int_back-int_code (negsuc n) = refl

abbrev mutual
  pub code : Plain → Gv
  code (boolean b) = gcons (gnum 0) (gnum (bit b))
  code (double n) = gcons (gnum 1) (gnum n)
  code (integer z) = gcons (gnum 2) (int_code z)
  code (string s) = gcons (gnum 3) (list_code s)
  code (byte_string s) = gcons (gnum 4) (list_code s)
  code (symbol s) = gcons (gnum 5) (list_code s)
  code (record_of l fs) = gcons (gnum 6) (gcons (code l) (codes fs))
  code (sequence xs) = gcons (gnum 7) (codes xs)
  code (set_of xs) = gcons (gnum 8) (codes xs)
  code (dictionary ps) = gcons (gnum 9) (pair_codes ps)
  code (embedded x) = gcons (gnum 10) (code x)

  pub codes : Plains → Gv
  codes no_more = gnil
  codes (then_more x xs) = gcons (code x) (codes xs)

  pub pair_codes : PlainPairs → Gv
  pair_codes no_pairs = gnil
  pair_codes (then_pair k v ps) = gcons (gcons (code k) (gcons (code v) gnil)) (pair_codes ps)

-- a place in a list, where there may be none
abbrev first : Plains → Plain
first no_more = boolean false
first (then_more x xs) = x

abbrev later : Plains → Plains
later no_more = no_more
later (then_more x xs) = xs

-- by the kind's number, from the rest of the tree, and from what the rest stands for as a value, as a list and as pairs
abbrev by_kind : ℕ → Gv → Plain → Plains → PlainPairs → Plain
by_kind zero g x xs ps = boolean (unbit (num g))
by_kind (suc zero) g x xs ps = double (num g)
by_kind (suc (suc zero)) g x xs ps = integer (int_back g)
by_kind (suc (suc (suc zero))) g x xs ps = string (list_back g)
by_kind (suc (suc (suc (suc zero)))) g x xs ps = byte_string (list_back g)
by_kind (suc (suc (suc (suc (suc zero))))) g x xs ps = symbol (list_back g)
by_kind (suc (suc (suc (suc (suc (suc zero)))))) g x xs ps = record_of (first xs) (later xs)
by_kind (suc (suc (suc (suc (suc (suc (suc zero))))))) g x xs ps = sequence xs
by_kind (suc (suc (suc (suc (suc (suc (suc (suc zero)))))))) g x xs ps = set_of xs
by_kind (suc (suc (suc (suc (suc (suc (suc (suc (suc zero))))))))) g x xs ps = dictionary ps
by_kind (suc (suc (suc (suc (suc (suc (suc (suc (suc (suc n)))))))))) g x xs ps = embedded x

abbrev back : Gv → Plain × Plains × PlainPairs
back gnil = (boolean false, no_more, no_pairs)
back (gnum n) = (boolean false, no_more, no_pairs)
back (gcons a b) = (
  by_kind (num a) b (back b).0 (back b).1 (back b).2,
  then_more (back a).0 (back b).1,
  then_pair (first (back a).1) (first (later (back a).1)) (back b).2,
)

mutual
  pub back-code : (x : Plain) → (back (code x)).0 ≡ x
  back-code (boolean b) = ap boolean (unbit-bit b)
  back-code (double n) = refl
  back-code (integer z) = ap integer (int_back-int_code z)
  back-code (string s) = ap string (list_back-list_code s)
  back-code (byte_string s) = ap byte_string (list_back-list_code s)
  back-code (symbol s) = ap symbol (list_back-list_code s)
  back-code (record_of l fs) = λ i. record_of (back-code l i) (back-codes fs i)
  back-code (sequence xs) = ap sequence (back-codes xs)
  back-code (set_of xs) = ap set_of (back-codes xs)
  back-code (dictionary ps) = ap dictionary (back-pair_codes ps)
  back-code (embedded x) = ap embedded (back-code x)

  pub back-codes : (xs : Plains) → (back (codes xs)).1 ≡ xs
  back-codes no_more = refl
  back-codes (then_more x xs) = λ i. then_more (back-code x i) (back-codes xs i)

  pub back-pair_codes : (ps : PlainPairs) → (back (pair_codes ps)).2 ≡ ps
  back-pair_codes no_pairs = refl
  back-pair_codes (then_pair k v ps) = λ i. then_pair (back-code k i) (back-code v i) (back-pair_codes ps i)

abbrev pub plain_code : Coded Plain
plain_code = record { code = code; inj = λ x y p. sym (back-code x) ∙ ap (λ g. (back g).0) p ∙ back-code y }
