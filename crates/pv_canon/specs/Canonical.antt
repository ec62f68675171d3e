-- The canonical form of a value: Preserves, "Canonical Form for Binary Syntax". It is the binary spelling in which the
-- elements of a set stand in the order of the bytes of their canonical forms, and the entries of a dictionary in the
-- order of the bytes of their keys' canonical forms. There are no annotations.
use Rattle.std.specs.Prelude.{ℕ, List, [], ◌∷◌, ◌++◌, map, if◌then◌else◌}
use Rattle.std.specs.declared.cmp.Ordering.{Ordering}
use Rattle.std.specs.Ordering.{is_lt, then_cmp, on, nat_cmp}
use Rattle.std.specs.Cmp.Lexicographic.{slice_cmp}
use Rattle.std.specs.List.{concat}
use Rattle.pv_value.specs.Plain.{Plain, boolean, double, integer, string, byte_string, symbol, record_of, sequence}
use Rattle.pv_value.specs.Plain.{set_of, dictionary, embedded, Plains, no_more, then_more, PlainPairs, no_pairs}
use Rattle.pv_value.specs.Plain.{then_pair}
use Rattle.pv_binary.specs.Written.{written}

-- one more element, in front of the first that does not come before it
abbrev pub insert_by : {A : Type 0} → (A → A → Ordering) → A → List A → List A
insert_by order x [] = x ∷ []
insert_by order x (y ∷ ys) = if is_lt (order y x) then y ∷ insert_by order x ys else x ∷ y ∷ ys

-- the same in order
abbrev pub sorted_by : {A : Type 0} → (A → A → Ordering) → List A → List A
sorted_by order [] = []
sorted_by order (x ∷ xs) = insert_by order x (sorted_by order xs)

-- byte by byte, and a proper prefix first
abbrev pub byte_order : List ℕ → List ℕ → Ordering
byte_order = slice_cmp nat_cmp

-- entries by the forms of their keys; two with equal keys, which no dictionary has, by the forms of their values
abbrev pub form_order : List ℕ × List ℕ → List ℕ × List ℕ → Ordering
form_order = then_cmp (on (λ e. e.0) byte_order) (on (λ e. e.1) byte_order)

-- a key, and then its value
abbrev pub joined : List ℕ × List ℕ → List ℕ
joined e = e.0 ++ e.1

abbrev mutual
  pub canonical : Plain → List ℕ
  canonical (boolean b) = written (boolean b)
  canonical (double n) = written (double n)
  canonical (integer z) = written (integer z)
  canonical (string s) = written (string s)
  canonical (byte_string s) = written (byte_string s)
  canonical (symbol s) = written (symbol s)
  canonical (record_of l fs) = 0xb4 ∷ (canonical l ++ (concat (forms fs) ++ 0x84 ∷ []))
  canonical (sequence xs) = 0xb5 ∷ (concat (forms xs) ++ 0x84 ∷ [])
  canonical (set_of xs) = 0xb6 ∷ (concat (sorted_by byte_order (forms xs)) ++ 0x84 ∷ [])
  canonical (dictionary ps) = 0xb7 ∷ (concat (map joined (sorted_by form_order (entry_forms ps))) ++ 0x84 ∷ [])
  canonical (embedded x) = 0x86 ∷ canonical x

  -- the canonical form of each value
  pub forms : Plains → List (List ℕ)
  forms no_more = []
  forms (then_more x xs) = canonical x ∷ forms xs

  -- the canonical forms of each key and its value
  pub entry_forms : PlainPairs → List (List ℕ × List ℕ)
  entry_forms no_pairs = []
  entry_forms (then_pair k v ps) = (canonical k, canonical v) ∷ entry_forms ps
