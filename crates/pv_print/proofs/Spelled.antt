-- What is printed spells the value, before anything that is not bare.
use Rattle.std.proofs.Common.{◌≡◌, ℕ, zero, suc, ◌≤◌, Bool, true, false, not, cond, List, [], ◌∷◌, ◌++◌, length, Some}
use Rattle.std.proofs.Common.{inl, inr, refl, ap, ◌∙◌, arith}
use Rattle.std.specs.Str.{IsUtf8}
use Rattle.std.specs.Int.{w64, to_be_bytes}
use Rattle.std.proofs.lemmas.Bool.{and_parts, and_from, not-true}
use Rattle.std.proofs.lemmas.List.Sorted.{IsPermutation-refl}
use Rattle.pv_value.specs.Plain.{Plain, boolean, double, integer, string, byte_string, symbol, record_of, sequence}
use Rattle.pv_value.specs.Plain.{set_of, dictionary, embedded, Plains, no_more, then_more, PlainPairs, no_pairs}
use Rattle.pv_value.specs.Plain.{then_pair, listed, paired}
use Rattle.pv_value.specs.Lemmas.Listed.{plains-listed, pairs-paired}
use Rattle.pv_value.specs.Depth.{depth, deepest, deepest_pair}
use Rattle.pv_value.specs.WellFormed.{IsWellFormed, AreWellFormed, ArePairsWellFormed, Ascend, KeysAscend}
use Rattle.pv_value.specs.Sets.{set_from, dictionary_from}
use Rattle.pv_value.specs.Lemmas.SetFrom.{set_from_ok}
use Rattle.pv_value.specs.Lemmas.DictionaryFrom.{dictionary_from_ok}
use Rattle.pv_lex.specs.Atoms.{IsQuoted, IsBareSymbol, IsAtom}
use Rattle.pv_lex.specs.declared.kinds.AtomForm.TheVariants as form
use Rattle.pv_lex.specs.Characters.{all_of, is_bare, ends_bare}
use Rattle.pv_lex.specs.Numbers.{is_empty, is_integer_text, is_decimal_double}
use Rattle.pv_text.specs.Spells.{BehindGap, Elements, IsEntry, plainly, SpellsIn, TextSpells}
use Rattle.pv_print.specs.Hex.{hex_pairs}
use Rattle.pv_print.specs.Base64.{in_base64}
use Rattle.pv_print.specs.Bare.{is_bare_ascii, stands_bare}
use Rattle.pv_print.specs.Escaped.{escaped, quoted}
use Rattle.pv_print.specs.Printed.{printed, printed_all, printed_behind, printed_entries, entries_behind}
use Rattle.pv_print.proofs.Base64.{base64_back}
use Rattle.pv_print.proofs.Doubles.{double_back}
use Rattle.pv_print.proofs.Escaped.{IsQuote, string_marks, symbol_marks, unescaped-escaped}
use Rattle.pv_print.proofs.Integers.{integer_bare, integer_back}
use Rattle.pv_print.proofs.Utf8.{are_bytes, utf8_printed}

-- ---- atoms

quoted_back : (quote : ℕ) (s : List ℕ) → IsQuote quote → IsQuoted quote (quoted quote s) s
quoted_back quote s q = (escaped quote s, refl, unescaped-escaped quote q s)

all_bare : (s : List ℕ) → all_of is_bare_ascii s ≡ true → all_of is_bare s ≡ true
all_bare [] e = refl
all_bare (b ∷ bs) e =
    let h = and_parts (is_bare_ascii b) (all_of is_bare_ascii bs) e in
    and_from _ _ (and_parts _ _ h.0).0 (all_bare bs h.1)

not_empty : (s : List ℕ) → not (is_empty s) ≡ true → length s ≡ 0 → ⊥
not_empty [] e l = cc
not_empty (b ∷ bs) e l = omega arith

bare_back : (s : List ℕ) → stands_bare s ≡ true → IsBareSymbol s
bare_back s e =
    let h = and_parts _ (not (is_decimal_double s)) e in
    let k = and_parts _ (not (is_integer_text s)) h.0 in
    let m = and_parts (not (is_empty s)) (all_of is_bare_ascii s) k.0 in
    (all_bare s m.1, not_empty s m.0, not-true _ k.1, not-true _ h.1)

symbol_back : (s r : List ℕ) (t : Bool) → stands_bare s ≡ t → IsUtf8 s → ends_bare r ≡ true
    → IsAtom (cond t s (quoted 124 s)) (symbol s) r
symbol_back s r true e u ends = (form.Symbol, (u, refl, bare_back s e, ends))
symbol_back s r false e u ends = (form.QuotedSymbol, (u, quoted_back 124 s symbol_marks))

of_atom : (n : ℕ) (commas : Bool) (t : List ℕ) (v : Plain) (r : List ℕ) → IsAtom t v r → SpellsIn n commas t v r
of_atom zero commas t v r a = plainly t v r a
of_atom (suc n) commas t v r a = plainly t v r (inl a)

-- ---- what follows a value ends a bare token

behind_ends : (xs : Plains) (r : List ℕ) → ends_bare r ≡ true → ends_bare (printed_behind xs ++ r) ≡ true
behind_ends no_more r e = e
behind_ends (then_more x xs) r e = refl

-- the rest of a record behind its label
behind_close : (fs : Plains) (r : List ℕ) → ends_bare ((printed_behind fs ++ 62 ∷ []) ++ r) ≡ true
behind_close no_more r = refl
behind_close (then_more x xs) r = refl

entries_end : (ps : PlainPairs) (r : List ℕ) → ends_bare r ≡ true → ends_bare (entries_behind ps ++ r) ≡ true
entries_end no_pairs r e = e
entries_end (then_pair k v ps) r e = refl

-- ---- sets and dictionaries stand in ascending order, each element and key once

is_set : (xs : Plains) → Ascend (listed xs) → set_from (listed xs) ≡ Some (set_of xs)
is_set xs a =
    set_from_ok (listed xs) (listed xs) (IsPermutation-refl (listed xs)) a ∙ ap (λ (ys : Plains). Some (set_of ys))
    (plains-listed xs)

is_dictionary : (ps : PlainPairs) → KeysAscend (paired ps) → dictionary_from (paired ps) ≡ Some (dictionary ps)
is_dictionary ps a =
    dictionary_from_ok (paired ps) (paired ps) (IsPermutation-refl (paired ps)) a
    ∙ ap (λ (qs : PlainPairs). Some (dictionary qs)) (pairs-paired ps)

-- ---- values

-- values that nest at most n deep, each behind a gap, as they stand in compounds
abbrev ValuesIn : ℕ → Bool → List ℕ → List Plain → List ℕ → Type 0
ValuesIn n commas t vs r = Elements (λ u v s. BehindGap commas (SpellsIn n commas) u v s) t vs r

abbrev EntriesIn : ℕ → List ℕ → List (Plain × Plain) → List ℕ → Type 0
EntriesIn n t ps r = Elements (IsEntry (λ u v s. BehindGap true (SpellsIn n true) u v s)) t ps r

mutual
  pub spelled : (v : Plain) (n : ℕ) (commas : Bool) (r : List ℕ) → IsWellFormed v → depth v ≤ n → ends_bare r ≡ true
      → SpellsIn n commas (printed v) v r
  spelled (boolean false) n commas r h d e = of_atom n commas _ (boolean false) r (form.False, refl)
  spelled (boolean true) n commas r h d e = of_atom n commas _ (boolean true) r (form.True, refl)
  spelled (double m) n commas r h d e =
      of_atom n commas _ (double m) r (form.Double, (hex_pairs (to_be_bytes w64 m), refl, double_back m h))
  spelled (integer z) n commas r h d e =
      of_atom n commas _ (integer z) r (form.Integer, (integer_bare z h, integer_back z h, e))
  spelled (string s) n commas r h d e =
      of_atom n commas _ (string s) r (form.String, (h.0, quoted_back 34 s string_marks))
  spelled (byte_string s) n commas r h d e =
      of_atom n commas _ (byte_string s) r (form.Base64Bytes, (in_base64 s, refl, base64_back s (are_bytes s h.0)))
  spelled (symbol s) n commas r h d e =
      of_atom n commas _ (symbol s) r (symbol_back s r (stands_bare s) refl h.0 e)
  spelled (record_of l fs) zero commas r h d e = absurd (omega arith)
  spelled (record_of l fs) (suc n) commas r h d e =
      plainly _ (record_of l fs) r (inr (
        printed l,
        printed_behind fs ++ 62 ∷ [],
        listed fs,
        refl,
        ([], printed l, refl, refl, spelled l n false _ h.0 (omega arith) (behind_close fs r)),
        (printed_behind fs, [], refl, refl, all_spelled fs n false (62 ∷ r) h.1 (omega arith) refl),
        plains-listed fs,
      ))
  spelled (sequence xs) zero commas r h d e = absurd (omega arith)
  spelled (sequence xs) (suc n) commas r h d e =
      plainly _ (sequence xs) r (inr (
        printed_all xs ++ 93 ∷ [],
        listed xs,
        refl,
        (printed_all xs, [], refl, refl, first_spelled xs n true (93 ∷ r) h (omega arith) refl),
        plains-listed xs,
      ))
  spelled (set_of xs) zero commas r h d e = absurd (omega arith)
  spelled (set_of xs) (suc n) commas r h d e =
      plainly _ (set_of xs) r (inr (
        printed_all xs ++ 125 ∷ [],
        listed xs,
        refl,
        (printed_all xs, [], refl, refl, first_spelled xs n true (125 ∷ r) h.1 (omega arith) refl),
        is_set xs h.0,
      ))
  spelled (dictionary ps) zero commas r h d e = absurd (omega arith)
  spelled (dictionary ps) (suc n) commas r h d e =
      plainly _ (dictionary ps) r (inr (
        printed_entries ps ++ 125 ∷ [],
        paired ps,
        refl,
        (printed_entries ps, [], refl, refl, first_entry ps n (125 ∷ r) h.1 (omega arith) refl),
        is_dictionary ps h.0,
      ))
  spelled (embedded x) zero commas r h d e = absurd (omega arith)
  spelled (embedded x) (suc n) commas r h d e =
      plainly _ (embedded x) r
      (inr (printed x, refl, ([], printed x, refl, refl, spelled x n commas r h (omega arith) e)))

  first_spelled : (xs : Plains) (n : ℕ) (commas : Bool) (r : List ℕ) → AreWellFormed xs → deepest xs ≤ n
      → ends_bare r ≡ true → ValuesIn n commas (printed_all xs) (listed xs) r
  first_spelled no_more n commas r h d e = refl
  first_spelled (then_more x xs) n commas r h d e = (
    printed x,
    printed_behind xs,
    refl,
    ([], printed x, refl, refl, spelled x n commas _ h.0 (omega arith) (behind_ends xs r e)),
    all_spelled xs n commas r h.1 (omega arith) e,
  )

  all_spelled : (xs : Plains) (n : ℕ) (commas : Bool) (r : List ℕ) → AreWellFormed xs → deepest xs ≤ n
      → ends_bare r ≡ true → ValuesIn n commas (printed_behind xs) (listed xs) r
  all_spelled no_more n commas r h d e = refl
  all_spelled (then_more x xs) n commas r h d e = (
    32 ∷ printed x,
    printed_behind xs,
    refl,
    (32 ∷ [], printed x, refl, refl, spelled x n commas _ h.0 (omega arith) (behind_ends xs r e)),
    all_spelled xs n commas r h.1 (omega arith) e,
  )

  first_entry : (ps : PlainPairs) (n : ℕ) (r : List ℕ) → ArePairsWellFormed ps → deepest_pair ps ≤ n
      → ends_bare r ≡ true → EntriesIn n (printed_entries ps) (paired ps) r
  first_entry no_pairs n r h d e = refl
  first_entry (then_pair k v ps) n r h d e = (
    printed k ++ 58 ∷ 32 ∷ printed v,
    entries_behind ps,
    refl,
    (
      printed k,
      [],
      32 ∷ printed v,
      refl,
      ([], printed k, refl, refl, spelled k n true _ h.0 (omega arith) refl),
      refl,
      (32 ∷ [], printed v, refl, refl, spelled v n true _ h.1 (omega arith) (entries_end ps r e)),
    ),
    all_entries ps n r h.2 (omega arith) e,
  )

  all_entries : (ps : PlainPairs) (n : ℕ) (r : List ℕ) → ArePairsWellFormed ps → deepest_pair ps ≤ n
      → ends_bare r ≡ true → EntriesIn n (entries_behind ps) (paired ps) r
  all_entries no_pairs n r h d e = refl
  all_entries (then_pair k v ps) n r h d e = (
    32 ∷ (printed k ++ 58 ∷ 32 ∷ printed v),
    entries_behind ps,
    refl,
    (
      32 ∷ printed k,
      [],
      32 ∷ printed v,
      refl,
      (32 ∷ [], printed k, refl, refl, spelled k n true _ h.0 (omega arith) refl),
      refl,
      (32 ∷ [], printed v, refl, refl, spelled v n true _ h.1 (omega arith) (entries_end ps r e)),
    ),
    all_entries ps n r h.2 (omega arith) e,
  )

pub printed_nests : (v : Plain) (n : ℕ) → IsWellFormed v → depth v ≤ n → SpellsIn n false (printed v) v []
printed_nests v n h d = spelled v n false [] h d refl

pub printed_spells : (v : Plain) → IsWellFormed v → TextSpells (printed v) v
printed_spells v h = (utf8_printed v h, depth v, printed_nests v (depth v) h (omega arith))
