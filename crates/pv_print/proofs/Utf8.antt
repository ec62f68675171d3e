-- What is printed is UTF-8.
use Rattle.std.proofs.Common.{ℕ, suc, ◌<◌, Bool, true, false, cond, ℤ, pos, negsuc, List, [], ◌∷◌, ◌++◌, IsUtf8, refl}
use Rattle.std.proofs.Common.{arith}
use Rattle.std.specs.Prelude.{slice_index}
use Rattle.std.specs.Fmt.{signed_decimal}
use Rattle.std.specs.Int.{w64, w128, to_be_bytes}
use Rattle.std.specs.Int.RustNames.{FitsSigned}
use Rattle.std.proofs.lemmas.Fmt.{IsAscii-decimal_wide}
use Rattle.std.proofs.lemmas.Str.{IsUtf8-append, IsUtf8-nil, IsUtf8-from_ascii}
use Rattle.pv_value.specs.Plain.{Plain, boolean, double, integer, string, byte_string, symbol, record_of, sequence}
use Rattle.pv_value.specs.Plain.{set_of, dictionary, embedded, Plains, no_more, then_more, PlainPairs, no_pairs}
use Rattle.pv_value.specs.Plain.{then_pair}
use Rattle.pv_value.specs.WellFormed.{IsWellFormed, AreWellFormed, ArePairsWellFormed}
use Rattle.pv_print.specs.Bare.{stands_bare}
use Rattle.pv_print.specs.Escaped.{quoted}
use Rattle.pv_print.specs.Printed.{printed, printed_all, printed_behind, printed_entries, entries_behind}
use Rattle.pv_print.proofs.Ascii.{AreBytes, utf8_then, utf8_ascii, hex_pairs_ascii, in_base64_ascii}
use Rattle.pv_print.proofs.Doubles.{double_bytes}
use Rattle.pv_print.proofs.Escaped.{IsQuote, string_marks, symbol_marks, utf8_escaped}

-- ---- atoms

pub are_bytes : (s : List ℕ) → ((i : ℕ) → slice_index s i < 256) → AreBytes s
are_bytes [] h = tt
are_bytes (b ∷ bs) h = (h 0, are_bytes bs (λ i. h (suc i)))

-- before a last character of ASCII
pub utf8_before : (bs : List ℕ) (b : ℕ) → b < 128 → IsUtf8 bs → IsUtf8 (bs ++ b ∷ [])
utf8_before bs b h u = IsUtf8-append bs (b ∷ []) u (utf8_then b [] h IsUtf8-nil)

utf8_quoted : (quote : ℕ) (s : List ℕ) → IsQuote quote → IsUtf8 s → IsUtf8 (quoted quote s)
utf8_quoted quote s q u = utf8_then quote _ q.ascii (utf8_before _ quote q.ascii (utf8_escaped quote q s u))

utf8_symbol : (t : Bool) (s : List ℕ) → IsUtf8 s → IsUtf8 (cond t s (quoted 124 s))
utf8_symbol true s u = u
utf8_symbol false s u = utf8_quoted 124 s symbol_marks u

utf8_integer : (z : ℤ) → FitsSigned w128 z → IsUtf8 (signed_decimal z)
utf8_integer (pos n) h = IsUtf8-from_ascii _ (IsAscii-decimal_wide n (omega arith))
utf8_integer (negsuc n) h =
    utf8_then 45 _ (omega arith) (IsUtf8-from_ascii _ (IsAscii-decimal_wide (suc n) (omega arith)))

utf8_entry : (k v : List ℕ) → IsUtf8 k → IsUtf8 v → IsUtf8 (k ++ 58 ∷ 32 ∷ v)
utf8_entry k v hk hv = IsUtf8-append k (58 ∷ 32 ∷ v) hk (utf8_then 58 _ (omega arith) (utf8_then 32 _ (omega arith) hv))

-- ---- values

mutual
  pub utf8_printed : (v : Plain) → IsWellFormed v → IsUtf8 (printed v)
  utf8_printed (boolean false) h = utf8_ascii _ refl
  utf8_printed (boolean true) h = utf8_ascii _ refl
  utf8_printed (double n) h =
      utf8_then 35 _ (omega arith) (utf8_then 120 _ (omega arith)
      (utf8_then 100 _ (omega arith) (utf8_then 34 _ (omega arith)
      (utf8_before _ 34 (omega arith) (utf8_ascii _ (hex_pairs_ascii (to_be_bytes w64 n) (double_bytes n h)))))))
  utf8_printed (integer z) h = utf8_integer z h
  utf8_printed (string s) h = utf8_quoted 34 s string_marks h.0
  utf8_printed (byte_string s) h =
      utf8_then 35 _ (omega arith) (utf8_then 91 _ (omega arith)
      (utf8_before _ 93 (omega arith) (utf8_ascii _ (in_base64_ascii s (are_bytes s h.0)))))
  utf8_printed (symbol s) h = utf8_symbol (stands_bare s) s h.0
  utf8_printed (record_of l fs) h =
      utf8_then 60 _ (omega arith) (IsUtf8-append _ _ (utf8_printed l h.0)
      (utf8_before _ 62 (omega arith) (utf8_behind fs h.1)))
  utf8_printed (sequence xs) h = utf8_then 91 _ (omega arith) (utf8_before _ 93 (omega arith) (utf8_all xs h))
  utf8_printed (set_of xs) h =
      utf8_then 35 _ (omega arith) (utf8_then 123 _ (omega arith) (utf8_before _ 125 (omega arith) (utf8_all xs h.1)))
  utf8_printed (dictionary ps) h = utf8_then 123 _ (omega arith) (utf8_before _ 125 (omega arith) (utf8_entries ps h.1))
  utf8_printed (embedded x) h = utf8_then 35 _ (omega arith) (utf8_then 58 _ (omega arith) (utf8_printed x h))

  utf8_all : (xs : Plains) → AreWellFormed xs → IsUtf8 (printed_all xs)
  utf8_all no_more h = IsUtf8-nil
  utf8_all (then_more x xs) h = IsUtf8-append _ _ (utf8_printed x h.0) (utf8_behind xs h.1)

  utf8_behind : (xs : Plains) → AreWellFormed xs → IsUtf8 (printed_behind xs)
  utf8_behind no_more h = IsUtf8-nil
  utf8_behind (then_more x xs) h =
      utf8_then 32 _ (omega arith) (IsUtf8-append _ _ (utf8_printed x h.0) (utf8_behind xs h.1))

  utf8_entries : (ps : PlainPairs) → ArePairsWellFormed ps → IsUtf8 (printed_entries ps)
  utf8_entries no_pairs h = IsUtf8-nil
  utf8_entries (then_pair k v ps) h =
      IsUtf8-append _ _ (utf8_entry (printed k) (printed v) (utf8_printed k h.0) (utf8_printed v h.1))
      (utf8_entries_behind ps h.2)

  utf8_entries_behind : (ps : PlainPairs) → ArePairsWellFormed ps → IsUtf8 (entries_behind ps)
  utf8_entries_behind no_pairs h = IsUtf8-nil
  utf8_entries_behind (then_pair k v ps) h =
      utf8_then 32 _ (omega arith) (IsUtf8-append _ _ (utf8_entry (printed k) (printed v) (utf8_printed k h.0)
      (utf8_printed v h.1)) (utf8_entries_behind ps h.2))
