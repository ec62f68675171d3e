-- What is quoted in bytes that are UTF-8 is so too; so in them no token has the fault that it isn't.
use Rattle.std.proofs.Common.{◌≡◌, ◌≢◌, ℕ, zero, suc, ◌<◌, Bool, List, [], ◌∷◌, ◌++◌, length, Some, Ok, sym, ap, ◌∙◌}
use Rattle.std.proofs.Common.{subst, append_assoc, inl, inr, arith}
use Rattle.std.specs.Str.{IsUtf8}
use Rattle.std.proofs.lemmas.Str.{IsUtf8-append}
use Rattle.pv_read.specs.Lemmas.Binds.{ok_same, bind_ok, told_ok, told_err}
use Rattle.pv_lex.specs.Quoted.{items_value}
use Rattle.pv_lex.specs.Escapes.{text_item, unescaped}
use Rattle.pv_lex.specs.ByteTexts.{byte_item}
use Rattle.pv_lex.specs.TokenFaults.{IsNoText, DigitsFault, BareFault, TokenFault, in_string, in_symbol, no_string}
use Rattle.pv_lex.specs.TokenFaults.{no_symbol, in_ascii, in_hex, in_base64, in_double, in_bare, hash_alone, hex_alone}
use Rattle.pv_lex.specs.TokenFaults.{double_alone, other_hash, other_hex, other_double, other}
use Rattle.pv_lex.specs.Lemmas.Seams.{at_seam, at_end_of_bare, behind_byte}
use Rattle.pv_lex.specs.Lemmas.Readers.{text_item_reader, byte_item_reader}
use Rattle.pv_lex.specs.Lemmas.QuotedLaws.{some_is}
use Rattle.pv_lex.specs.declared.faults.TextKind.{TextKind}
use Rattle.pv_lex.specs.declared.faults.TextKind.TheVariants as fault

-- characters that stand for themselves are carried along up to the next escape
items_utf8 : (quote : ℕ) → quote < 128 → (k : ℕ) (p s u : List ℕ) → items_value (text_item quote) k s ≡ Ok u
    → IsUtf8 (p ++ s) → IsUtf8 (p ++ u)
items_utf8 quote small zero p [] u e h = subst (λ x. IsUtf8 (p ++ x)) (ok_same {E = TextKind} [] u e) h
items_utf8 quote small zero p (b ∷ bs) u e h = cc
items_utf8 quote small (suc k) p [] u e h = subst (λ x. IsUtf8 (p ++ x)) (ok_same {E = TextKind} [] u e) h
items_utf8 quote small (suc k) p (b ∷ bs) u e h =
    let (x, first, more) = bind_ok (text_item quote (b ∷ bs)) _ u e in
    let (y, rest, whole) = bind_ok (items_value (text_item quote) k x.1) _ u more in
    let (front, is, again, piece) =
    told_ok _ _ (text_item quote (b ∷ bs)) x (text_item_reader quote small (b ∷ bs)) first in
    let next = items_utf8 quote small k in
    let same : x.0 ++ y ≡ u = ok_same {E = TextKind} (x.0 ++ y) u whole in
    let all : p ++ (front ++ x.1) ≡ p ++ (b ∷ bs) = ap (λ z. p ++ z) (sym is) in
    elim piece [
      | inl w ↦
          let before : IsUtf8 ((p ++ front) ++ x.1) = subst IsUtf8 (sym all ∙ sym (append_assoc p front x.1)) h in
          let alike : (p ++ front) ++ y ≡ p ++ u =
          append_assoc p front y ∙ ap (λ z. p ++ (z ++ y)) (w.1 ∙ sym w.2) ∙ ap (λ z. p ++ z) same in
          subst IsUtf8 alike (next (p ++ front) x.1 y rest before)
      | inr w ↦
          let cut : IsUtf8 (p ++ 92 ∷ (w.0 ++ x.1)) = subst IsUtf8 (sym all ∙ ap (λ z. p ++ (z ++ x.1)) w.1) h in
          let parts = at_seam p (w.0 ++ x.1) 92 (omega arith) cut in
          subst (λ z. IsUtf8 (p ++ z)) same
          (IsUtf8-append p (x.0 ++ y) parts.0 (IsUtf8-append x.0 y w.3 (next [] x.1 y rest (w.2 x.1 parts.2))))
    ]

pub unescaped_utf8 : (quote : ℕ) (s u : List ℕ) → quote < 128 → unescaped quote s ≡ Some u → IsUtf8 s → IsUtf8 u
unescaped_utf8 quote s u small e h = items_utf8 quote small (length s) [] s u (some_is _ u e) h

all_text : (quote : ℕ) (bytes : List ℕ) → quote < 128 → IsNoText quote bytes → IsUtf8 (quote ∷ bytes) → ⊥
all_text quote bytes small (s, r, t, is, e, n) u =
    n (unescaped_utf8 quote s t small e (at_seam s r quote small (subst IsUtf8 is (behind_byte quote bytes small u))).0)

digits_judged : (may_stand : ℕ → Bool) (Good : List ℕ → Type 0) (close : ℕ) (bytes : List ℕ) (k : TextKind)
    → DigitsFault may_stand Good close bytes k → k ≢ fault.BadUtf8
digits_judged may_stand Good close bytes fault.Unclosed h = λ e. cc
digits_judged may_stand Good close bytes fault.BadBytes h = λ e. cc
digits_judged may_stand Good close bytes k h = absurd h

bare_judged : (bytes : List ℕ) (k : TextKind) → BareFault bytes k → IsUtf8 bytes → k ≢ fault.BadUtf8
bare_judged bytes fault.TooWide h u = λ e. cc
bare_judged bytes fault.DecimalDouble h u = λ e. cc
bare_judged bytes fault.BadUtf8 (s, r, is, bare, ends, h) u =
    absurd (h.3 (at_end_of_bare s r ends (subst IsUtf8 is u)).0)
bare_judged bytes k h u = absurd h

pub tokens_judged : (bytes : List ℕ) (k : TextKind) → TokenFault bytes k → IsUtf8 bytes → k ≢ fault.BadUtf8
tokens_judged _ _ (in_string bytes k (s, t, w, is, e, bad)) u =
    told_err _ _ (text_item 34 t) k (text_item_reader 34 (omega arith) t) bad.1
tokens_judged _ _ (in_symbol bytes k (s, t, w, is, e, bad)) u =
    told_err _ _ (text_item 124 t) k (text_item_reader 124 (omega arith) t) bad.1
tokens_judged _ _ (no_string bytes h) u = absurd (all_text 34 bytes (omega arith) h u)
tokens_judged _ _ (no_symbol bytes h) u = absurd (all_text 124 bytes (omega arith) h u)
tokens_judged _ _ (in_ascii bytes k (s, t, w, is, e, bad)) u = told_err _ _ (byte_item t) k (byte_item_reader t) bad.1
tokens_judged _ _ (in_hex bytes k h) u = digits_judged _ _ 34 bytes k h
tokens_judged _ _ (in_base64 bytes k h) u = digits_judged _ _ 93 bytes k h
tokens_judged _ _ (in_double bytes k h) u = digits_judged _ _ 34 bytes k h
tokens_judged _ _ (in_bare bytes k h) u = bare_judged bytes k h u
tokens_judged _ _ hash_alone u = λ e. cc
tokens_judged _ _ hex_alone u = λ e. cc
tokens_judged _ _ double_alone u = λ e. cc
tokens_judged _ _ (other_hash b bytes g c) u = λ e. cc
tokens_judged _ _ (other_hex b bytes d f) u = λ e. cc
tokens_judged _ _ (other_double b bytes d) u = λ e. cc
tokens_judged _ _ (other b bytes t s) u = λ e. cc
