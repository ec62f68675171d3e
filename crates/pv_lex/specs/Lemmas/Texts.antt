-- Texts that are UTF-8, and others.
use Rattle.std.proofs.Common.{◌≡◌, ℕ, Bool, true, false, cond, List, Ok, Err, refl, inl, inr, ◌⊎◌}
use Rattle.std.specs.Str.{IsUtf8, is_utf8}
use Rattle.std.proofs.lemmas.Str.{IsUtf8-from_is_utf8, is_utf8-from_IsUtf8}
use Rattle.std.proofs.lemmas.Bool.{false_from_ne_true}
use Rattle.pv_lex.specs.Lexing.{as_text}
use Rattle.pv_lex.specs.declared.faults.TextKind.TheVariants.{BadUtf8}

pub utf8_good : (s : List ℕ) → IsUtf8 s → as_text s ≡ Ok s
utf8_good s u = rw (is_utf8-from_IsUtf8 s u)

pub utf8_bad : (s : List ℕ) → (IsUtf8 s → ⊥) → as_text s ≡ Err BadUtf8
utf8_bad s n = rw (false_from_ne_true (is_utf8 s) (λ e. n (IsUtf8-from_is_utf8 s e)))

pub utf8_cases : (s : List ℕ) → (IsUtf8 s × (as_text s ≡ Ok s)) ⊎ ((IsUtf8 s → ⊥) × (as_text s ≡ Err BadUtf8))
utf8_cases s = by (is_utf8 s) refl
  where
    by : (b : Bool) → is_utf8 s ≡ b → (IsUtf8 s × (cond b (Ok s) (Err BadUtf8) ≡ Ok s))
        ⊎ ((IsUtf8 s → ⊥) × (cond b (Ok s) (Err BadUtf8) ≡ Err BadUtf8))
    by true e = inl (IsUtf8-from_is_utf8 s e, refl)
    by false e = inr ((λ u. let w = is_utf8-from_IsUtf8 s u in cc), refl)
