-- Text behind its count.
use Rattle.std.proofs.Common.{◌≡◌, ℕ, ◌^◌, ◌<◌, Bool, true, false, cond, List, ◌++◌, length, Result, Ok, Err, refl}
use Rattle.std.proofs.Common.{subst}
use Rattle.std.specs.Str.{IsUtf8, is_utf8}
use Rattle.std.proofs.lemmas.Str.{IsUtf8-from_is_utf8, is_utf8-from_IsUtf8}
use Rattle.pv_binary.specs.Numbers.{counted}
use Rattle.pv_binary.specs.Reading.{counted_at, text_at}
use Rattle.pv_binary.specs.declared.faults.BinKind.{BinKind}
use Rattle.pv_binary.specs.declared.faults.BinKind.TheVariants.{BadUtf8}
use Rattle.pv_read.specs.Lemmas.Binds.{parts, bind_ok}
use Rattle.pv_binary.proofs.Varints.{IsBytes, counted_all, counted_again}

-- ---- by what stands behind the count

pub text_good : (bytes s r : List ℕ) → counted_at bytes ≡ Ok (s, r) → IsUtf8 s → text_at bytes ≡ Ok (s, r)
unfolding text_at
text_good bytes s r e u = rw (e, is_utf8-from_IsUtf8 s u)

utf8_test : (s : List ℕ) → (IsUtf8 s → ⊥) → is_utf8 s ≡ false
utf8_test s n = by (is_utf8 s) refl
  where
    by : (b : Bool) → is_utf8 s ≡ b → b ≡ false
    by true e = absurd (n (IsUtf8-from_is_utf8 s e))
    by false e = refl

pub text_bad : (bytes s r : List ℕ) → counted_at bytes ≡ Ok (s, r) → (IsUtf8 s → ⊥) → text_at bytes ≡ Err BadUtf8
unfolding text_at
text_bad bytes s r e u = rw (e, utf8_test s u)

-- ---- there and back

-- what is known of a text that was read
abbrev IsTextAt : List ℕ → List ℕ → List ℕ → Type 0
IsTextAt bytes s r = (bytes ≡ counted s ++ r) × IsBytes r × IsUtf8 s × (length s < 2 ^ 64)

text_from : (bytes s r : List ℕ) (t : Bool) (u q : List ℕ) → is_utf8 s ≡ t → (bytes ≡ counted s ++ r) × IsBytes r
    × IsBytes s × (length s < 2 ^ 64)
    → cond {A = Result (List ℕ × List ℕ) BinKind} t (Ok (s, r)) (Err BadUtf8) ≡ Ok (u, q) → IsTextAt bytes u q
text_from bytes s r false u q d h e = cc
text_from bytes s r true u q d h e =
    let pq = parts s u r q e in
    let p : s ≡ u = pq.0 in
    let k : r ≡ q = pq.1 in
    subst (λ x. IsTextAt bytes x q) p (subst (λ y. IsTextAt bytes s y) k (h.0, h.1, IsUtf8-from_is_utf8 s d, h.3))

pub text_sound : (bytes s r : List ℕ) → IsBytes bytes → text_at bytes ≡ Ok (s, r) → (bytes ≡ counted s ++ r) × IsBytes r
    × IsUtf8 s × (length s < 2 ^ 64)
unfolding text_at
text_sound bytes s r all e =
    let x = bind_ok (counted_at bytes) _ _ e in
    text_from bytes x.0.0 x.0.1 (is_utf8 x.0.0) s r refl (counted_all bytes x.0.0 x.0.1 all x.1) x.2

pub text_again : (s r : List ℕ) → IsUtf8 s → length s < 2 ^ 64 → text_at (counted s ++ r) ≡ Ok (s, r)
text_again s r u l = text_good (counted s ++ r) s r (counted_again s r l) u
