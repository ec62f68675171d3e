-- The eight bytes of a double.
use Rattle.std.proofs.Common.{◌≡◌, ℕ, zero, suc, ◌^◌, ◌<◌, Bool, true, false, cond, eqb, List, [], ◌∷◌, ◌++◌, length}
use Rattle.std.proofs.Common.{get_or, Result, Ok, Err, refl, subst, sym, ap, ◌∙◌, lit<, arith}
use Rattle.std.specs.Int.{w64, to_be_bytes, from_be_bytes}
use Rattle.std.proofs.lemmas.Bool.{eqb-true}
use Rattle.std.proofs.lemmas.Nat.{be_bytes_8, from_be_bytes-to_be_bytes_8}
use Rattle.pv_read.specs.Results.{◌>>=◌}
use Rattle.pv_binary.specs.Reading.{split_at, double_at}
use Rattle.pv_binary.specs.declared.faults.BinKind.{BinKind}
use Rattle.pv_binary.specs.declared.faults.BinKind.TheVariants.{BadTag}
use Rattle.pv_read.specs.Lemmas.Binds.{ok_pair, parts, bind_ok}
use Rattle.pv_binary.proofs.Bytes.{worth, worth_small, length-high}
use Rattle.pv_binary.proofs.Varints.{IsBytes, IsBytes-append, split_again, split_sound}

each_byte : (bs : List ℕ) → IsBytes bs → (i : ℕ) → get_or bs i 0 < 256
each_byte [] h i = lit< tt
each_byte (b ∷ bs) h zero = h.0
each_byte (b ∷ bs) h (suc i) = each_byte bs h.1 i

worth_8 : (b0 b1 b2 b3 b4 b5 b6 b7 : ℕ) → from_be_bytes w64 (b0 ∷ b1 ∷ b2 ∷ b3 ∷ b4 ∷ b5 ∷ b6 ∷ b7 ∷ [])
    ≡ worth (b0 ∷ b1 ∷ b2 ∷ b3 ∷ b4 ∷ b5 ∷ b6 ∷ b7 ∷ [])
worth_8 b0 b1 b2 b3 b4 b5 b6 b7 = omega arith

from_bytes : (bs : List ℕ) → length bs ≡ 8 → from_be_bytes w64 bs ≡ worth bs
from_bytes ([]) l = absurd (omega arith)
from_bytes (b0 ∷ []) l = absurd (omega arith)
from_bytes (b0 ∷ b1 ∷ []) l = absurd (omega arith)
from_bytes (b0 ∷ b1 ∷ b2 ∷ []) l = absurd (omega arith)
from_bytes (b0 ∷ b1 ∷ b2 ∷ b3 ∷ []) l = absurd (omega arith)
from_bytes (b0 ∷ b1 ∷ b2 ∷ b3 ∷ b4 ∷ []) l = absurd (omega arith)
from_bytes (b0 ∷ b1 ∷ b2 ∷ b3 ∷ b4 ∷ b5 ∷ []) l = absurd (omega arith)
from_bytes (b0 ∷ b1 ∷ b2 ∷ b3 ∷ b4 ∷ b5 ∷ b6 ∷ []) l = absurd (omega arith)
from_bytes (b0 ∷ b1 ∷ b2 ∷ b3 ∷ b4 ∷ b5 ∷ b6 ∷ b7 ∷ []) l = worth_8 b0 b1 b2 b3 b4 b5 b6 b7
from_bytes (b0 ∷ b1 ∷ b2 ∷ b3 ∷ b4 ∷ b5 ∷ b6 ∷ b7 ∷ c ∷ bs) l = absurd (omega arith)

-- what is known of a double that was read
abbrev IsDouble : List ℕ → ℕ → List ℕ → Type 0
IsDouble bytes n r = (n < 2 ^ 64) × (bytes ≡ 8 ∷ (to_be_bytes w64 n ++ r)) × IsBytes r

double_from : (bs s r : List ℕ) (n : ℕ) (q : List ℕ) → IsBytes bs → length s ≡ 8 → bs ≡ s ++ r
    → ok_pair {E = BinKind} (from_be_bytes w64 s) r ≡ ok_pair n q → IsDouble (8 ∷ bs) n q
double_from bs s r n q all l is e =
    let pq = parts (from_be_bytes w64 s) n r q e in
    let p : from_be_bytes w64 s ≡ n = pq.0 in
    let k : r ≡ q = pq.1 in
    let both = IsBytes-append s r (subst IsBytes is all) in
    let t : to_be_bytes w64 n ≡ s = be_bytes_8 s n l (each_byte s both.0) (sym p) in
    let small : worth s < 256 ^ 8 = subst (λ j. worth s < 256 ^ j) l (worth_small s both.0) in
    let v : n ≡ worth s = sym p ∙ from_bytes s l in
    (subst (λ m. m < 2 ^ 64) (sym v) small, ap (λ (x : List ℕ). 8 ∷ x) (is ∙ (λ i. sym t i ++ k i)), rw (← k) both.1)

double_cases : (b : ℕ) (bs : List ℕ) (t : Bool) (n : ℕ) (r : List ℕ) → eqb b 8 ≡ t → IsBytes bs
    → cond {A = Result (ℕ × List ℕ) BinKind} t (split_at 8 bs >>= λ s. Ok (from_be_bytes w64 s.0, s.1)) (Err BadTag)
    ≡ Ok (n, r) → IsDouble (b ∷ bs) n r
double_cases b bs false n r d all e = cc
double_cases b bs true n r d all e =
    let x = bind_ok (split_at 8 bs) _ _ e in
    let h = split_sound 8 bs x.0.0 x.0.1 x.1 in
    subst (λ c. IsDouble (c ∷ bs) n r) (sym (eqb-true b 8 d)) (double_from bs x.0.0 x.0.1 n r all h.0 h.1 x.2)

pub double_sound : (bytes : List ℕ) (n : ℕ) (r : List ℕ) → IsBytes bytes → double_at bytes ≡ Ok (n, r) → (n < 2 ^ 64)
    × (bytes ≡ 8 ∷ (to_be_bytes w64 n ++ r)) × IsBytes r
unfolding double_at
double_sound [] n r all e = cc
double_sound (b ∷ bs) n r all e = double_cases b bs (eqb b 8) n r refl all.1 e

pub double_again : (n : ℕ) (r : List ℕ) → n < 2 ^ 64 → double_at (8 ∷ (to_be_bytes w64 n ++ r)) ≡ Ok (n, r)
unfolding double_at
double_again n r l =
    let s = to_be_bytes w64 n in
    let k : length s ≡ 8 = length-high 8 n in
    let a : split_at 8 (s ++ r) ≡ Ok (s, r) = subst (λ j. split_at j (s ++ r) ≡ Ok (s, r)) k (split_again s r) in
    rw (a, from_be_bytes-to_be_bytes_8 n l)
