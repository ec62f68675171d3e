-- Numbers in bytes of seven bits, and bytes behind their count: what is read was written, and the other way round.
use Rattle.std.proofs.Common.{◌≡◌, ℕ, length-take-le, take-append-drop, nat_lt, eqb, subst, length-append, zero, suc}
use Rattle.std.proofs.Common.{◌+◌, ◌-◌, ◌*◌, ◌/◌, ◌%◌, ◌^◌, ◌<◌, ◌≤◌, Bool, true, false, cond, List, [], ◌∷◌, ◌++◌}
use Rattle.std.proofs.Common.{length, take, drop, Result, Ok, Err, refl, sym, ap, ◌∙◌, append_assoc, arith}
use Rattle.std.proofs.Math.Nat.{pow-succ'}
use Rattle.std.proofs.Math.Seq.{take-append_seam, drop-append_seam}
use Rattle.std.proofs.lemmas.Bool.{lt-ltb, le-ltb, ltb-true, ltb-false, ne_eqb, eqb-true, eqb-false}
use Rattle.std.specs.List.{AllByRecursion}
use Rattle.pv_read.specs.Lemmas.Binds.{parts, bind_ok}
use Rattle.pv_binary.proofs.Numbers.{power_some}
use Rattle.pv_binary.specs.Numbers.{varint_in, varint, counted}
use Rattle.pv_binary.specs.Reading.{with_higher, varint_at, split_at, counted_at}
use Rattle.pv_binary.specs.declared.faults.BinKind.{BinKind}
use Rattle.pv_binary.specs.declared.faults.BinKind.TheVariants.{Truncated, LongVarint}

abbrev pub IsBytes : List ℕ → Type 0
IsBytes bs = AllByRecursion (λ b. b < 256) bs

pub IsBytes-append : (xs ys : List ℕ) → IsBytes (xs ++ ys) → IsBytes xs × IsBytes ys
IsBytes-append [] ys h = (tt, h)
IsBytes-append (x ∷ xs) ys h = let r = IsBytes-append xs ys h.1 in ((h.0, r.0), r.1)

enough : (k j n : ℕ) → n ≤ k → n ≤ j → varint_in k n ≡ varint_in j n
enough zero zero n a b = refl
enough zero (suc j) n a b = rw (lt-ltb n 128 (omega arith))
enough (suc k) zero n a b = rw (lt-ltb n 128 (omega arith))
enough (suc k) (suc j) n a b = by (nat_lt n 128) refl (λ l. enough k j (n / 128) (omega arith) (omega arith))
  where
    by : (t : Bool) → nat_lt n 128 ≡ t → (128 ≤ n → varint_in k (n / 128) ≡ varint_in j (n / 128))
        → cond t (n ∷ []) ((n % 128 + 128) ∷ varint_in k (n / 128))
        ≡ cond t (n ∷ []) ((n % 128 + 128) ∷ varint_in j (n / 128))
    by true e f = refl
    by false e f = ap (λ bs. (n % 128 + 128) ∷ bs) (f (ltb-false n 128 e))

pub varint_last : (n : ℕ) → n < 128 → varint n ≡ n ∷ []
unfolding varint
varint_last zero h = refl
varint_last (suc n) h = rw (lt-ltb (suc n) 128 h)

pub varint_step : (n : ℕ) → 128 ≤ n → varint n ≡ (n % 128 + 128) ∷ varint (n / 128)
unfolding varint
varint_step zero h = absurd (omega arith)
varint_step (suc n) h = rw (le-ltb (suc n) 128 h)
    (ap (λ bs. (suc n % 128 + 128) ∷ bs) (enough n (suc n / 128) (suc n / 128) (omega arith) (omega arith)))

-- ---- what was written is read

again_more : (k n : ℕ) (r : List ℕ) → 128 ≤ n → varint_at k (varint (n / 128) ++ r) ≡ Ok (n / 128, r)
    → varint_at (suc k) (varint n ++ r) ≡ Ok (n, r)
again_more k n r h ih =
    let a : nat_lt (n % 128 + 128) 128 ≡ false = le-ltb (n % 128 + 128) 128 (omega arith) in
    let b : eqb (n / 128) 0 ≡ false = ne_eqb (n / 128) 0 (λ e. omega arith) in
    let c : n % 128 + 128 - 128 + 128 * (n / 128) ≡ n = omega arith in
    rw (varint_step n h, a, ih, b, c)

again_cases : (k n : ℕ) (r : List ℕ) (t : Bool) → nat_lt n 128 ≡ t
    → (128 ≤ n → varint_at k (varint (n / 128) ++ r) ≡ Ok (n / 128, r)) → varint_at (suc k) (varint n ++ r) ≡ Ok (n, r)
again_cases k n r true e f = rw (varint_last n (ltb-true n 128 e), e)
again_cases k n r false e f = again_more k n r (ltb-false n 128 e) (f (ltb-false n 128 e))

-- the last byte that may be reached isn't zero
varint_one : (n : ℕ) (r : List ℕ) → 0 < n → n < 2 → varint_at 0 (varint n ++ r) ≡ Ok (n, r)
varint_one zero r a b = absurd (omega arith)
varint_one (suc zero) r a b = rw (varint_last 1 (omega arith))
varint_one (suc (suc n)) r a b = absurd (omega arith)

pub varint_some : (k n : ℕ) (r : List ℕ) → 0 < n → n < 2 * 128 ^ k → varint_at k (varint n ++ r) ≡ Ok (n, r)
varint_some zero n r p h = varint_one n r p (omega (arith, h))
varint_some (suc k) n r p h =
    let l : n < 2 * (128 * 128 ^ k) = rw (pow-succ' 128 k) at h in
    again_cases k n r (nat_lt n 128) refl (λ m. varint_some k (n / 128) r (omega arith) (omega arith))

pub varint_again : (k n : ℕ) (r : List ℕ) → n < 2 * 128 ^ suc k → varint_at (suc k) (varint n ++ r) ≡ Ok (n, r)
varint_again k n r h =
    let l : n < 2 * (128 * 128 ^ k) = rw (pow-succ' 128 k) at h in
    again_cases k n r (nat_lt n 128) refl (λ m. varint_some k (n / 128) r (omega arith) (omega arith))

-- ---- what is read was written so, and is small

-- what is known of a number that was read
abbrev pub Written : ℕ → List ℕ → ℕ → List ℕ → Type 0
Written k bytes n r = (bytes ≡ varint n ++ r) × IsBytes r × (n < 2 * 128 ^ k)

sound_test : (k b : ℕ) (bs : List ℕ) (m : ℕ) (s : List ℕ) (t : Bool) (n : ℕ) (r : List ℕ) → eqb m 0 ≡ t → b < 256
    → 128 ≤ b → Written k bs m s
    → cond {A = Result (ℕ × List ℕ) BinKind} t (Err LongVarint) (Ok (b - 128 + 128 * m, s)) ≡ Ok (n, r)
    → Written (suc k) (b ∷ bs) n r
sound_test k b bs m s true n r d u l h e = cc
sound_test k b bs m s false n r d u l h e =
    let pq = parts (b - 128 + 128 * m) n s r e in
    let p : b - 128 + 128 * m ≡ n = pq.0 in
    let q : s ≡ r = pq.1 in
    let ne : m ≡ 0 → ⊥ = eqb-false m 0 d in
    let big : 128 ≤ n = omega arith in
    let x : n / 128 ≡ m = omega arith in
    let y : n % 128 + 128 ≡ b = omega arith in
    let z : m < 2 * 128 ^ k = h.2 in
    (rw (varint_step n big, x, y, ← q) (ap (λ t. b ∷ t) h.0), rw (← q) h.1, rw (pow-succ' 128 k) (omega arith))

sound_high : (k b : ℕ) (bs : List ℕ) (o : Result (ℕ × List ℕ) BinKind) (n : ℕ) (r : List ℕ) → b < 256 → 128 ≤ b
    → ((m : ℕ) (s : List ℕ) → o ≡ Ok (m, s) → Written k bs m s)
    → with_higher b o ≡ Ok (n, r) → Written (suc k) (b ∷ bs) n r
sound_high k b bs (Err f) n r u l g e = cc
sound_high k b bs (Ok h) n r u l g e = sound_test k b bs h.0 h.1 (eqb h.0 0) n r refl u l (g h.0 h.1 refl) e

sound_cases : (k b : ℕ) (bs : List ℕ) (o : Result (ℕ × List ℕ) BinKind) (t : Bool) (n : ℕ) (r : List ℕ) → nat_lt b 128
    ≡ t → b < 256 → IsBytes bs → ((m : ℕ) (s : List ℕ) → o ≡ Ok (m, s) → Written k bs m s)
    → cond {A = Result (ℕ × List ℕ) BinKind} t (Ok (b, bs)) (with_higher b o) ≡ Ok (n, r) → Written (suc k) (b ∷ bs) n r
sound_cases k b bs o true n r d u all f e =
    let pq = parts b n bs r e in
    let p : b ≡ n = pq.0 in
    let q : bs ≡ r = pq.1 in
    let l : b < 128 = ltb-true b 128 d in
    (rw (← p, ← q, varint_last b l), rw (← q) all, rw (pow-succ' 128 k) (omega (arith, power_some k)))
sound_cases k b bs o false n r d u all f e = sound_high k b bs o n r u (ltb-false b 128 d) f e

sound_last : (b : ℕ) (bs : List ℕ) (t : Bool) (n : ℕ) (r : List ℕ) → eqb b 1 ≡ t → IsBytes bs
    → cond {A = Result (ℕ × List ℕ) BinKind} t (Ok (1, bs)) (Err LongVarint) ≡ Ok (n, r) → Written 0 (b ∷ bs) n r
sound_last b bs false n r d all e = cc
sound_last b bs true n r d all e =
    let pq = parts 1 n bs r e in
    let p : 1 ≡ n = pq.0 in
    let q : bs ≡ r = pq.1 in
    (rw (eqb-true b 1 d, ← p, ← q, varint_last 1 (omega arith)), rw (← q) all, omega arith)

pub varint_sound : (k : ℕ) (bytes : List ℕ) (n : ℕ) (r : List ℕ) → IsBytes bytes → varint_at k bytes ≡ Ok (n, r)
    → Written k bytes n r
varint_sound k [] n r all e = cc
varint_sound zero (b ∷ bs) n r all e = sound_last b bs (eqb b 1) n r refl all.1 e
varint_sound (suc k) (b ∷ bs) n r all e =
    sound_cases k b bs (varint_at k bs) (nat_lt b 128) n r refl all.0 all.1 (λ m s d. varint_sound k bs m s all.1 d) e

-- ---- counted bytes

-- what is known of bytes that were split off
abbrev pub IsSplit : ℕ → List ℕ → List ℕ → List ℕ → Type 0
IsSplit n bytes s r = (length s ≡ n) × (bytes ≡ s ++ r)

pub split_again : (s r : List ℕ) → split_at (length s) (s ++ r) ≡ Ok (s, r)
split_again s r =
    let b : nat_lt (length (s ++ r)) (length s) ≡ false =
    le-ltb (length (s ++ r)) (length s) (omega (arith, length-append s r)) in
    rw (b, take-append_seam s r, drop-append_seam s r)

split_test : (m : ℕ) (t : List ℕ) (b : Bool) (s r : List ℕ) → nat_lt (length t) m ≡ b
    → cond {A = Result (List ℕ × List ℕ) BinKind} b (Err Truncated) (Ok (take m t, drop m t)) ≡ Ok (s, r)
    → IsSplit m t s r
split_test m t true s r d e = cc
split_test m t false s r d e =
    let l : m ≤ length t = ltb-false (length t) m d in
    let pq = parts (take m t) s (drop m t) r e in
    let p : take m t ≡ s = pq.0 in
    let q : drop m t ≡ r = pq.1 in
    (ap length (sym p) ∙ length-take-le m t l, sym (take-append-drop m t) ∙ (λ i. p i ++ q i))

pub split_sound : (m : ℕ) (t s r : List ℕ) → split_at m t ≡ Ok (s, r) → IsSplit m t s r
split_sound m t s r e = split_test m t (nat_lt (length t) m) s r refl e

pub counted_again : (s r : List ℕ) → length s < 2 ^ 64 → counted_at (counted s ++ r) ≡ Ok (s, r)
unfolding counted_at
counted_again s r h =
    let a : varint_at 9 (varint (length s) ++ (s ++ r)) ≡ Ok (length s, s ++ r) =
    varint_again 8 (length s) (s ++ r) h in
    rw (append_assoc (varint (length s)) s r, a) (split_again s r)

-- what is known of bytes behind their count
abbrev Counted : List ℕ → List ℕ → List ℕ → Type 0
Counted bytes s r = (bytes ≡ counted s ++ r) × IsBytes r × IsBytes s × (length s < 2 ^ 64)

pub counted_from : (bytes : List ℕ) (m : ℕ) (t s r : List ℕ) → Written 9 bytes m t → split_at m t ≡ Ok (s, r)
    → Counted bytes s r
counted_from bytes m t s r g e =
    let k = split_sound m t s r e in
    let n : length s ≡ m = k.0 in
    let small : m < 2 ^ 64 = g.2 in
    let is : varint m ++ t ≡ counted s ++ r = rw (n, append_assoc (varint m) s r) (ap (λ x. varint m ++ x) k.1) in
    let all = IsBytes-append s r (subst IsBytes k.1 g.1) in
    (g.0 ∙ is, all.1, all.0, subst (λ j. j < 2 ^ 64) (sym n) small)

pub counted_all : (bytes s r : List ℕ) → IsBytes bytes → counted_at bytes ≡ Ok (s, r) → Counted bytes s r
unfolding counted_at
counted_all bytes s r all e =
    let x = bind_ok (varint_at 9 bytes) _ _ e in
    counted_from bytes x.0.0 x.0.1 s r (varint_sound 9 bytes x.0.0 x.0.1 all x.1) x.2

pub counted_sound : (bytes s r : List ℕ) → IsBytes bytes → counted_at bytes ≡ Ok (s, r) → (bytes ≡ counted s ++ r)
    × IsBytes r
counted_sound bytes s r all e = let h = counted_all bytes s r all e in (h.0, h.1)

pub counted_small : (bytes s r : List ℕ) → IsBytes bytes → counted_at bytes ≡ Ok (s, r) → length s < 2 ^ 64
counted_small bytes s r all e = (counted_all bytes s r all e).3
