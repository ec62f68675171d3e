-- Counts that are cut off, and bytes that are no count: what reading a count says of them, and the other way round.
use Rattle.std.proofs.Common.{◌≡◌, ℕ, nat_lt, eqb, zero, suc, ◌+◌, ◌-◌, ◌*◌, ◌/◌, ◌%◌, ◌^◌, ◌<◌, ◌≤◌, ◌≢◌, Bool, true}
use Rattle.std.proofs.Common.{false, cond, List, [], ◌∷◌, ◌++◌, Result, Ok, Err, refl, sym, ap, ◌∙◌, append_assoc, inl}
use Rattle.std.proofs.Common.{inr, ◌⊎◌, arith}
use Rattle.std.proofs.Math.Nat.{pow-succ'}
use Rattle.std.proofs.lemmas.Bool.{ltb-true, ltb-false, eqb-true, eqb-false}
use Rattle.std.proofs.lemmas.List.{append-nil}
use Rattle.pv_binary.specs.Numbers.{varint}
use Rattle.pv_binary.specs.Reading.{with_higher, varint_at}
use Rattle.pv_binary.specs.Fronts.{IsCountFront, IsNoCount, IsCounted}
use Rattle.pv_binary.specs.declared.faults.BinKind.{BinKind}
use Rattle.pv_binary.specs.declared.faults.BinKind.TheVariants.{Truncated, LongVarint}
use Rattle.pv_read.specs.Lemmas.Binds.{parts}
use Rattle.pv_binary.proofs.Numbers.{power_some}
use Rattle.pv_binary.proofs.Varints.{IsBytes, varint_last, varint_step, varint_sound, varint_again}

-- ---- the bytes of a count

varint_form : (n : ℕ) → ((n < 128) × (varint n ≡ n ∷ []))
    ⊎ ((128 ≤ n) × (varint n ≡ (n % 128 + 128) ∷ varint (n / 128)))
varint_form n = by (nat_lt n 128) refl
  where
    by : (t : Bool) → nat_lt n 128 ≡ t → ((n < 128) × (varint n ≡ n ∷ []))
        ⊎ ((128 ≤ n) × (varint n ≡ (n % 128 + 128) ∷ varint (n / 128)))
    by true e = inl (ltb-true n 128 e, varint_last n (ltb-true n 128 e))
    by false e = inr (ltb-false n 128 e, varint_step n (ltb-false n 128 e))

-- a count that begins with a byte that is not its last
begins_long : (n b : ℕ) (d x : List ℕ) → 128 ≤ b → varint n ++ x ≡ b ∷ d → (128 ≤ n) × (n % 128 + 128 ≡ b)
    × (varint (n / 128) ++ x ≡ d)
begins_long n b d x l e =
    elim (varint_form n) [
      | inl h ↦
          let k : n ∷ x ≡ b ∷ d = rw h.1 at e in
          let same : n ≡ b = cc in
          absurd (omega (arith, h.0))
      | inr h ↦
          let k : (n % 128 + 128) ∷ (varint (n / 128) ++ x) ≡ b ∷ d = rw h.1 at e in
          (h.0, (cc), (cc))
    ]

begins_short : (n b : ℕ) (d x : List ℕ) → b < 128 → varint n ++ x ≡ b ∷ d → n ≡ b
begins_short n b d x l e =
    elim (varint_form n) [
      | inl h ↦ let k : n ∷ x ≡ b ∷ d = rw h.1 at e in cc
      | inr h ↦
          let k : (n % 128 + 128) ∷ (varint (n / 128) ++ x) ≡ b ∷ d = rw h.1 at e in
          let same : n % 128 + 128 ≡ b = cc in
          absurd (omega arith)
    ]

-- ---- what reading a count says, after k more bytes of which the last holds one bit

-- the front of a count that isn't zero
abbrev CutAt : ℕ → List ℕ → Type 0
CutAt k c = (n : ℕ) × (d : List ℕ) × (0 < n) × (n < 2 * 128 ^ k) × (d ≢ []) × (varint n ≡ c ++ d)

-- neither a front of the count nor more than it
abbrev Differs : List ℕ → ℕ → Type 0
Differs c n = (d : List ℕ) → (varint n ≡ c ++ d → ⊥) × (c ≡ varint n ++ d → ⊥)

abbrev NoneFrom : ℕ → ℕ → List ℕ → Type 0
NoneFrom least k s = (c : List ℕ) × (r : List ℕ) × (s ≡ c ++ r) × ((n : ℕ) → least ≤ n → n < 2 * 128 ^ k → Differs c n)

cut_more : (k b : ℕ) (bs : List ℕ) → b < 256 → 128 ≤ b → CutAt k bs → CutAt (suc k) (b ∷ bs)
cut_more k b bs u l h =
    let m = h.0 in
    let n = b - 128 + 128 * m in
    let p : 0 < m = h.2 in
    let z : m < 2 * 128 ^ k = h.3 in
    let big : 128 ≤ n = omega arith in
    let x : n / 128 ≡ m = omega arith in
    let y : n % 128 + 128 ≡ b = omega arith in
    let is : varint n ≡ b ∷ (bs ++ h.1) = rw (varint_step n big, x, y) (ap (λ (t : List ℕ). b ∷ t) h.5) in
    (n, h.1, omega arith, rw (pow-succ' 128 k) (omega arith), h.4, is)

not_nil : (x : ℕ) (xs : List ℕ) → x ∷ xs ≡ [] → ⊥
not_nil x xs e = cc

cut_high : (k b : ℕ) (bs : List ℕ) (o : Result (ℕ × List ℕ) BinKind) → b < 256 → 128 ≤ b
    → (o ≡ Err Truncated → CutAt k bs) → with_higher b o ≡ Err Truncated → CutAt (suc k) (b ∷ bs)
cut_high k b bs (Err f) u l g e = cut_more k b bs u l (g (cc))
cut_high k b bs (Ok h) u l g e = by (eqb h.0 0) e
  where
    by : (t : Bool) → cond {A = Result (ℕ × List ℕ) BinKind} t (Err LongVarint) (Ok (b - 128 + 128 * h.0, h.1))
        ≡ Err Truncated → CutAt (suc k) (b ∷ bs)
    by true w = cc
    by false w = cc

cut_cases : (k b : ℕ) (bs : List ℕ) (o : Result (ℕ × List ℕ) BinKind) (t : Bool) → nat_lt b 128 ≡ t → b < 256
    → (o ≡ Err Truncated → CutAt k bs)
    → cond {A = Result (ℕ × List ℕ) BinKind} t (Ok (b, bs)) (with_higher b o) ≡ Err Truncated → CutAt (suc k) (b ∷ bs)
cut_cases k b bs o true d u g e = cc
cut_cases k b bs o false d u g e = cut_high k b bs o u (ltb-false b 128 d) g e

cut_last : (b : ℕ) (bs : List ℕ) (t : Bool) → cond {A = Result (ℕ × List ℕ) BinKind} t (Ok (1, bs)) (Err LongVarint)
    ≡ Err Truncated → CutAt 0 (b ∷ bs)
cut_last b bs true e = cc
cut_last b bs false e = cc

cut_at : (k : ℕ) (bytes : List ℕ) → IsBytes bytes → varint_at k bytes ≡ Err Truncated → CutAt k bytes
cut_at k [] all e = (1, 1 ∷ [], omega arith, omega (arith, power_some k), not_nil 1 [], varint_last 1 (omega arith))
cut_at zero (b ∷ bs) all e = cut_last b bs (eqb b 1) e
cut_at (suc k) (b ∷ bs) all e = cut_cases k b bs (varint_at k bs) (nat_lt b 128) refl all.0 (cut_at k bs all.1) e

-- no count goes on so behind a byte that is not its last
none_more : (k least b : ℕ) (bs : List ℕ) → 128 ≤ b → NoneFrom 1 k bs → NoneFrom least (suc k) (b ∷ bs)
none_more k least b bs l h = (b ∷ h.0, h.1, ap (λ (t : List ℕ). b ∷ t) h.2, λ n a z d. (from n z d, more n z d))
  where
    small : (n : ℕ) → 128 ≤ n → n < 2 * 128 ^ suc k → n / 128 < 2 * 128 ^ k
    small n big z = let y : n < 2 * (128 * 128 ^ k) = rw (pow-succ' 128 k) at z in omega arith

    from : (n : ℕ) → n < 2 * 128 ^ suc k → (d : List ℕ) → varint n ≡ b ∷ (h.0 ++ d) → ⊥
    from n z d e =
        let w = begins_long n b (h.0 ++ d) [] l (append-nil (varint n) ∙ e) in
        let big : 128 ≤ n = w.0 in
        (h.3 (n / 128) (omega arith) (small n big z) d).0 (sym (append-nil (varint (n / 128))) ∙ w.2)

    more : (n : ℕ) → n < 2 * 128 ^ suc k → (d : List ℕ) → b ∷ h.0 ≡ varint n ++ d → ⊥
    more n z d e =
        let w = begins_long n b h.0 d l (sym e) in
        let big : 128 ≤ n = w.0 in
        (h.3 (n / 128) (omega arith) (small n big z) d).1 (sym w.2)

-- a last byte that is zero
none_zero : (k : ℕ) (s : List ℕ) → NoneFrom 1 k (0 ∷ s)
none_zero k s = (0 ∷ [], s, refl, λ n a z d. (from n a d, more n a d))
  where
    from : (n : ℕ) → 1 ≤ n → (d : List ℕ) → varint n ≡ 0 ∷ d → ⊥
    from n a d e = let w : n ≡ 0 = begins_short n 0 d [] (omega arith) (append-nil (varint n) ∙ e) in omega arith

    more : (n : ℕ) → 1 ≤ n → (d : List ℕ) → 0 ∷ [] ≡ varint n ++ d → ⊥
    more n a d e = let w : n ≡ 0 = begins_short n 0 [] d (omega arith) (sym e) in omega arith

none_last : (b : ℕ) (bs : List ℕ) (t : Bool) → eqb b 1 ≡ t
    → cond {A = Result (ℕ × List ℕ) BinKind} t (Ok (1, bs)) (Err LongVarint) ≡ Err LongVarint → NoneFrom 1 0 (b ∷ bs)
none_last b bs true d e = cc
none_last b bs false d e = (b ∷ [], bs, refl, λ n a z c. (from n a z c, more n a z c))
  where
    ne : b ≡ 1 → ⊥
    ne = eqb-false b 1 d

    one : (n : ℕ) → 1 ≤ n → n < 2 * 128 ^ 0 → (x c : List ℕ) → varint n ++ x ≡ b ∷ c → ⊥
    one n a z x c w =
        let y : n ≡ 1 = omega arith in
        let k : 1 ∷ x ≡ b ∷ c = rw (y, varint_last 1 (omega arith)) at w in
        ne (cc)

    from : (n : ℕ) → 1 ≤ n → n < 2 * 128 ^ 0 → (c : List ℕ) → varint n ≡ b ∷ c → ⊥
    from n a z c e = one n a z [] c (append-nil (varint n) ∙ e)

    more : (n : ℕ) → 1 ≤ n → n < 2 * 128 ^ 0 → (c : List ℕ) → b ∷ [] ≡ varint n ++ c → ⊥
    more n a z c e = one n a z c [] (sym e)

none_zero_at : (k : ℕ) (bs s : List ℕ) (m : ℕ) → m ≡ 0 → bs ≡ varint m ++ s → NoneFrom 1 k bs
none_zero_at k bs s m e is =
    let w : bs ≡ 0 ∷ s = is ∙ rw (e, varint_last 0 (omega arith)) in
    rw w (none_zero k s)

none_high : (k least b : ℕ) (bs : List ℕ) (o : Result (ℕ × List ℕ) BinKind) → 128 ≤ b
    → ((m : ℕ) (s : List ℕ) → o ≡ Ok (m, s) → bs ≡ varint m ++ s) → (o ≡ Err LongVarint → NoneFrom 1 k bs)
    → with_higher b o ≡ Err LongVarint → NoneFrom least (suc k) (b ∷ bs)
none_high k least b bs (Err f) l is g e = none_more k least b bs l (g (cc))
none_high k least b bs (Ok h) l is g e = by (eqb h.0 0) refl e
  where
    by : (t : Bool) → eqb h.0 0 ≡ t
        → cond {A = Result (ℕ × List ℕ) BinKind} t (Err LongVarint) (Ok (b - 128 + 128 * h.0, h.1)) ≡ Err LongVarint
        → NoneFrom least (suc k) (b ∷ bs)
    by true t w = none_more k least b bs l (none_zero_at k bs h.1 h.0 (eqb-true h.0 0 t) (is h.0 h.1 refl))
    by false t w = cc

none_cases : (k least b : ℕ) (bs : List ℕ) (o : Result (ℕ × List ℕ) BinKind) (t : Bool) → nat_lt b 128 ≡ t
    → ((m : ℕ) (s : List ℕ) → o ≡ Ok (m, s) → bs ≡ varint m ++ s) → (o ≡ Err LongVarint → NoneFrom 1 k bs)
    → cond {A = Result (ℕ × List ℕ) BinKind} t (Ok (b, bs)) (with_higher b o) ≡ Err LongVarint
    → NoneFrom least (suc k) (b ∷ bs)
none_cases k least b bs o true d is g e = cc
none_cases k least b bs o false d is g e = none_high k least b bs o (ltb-false b 128 d) is g e

none_at : (k : ℕ) (bytes : List ℕ) → IsBytes bytes → varint_at k bytes ≡ Err LongVarint → NoneFrom 1 k bytes
none_at zero [] all e = cc
none_at (suc k) [] all e = cc
none_at zero (b ∷ bs) all e = none_last b bs (eqb b 1) refl e
none_at (suc k) (b ∷ bs) all e =
    none_cases k 1 b bs (varint_at k bs) (nat_lt b 128) refl (λ m s d. (varint_sound k bs m s all.1 d).0)
    (none_at k bs all.1) e

none_first : (k : ℕ) (bytes : List ℕ) → IsBytes bytes → varint_at (suc k) bytes ≡ Err LongVarint
    → NoneFrom 0 (suc k) bytes
none_first k [] all e = cc
none_first k (b ∷ bs) all e =
    none_cases k 0 b bs (varint_at k bs) (nat_lt b 128) refl (λ m s d. (varint_sound k bs m s all.1 d).0)
    (none_at k bs all.1) e

-- ---- a count's three answers

pub count_cut : (bytes : List ℕ) → IsBytes bytes → varint_at 9 bytes ≡ Err Truncated → IsCountFront bytes
count_cut bytes all e = let h = cut_at 9 bytes all e in (h.0, h.1, h.3, h.4, h.5)

pub count_none : (bytes : List ℕ) → IsBytes bytes → varint_at 9 bytes ≡ Err LongVarint → IsNoCount bytes
count_none bytes all e = let h = none_first 8 bytes all e in (h.0, h.1, h.2, λ n d l. h.3 n (omega arith) l d)

pub counted_from_read : (bytes : List ℕ) (n : ℕ) (s : List ℕ) → IsBytes bytes → varint_at 9 bytes ≡ Ok (n, s)
    → IsCounted bytes n s
counted_from_read bytes n s all e = let h = varint_sound 9 bytes n s all e in (h.2, h.0)

-- reading a count has no other fault
other_high : (b : ℕ) (o : Result (ℕ × List ℕ) BinKind) (f : BinKind) → (o ≡ Err f → (f ≡ Truncated) ⊎ (f ≡ LongVarint))
    → with_higher b o ≡ Err f → (f ≡ Truncated) ⊎ (f ≡ LongVarint)
other_high b (Err k) f g e = g e
other_high b (Ok h) f g e = by (eqb h.0 0) e
  where
    by : (t : Bool) → cond {A = Result (ℕ × List ℕ) BinKind} t (Err LongVarint) (Ok (b - 128 + 128 * h.0, h.1)) ≡ Err f
        → (f ≡ Truncated) ⊎ (f ≡ LongVarint)
    by true w = inr (cc)
    by false w = cc

other_cases : (b : ℕ) (bs : List ℕ) (o : Result (ℕ × List ℕ) BinKind) (t : Bool) (f : BinKind)
    → (o ≡ Err f → (f ≡ Truncated) ⊎ (f ≡ LongVarint))
    → cond {A = Result (ℕ × List ℕ) BinKind} t (Ok (b, bs)) (with_higher b o) ≡ Err f → (f ≡ Truncated)
    ⊎ (f ≡ LongVarint)
other_cases b bs o true f g e = cc
other_cases b bs o false f g e = other_high b o f g e

other_last : (bs : List ℕ) (t : Bool) (f : BinKind)
    → cond {A = Result (ℕ × List ℕ) BinKind} t (Ok (1, bs)) (Err LongVarint) ≡ Err f → (f ≡ Truncated)
    ⊎ (f ≡ LongVarint)
other_last bs true f e = cc
other_last bs false f e = inr (cc)

pub count_fault : (k : ℕ) (bytes : List ℕ) (f : BinKind) → varint_at k bytes ≡ Err f → (f ≡ Truncated)
    ⊎ (f ≡ LongVarint)
count_fault k [] f e = inl (cc)
count_fault zero (b ∷ bs) f e = other_last bs (eqb b 1) f e
count_fault (suc k) (b ∷ bs) f e = other_cases b bs (varint_at k bs) (nat_lt b 128) f (count_fault k bs f) e

-- ---- the other way round

pub count_read : (bytes : List ℕ) (n : ℕ) (s : List ℕ) → IsCounted bytes n s → varint_at 9 bytes ≡ Ok (n, s)
count_read bytes n s h = rw h.1 (varint_again 8 n s h.0)

-- of two lists that begin alike, one begins the other
one_begins : (a b x y : List ℕ) → a ++ x ≡ b ++ y → ((d : List ℕ) × (a ≡ b ++ d)) ⊎ ((d : List ℕ) × (b ≡ a ++ d))
one_begins [] b x y e = inr (b, refl)
one_begins (a ∷ as_) [] x y e = inl (a ∷ as_, refl)
one_begins (a ∷ as_) (b ∷ bs) x y e =
    let p : a ≡ b = cc in
    let q : as_ ++ x ≡ bs ++ y = cc in
    elim (one_begins as_ bs x y q) [
      | inl h ↦ inl (h.0, λ i. p i ∷ h.1 i)
      | inr h ↦ inr (h.0, λ i. sym p i ∷ h.1 i)
    ]

no_rest : (r d : List ℕ) → r ++ d ≡ [] → d ≡ []
no_rest [] d e = e
no_rest (x ∷ r) d e = cc

-- a count that is cut off goes on from no count
front_not_read : (bytes : List ℕ) → IsCountFront bytes → (n : ℕ) (s : List ℕ) → IsCounted bytes n s → ⊥
front_not_read bytes h n s c =
    let a : varint_at 9 (varint h.0 ++ []) ≡ Ok (h.0, []) = varint_again 8 h.0 [] h.2 in
    let is : varint h.0 ++ [] ≡ varint n ++ (s ++ h.1) =
    append-nil (varint h.0) ∙ h.4 ∙ ap (λ (x : List ℕ). x ++ h.1) c.1 ∙ append_assoc (varint n) s h.1 in
    let b : varint_at 9 (varint n ++ (s ++ h.1)) ≡ Ok (n, s ++ h.1) = varint_again 8 n (s ++ h.1) c.0 in
    let p = parts h.0 n [] (s ++ h.1) (sym a ∙ ap (varint_at 9) is ∙ b) in
    h.3 (no_rest s h.1 (sym p.1))

front_not_none : (bytes : List ℕ) → IsCountFront bytes → IsNoCount bytes → ⊥
front_not_none bytes h c =
    (c.3 h.0 (c.1 ++ h.1) h.2).0 (h.4 ∙ ap (λ (x : List ℕ). x ++ h.1) c.2 ∙ append_assoc c.0 c.1 h.1)

none_not_read : (bytes : List ℕ) → IsNoCount bytes → (n : ℕ) (s : List ℕ) → IsCounted bytes n s → ⊥
none_not_read bytes c n s h =
    elim (one_begins (varint n) c.0 s c.1 (sym h.1 ∙ c.2)) [
      | inl d ↦ (c.3 n d.0 h.0).0 d.1
      | inr d ↦ (c.3 n d.0 h.0).1 d.1
    ]

pub front_read : (bytes : List ℕ) → IsBytes bytes → IsCountFront bytes → varint_at 9 bytes ≡ Err Truncated
front_read bytes all h = by (varint_at 9 bytes) refl
  where
    by : (o : Result (ℕ × List ℕ) BinKind) → varint_at 9 bytes ≡ o → o ≡ Err Truncated
    by (Ok x) e = absurd (front_not_read bytes h x.0 x.1 (counted_from_read bytes x.0 x.1 all e))
    by (Err f) e =
        elim (count_fault 9 bytes f e) [
          | inl t ↦ ap (λ (k : BinKind). Err k) t
          | inr t ↦ absurd (front_not_none bytes h (count_none bytes all (e ∙ ap (λ (k : BinKind). Err k) t)))
        ]

pub none_read : (bytes : List ℕ) → IsBytes bytes → IsNoCount bytes → varint_at 9 bytes ≡ Err LongVarint
none_read bytes all h = by (varint_at 9 bytes) refl
  where
    by : (o : Result (ℕ × List ℕ) BinKind) → varint_at 9 bytes ≡ o → o ≡ Err LongVarint
    by (Ok x) e = absurd (none_not_read bytes h x.0 x.1 (counted_from_read bytes x.0 x.1 all e))
    by (Err f) e =
        elim (count_fault 9 bytes f e) [
          | inl t ↦ absurd (front_not_none bytes (count_cut bytes all (e ∙ ap (λ (k : BinKind). Err k) t)) h)
          | inr t ↦ ap (λ (k : BinKind). Err k) t
        ]
