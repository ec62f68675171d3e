-- Digits up to their close: what stands for something is read whatever follows it, and so it stands; and the faults.
use Rattle.std.proofs.Common.{◌≡◌, ℕ, ◌+◌, ◌-◌, ◌*◌, eqb, ltb, Bool, true, false, cond, not, ◌&&◌, ◌||◌, List, [], ◌∷◌}
use Rattle.std.proofs.Common.{◌++◌, length, Option, Some, None, Result, Ok, Err, refl, sym, ap, ◌∙◌, subst, inl, inr}
use Rattle.std.proofs.Common.{eq-eqb}
use Rattle.std.specs.Prelude.{is_some, IsSome, option_map, ok_or}
use Rattle.std.specs.Option.{option_and_then}
use Rattle.std.specs.Int.{w64, from_be_bytes}
use Rattle.std.proofs.lemmas.Bool.{not-true, eqb-true, eqb-false, ne_eqb}
use Rattle.std.proofs.lemmas.List.{append-nil}
use Rattle.pv_read.specs.Results.{◌>>=◌}
use Rattle.pv_read.specs.Lemmas.Binds.{Told}
use Rattle.pv_lex.specs.Characters.{is_space, hex_digit, all_of, run}
use Rattle.pv_lex.specs.ByteTexts.{hex_in, hex_bytes, sextet, group_bytes, last_bytes, is_padding, base64_in}
use Rattle.pv_lex.specs.ByteTexts.{double_bits, may_stand_in_hex, may_stand_in_base64, up_to, enclosed}
use Rattle.pv_lex.specs.Lexing.{decoded}
use Rattle.pv_lex.specs.TokenFaults.{IsForeign, IsMiscounted, DigitsFault}
use Rattle.pv_lex.specs.Lemmas.Runs.{Parts, run_parts, run_is}
use Rattle.pv_lex.specs.declared.faults.TextKind.{TextKind}
use Rattle.pv_lex.specs.declared.faults.TextKind.TheVariants as fault

mapped : {A B : Type 0} (f : A → B) (o : Option A) (t : B) → option_map f o ≡ Some t → (s : A) × (o ≡ Some s)
mapped f None t e = cc
mapped f (Some s) t e = (s, refl)

none_of : {A : Type 0} (o : Option A) → (IsSome o → ⊥) → o ≡ None
none_of None n = refl
none_of (Some x) n = absurd (n refl)

-- ---- up to the close

module _ {A : Type 0} (may : ℕ → Bool) (close : ℕ) (decode : List ℕ → Option A) where
  abbrev pub read : List ℕ → Result (A × List ℕ) TextKind
  read bytes = decoded decode (enclosed may close bytes)

  abbrev pub Stands : List ℕ → A × List ℕ → Type 0
  Stands bytes x = (s : List ℕ) × (bytes ≡ s ++ close ∷ x.1) × (decode s ≡ Some x.0)

  abbrev pub Faults : List ℕ → TextKind → Type 0
  Faults bytes k = DigitsFault may (λ s. IsSome (decode s)) close bytes k

  pub digits_told : (bytes : List ℕ) → Told (Stands bytes) (Faults bytes) (read bytes)
  digits_told bytes = by_parts (run may bytes) (run_parts may bytes)
    where
      judged : (s r : List ℕ) → bytes ≡ s ++ close ∷ r → all_of may s ≡ true → (o : Option A) → decode s ≡ o
          → Told (Stands bytes) (Faults bytes) (ok_or o fault.BadBytes >>= λ y. Ok (y, r))
      judged s r is all None e = inr (s, r, is, all, (λ g. let w = ap (λ x. is_some x) e in cc))
      judged s r is all (Some y) e = (s, is, e)

      by_first : (b : ℕ) (s r : List ℕ) → Parts may bytes (s, b ∷ r) → (t : Bool) → eqb b close ≡ t
          → Told (Stands bytes) (Faults bytes) (decoded decode (cond t (Ok (s, r)) (Err fault.BadBytes)))
      by_first b s r p true e = judged s r (p.0 ∙ ap (λ c. s ++ c ∷ r) (eqb-true b close e)) p.1 (decode s) refl
      by_first b s r p false e = inl (s, b, r, p.0, p.1, eqb-false b close e, not-true (may b) p.2)

      by_parts : (x : List ℕ × List ℕ) → Parts may bytes x
          → Told (Stands bytes) (Faults bytes) (decoded decode (up_to close x))
      by_parts (s, []) p = subst (λ y. all_of may y ≡ true) (sym (p.0 ∙ append-nil s)) p.1
      by_parts (s, b ∷ r) p = by_first b s r p (eqb b close) refl

  -- ---- the other way round

  closed : (never : may close ≡ false) (s r : List ℕ) → all_of may s ≡ true → enclosed may close (s ++ close ∷ r)
      ≡ Ok (s, r)
  closed never s r all = rw (run_is may s (close ∷ r) all (ap not never), eq-eqb close close refl)

  pub digits_read : (never : may close ≡ false) (s r : List ℕ) (y : A) → all_of may s ≡ true → decode s ≡ Some y
      → read (s ++ close ∷ r) ≡ Ok (y, r)
  digits_read never s r y all e = rw (closed never s r all, e)

  foreign : (bytes : List ℕ) → IsForeign may close bytes → read bytes ≡ Err fault.BadBytes
  foreign bytes (s, b, r, is, all, n, m) = rw (is, run_is may s (b ∷ r) all (ap not m), ne_eqb b close n)

  miscounted : (never : may close ≡ false) (bytes : List ℕ) → IsMiscounted may (λ s. IsSome (decode s)) close bytes
      → read bytes ≡ Err fault.BadBytes
  miscounted never bytes (s, r, is, all, bad) = rw (is, closed never s r all, none_of (decode s) bad)

  unclosed : (bytes : List ℕ) → all_of may bytes ≡ true → read bytes ≡ Err fault.Unclosed
  unclosed bytes all =
      let is : run may bytes ≡ (bytes, []) = ap (run may) (sym (append-nil bytes)) ∙ run_is may bytes [] all refl in
      rw is

  pub digits_faulty : (never : may close ≡ false) (bytes : List ℕ) (k : TextKind) → Faults bytes k → read bytes ≡ Err k
  digits_faulty never bytes fault.Unclosed h = unclosed bytes h
  digits_faulty never bytes fault.BadBytes (inl h) = foreign bytes h
  digits_faulty never bytes fault.BadBytes (inr h) = miscounted never bytes h
  digits_faulty never bytes k h = absurd h

-- ---- hexadecimal digits

hex_step : (all : Bool) (p : Bool) (o : Option ℕ) (a : Option (List ℕ)) (f : ℕ → Option (List ℕ)) (t : List ℕ)
    → ((t : List ℕ) → a ≡ Some t → all ≡ true) → ((d : ℕ) (t : List ℕ) → f d ≡ Some t → all ≡ true)
    → cond p a (option_and_then f o) ≡ Some t → ((p || is_some o) && all) ≡ true
hex_step all true o a f t g h e = g t e
hex_step all false None a f t g h e = cc
hex_step all false (Some d) a f t g h e = h d t e

pub hex_stand : (high : Option ℕ) (s t : List ℕ) → hex_in high s ≡ Some t → all_of may_stand_in_hex s ≡ true
hex_stand high [] t e = refl
hex_stand None (b ∷ bs) t e =
    hex_step (all_of may_stand_in_hex bs) (is_space b) (hex_digit b) (hex_in None bs) (λ d. hex_in (Some d) bs) t
    (λ u g. hex_stand None bs u g) (λ d u g. hex_stand (Some d) bs u g) e
hex_stand (Some h) (b ∷ bs) t e =
    hex_step (all_of may_stand_in_hex bs) (is_space b) (hex_digit b) (hex_in (Some h) bs)
    (λ d. option_map (λ s. (16 * h + d) ∷ s) (hex_in None bs)) t (λ u g. hex_stand (Some h) bs u g)
    (λ d u g. let m = mapped (λ s. (16 * h + d) ∷ s) (hex_in None bs) u g in hex_stand None bs m.0 m.1) e

-- ---- base64

padding_step : (all : Bool) (p q l : Bool) (a c : Bool) (x : Bool) → (a ≡ true → all ≡ true) → (c ≡ true → all ≡ true)
    → cond p a ((q && l) && c) ≡ true → (((p || q) || x) && all) ≡ true
padding_step all true q l a c x g h e = g e
padding_step all false true true a c x g h e = h e
padding_step all false true false a c x g h e = cc
padding_step all false false l a c x g h e = cc

pub padding_stands : (m : ℕ) (s : List ℕ) → is_padding m s ≡ true → all_of may_stand_in_base64 s ≡ true
padding_stands m [] e = refl
padding_stands m (b ∷ bs) e =
    padding_step (all_of may_stand_in_base64 bs) (is_space b) (eqb b 61) (ltb 0 m) (is_padding m bs)
    (is_padding (m - 1) bs) (is_some (sextet b)) (λ g. padding_stands m bs g) (λ g. padding_stands (m - 1) bs g) e

base64_step : (all : Bool) (p q l c : Bool) (o : Option ℕ) (a z : Option (List ℕ)) (f : ℕ → Option (List ℕ))
    (t : List ℕ)
    → ((t : List ℕ) → a ≡ Some t → all ≡ true) → (c ≡ true → all ≡ true)
    → ((d : ℕ) (t : List ℕ) → f d ≡ Some t → all ≡ true)
    → cond p a (cond q (cond (l && c) z None) (option_and_then f o)) ≡ Some t → (((p || q) || is_some o) && all) ≡ true
base64_step all true q l c o a z f t g h i e = g t e
base64_step all false true true true o a z f t g h i e = h refl
base64_step all false true true false o a z f t g h i e = cc
base64_step all false true false c o a z f t g h i e = cc
base64_step all false false l c None a z f t g h i e = cc
base64_step all false false l c (Some d) a z f t g h i e = i d t e

group_step : (all : Bool) (p : Bool) (f : List ℕ → List ℕ) (a c : Option (List ℕ)) (t : List ℕ)
    → ((t : List ℕ) → a ≡ Some t → all ≡ true) → ((t : List ℕ) → c ≡ Some t → all ≡ true) → cond p (option_map f a) c
    ≡ Some t → all ≡ true
group_step all true f a c t g h e = let m = mapped f a t e in g m.0 m.1
group_step all false f a c t g h e = h t e

pub base64_stand : (k n : ℕ) (s t : List ℕ) → base64_in k n s ≡ Some t → all_of may_stand_in_base64 s ≡ true
base64_stand k n [] t e = refl
base64_stand k n (b ∷ bs) t e =
    base64_step (all_of may_stand_in_base64 bs) (is_space b) (eqb b 61) (ltb 0 k) (is_padding (3 - k) bs) (sextet b)
    (base64_in k n bs) (last_bytes k n)
    (λ d. cond (eqb k 3) (option_map (λ s. group_bytes (64 * n + d) ++ s) (base64_in 0 0 bs))
    (base64_in (k + 1) (64 * n + d) bs)) t
    (λ u g. base64_stand k n bs u g) (λ g. padding_stands (3 - k) bs g)
    (λ d u g. group_step (all_of may_stand_in_base64 bs) (eqb k 3) (λ s. group_bytes (64 * n + d) ++ s)
    (base64_in 0 0 bs) (base64_in (k + 1) (64 * n + d) bs) u (λ v w. base64_stand 0 0 bs v w)
    (λ v w. base64_stand (k + 1) (64 * n + d) bs v w) g) e

-- the digits of a double
bits_hex : (o : Option (List ℕ)) (n : ℕ)
    → option_and_then (λ s. cond (eqb (length s) 8) (Some (from_be_bytes w64 s)) None) o ≡ Some n → (t : List ℕ)
    × (o ≡ Some t)
bits_hex None n e = cc
bits_hex (Some t) n e = (t, refl)

pub digits_of : (s : List ℕ) (n : ℕ) → double_bits s ≡ Some n → (t : List ℕ) × (hex_bytes s ≡ Some t)
unfolding double_bits
digits_of s n e = bits_hex (hex_bytes s) n e
