-- Where no gap stands first, and what begins a value there: neither a mark that ends or parts something, nor an
-- annotation.
use Rattle.std.proofs.Common.{◌≡◌, ◌≢◌, ℕ, eqb, Bool, true, false, ◌&&◌, not, List, [], ◌∷◌, ◌++◌, length, refl, sym}
use Rattle.std.proofs.Common.{ap, subst, inl, inr, arith}
use Rattle.std.proofs.lemmas.Bool.{eqb-true, eqb-false, or_parts, or_from, and_cases, and_left, and_right, and_parts}
use Rattle.pv_value.specs.Plain.{Plain, boolean, double, integer, string, byte_string, symbol}
use Rattle.pv_lex.specs.Characters.{is_space, is_bare, begins_comment, all_of}
use Rattle.pv_lex.specs.Gaps.{after_blank}
use Rattle.pv_lex.specs.Atoms.{IsAtomOf, IsAtom}
use Rattle.pv_lex.specs.TokenFaults.{begins_token, BareFault, IsBareToken, TokenFault, in_string, in_symbol, no_string}
use Rattle.pv_lex.specs.TokenFaults.{no_symbol, in_ascii, in_hex, in_base64, in_double, in_bare, hash_alone, hex_alone}
use Rattle.pv_lex.specs.TokenFaults.{double_alone, other_hash, other_hex, other_double, other}
use Rattle.pv_lex.specs.Lemmas.GapLaws.{begins_none}
use Rattle.pv_lex.specs.Lemmas.Numerals.{integer_parts, integer_some, decimal_some}
use Rattle.pv_lex.specs.declared.kinds.AtomForm.{AtomForm}
use Rattle.pv_lex.specs.declared.kinds.AtomForm.TheVariants as form
use Rattle.pv_lex.specs.declared.faults.TextKind.{TextKind}
use Rattle.pv_lex.specs.declared.faults.TextKind.TheVariants as fault

-- no gap stands first, and nothing that ends or parts something, nor an annotation
abbrev pub BeginsCore : Bool → List ℕ → Type 0
BeginsCore commas bytes =
    (b : ℕ) × (bs : List ℕ) × (bytes ≡ b ∷ bs) × (after_blank commas (b ∷ bs) ≡ b ∷ bs) × (b ≢ 64) × (b ≢ 62) × (b ≢ 93)
    × (b ≢ 125) × (b ≢ 58)

-- no white space nor comment stands first
abbrev pub IsClear : List ℕ → Type 0
IsClear [] = Unit {0}
IsClear (b ∷ bs) = (is_space b ≡ false) × (b ≡ 35 → begins_comment bs ≡ false)

-- ---- gaps

pub clear : (commas : Bool) (b : ℕ) (bs : List ℕ) → after_blank commas (b ∷ bs) ≡ b ∷ bs → IsClear (b ∷ bs)
clear commas b bs e =
    let h = begins_none commas b bs e in (
      (or_parts (is_space b) _ h.1).0,
      λ is. elim (and_cases (eqb b 35) (begins_comment bs) h.0) [ inl w ↦ absurd (eqb-false b 35 w is) | inr w ↦ w ],
    )

pub stays : (commas : Bool) (b : ℕ) (bs : List ℕ) → IsClear (b ∷ bs) → (commas && eqb b 44) ≡ false
    → after_blank commas (b ∷ bs) ≡ b ∷ bs
stays commas b bs h e = rw (no_comment (eqb b 35) refl, or_from (is_space b) (commas && eqb b 44) h.0 e)
  where
    no_comment : (t : Bool) → eqb b 35 ≡ t → (eqb b 35 && begins_comment bs) ≡ false
    no_comment true d = and_right (eqb b 35) (begins_comment bs) (h.1 (eqb-true b 35 d))
    no_comment false d = and_left (eqb b 35) (begins_comment bs) d

-- ---- what begins a value

-- two numbers that a test tells apart
pub apart : (test : ℕ → Bool) (t : Bool) (b c : ℕ) → test b ≡ t → test c ≡ not t → eqb b c ≡ false
apart test t b c e f = by (eqb b c) t refl e f
  where
    by : (u t : Bool) → eqb b c ≡ u → test b ≡ t → test c ≡ not t → u ≡ false
    by true true d e f = let s = ap test (eqb-true b c d) in cc
    by true false d e f = let s = ap test (eqb-true b c d) in cc
    by false t d e f = refl

-- it neither ends nor parts anything
begins : (commas : Bool) (test : ℕ → Bool) (t : Bool) (b : ℕ) (bs : List ℕ) → IsClear (b ∷ bs) → test b ≡ t → test 44
    ≡ not t
    → test 64 ≡ not t → test 62 ≡ not t → test 93 ≡ not t → test 125 ≡ not t → test 58 ≡ not t
    → BeginsCore commas (b ∷ bs)
begins commas test t b bs h e e1 e2 e3 e4 e5 e6 =
    let unlike = λ (c : ℕ) (f : test c ≡ not t). eqb-false b c (apart test t b c e f) in (
      b,
      bs,
      refl,
      stays commas b bs h
          (and_right commas (eqb b 44)
          (apart test t b 44 e e1)),
      unlike 64 e2,
      unlike 62 e3,
      unlike 93 e4,
      unlike 125 e5,
      unlike 58 e6,
    )

begins_with : (commas : Bool) (c : ℕ) (bs : List ℕ) → IsClear (c ∷ bs) → eqb c c ≡ true → eqb 44 c ≡ false → eqb 64 c
    ≡ false
    → eqb 62 c ≡ false → eqb 93 c ≡ false → eqb 125 c ≡ false → eqb 58 c ≡ false → BeginsCore commas (c ∷ bs)
begins_with commas c bs h = begins commas (λ b. eqb b c) true c bs h

pub begins_quoted : (commas : Bool) (bs : List ℕ) → BeginsCore commas (34 ∷ bs)
begins_quoted commas bs = begins_with commas 34 bs (refl, λ e. absurd (omega arith)) refl refl refl refl refl refl refl

pub begins_barred : (commas : Bool) (bs : List ℕ) → BeginsCore commas (124 ∷ bs)
begins_barred commas bs = begins_with commas 124 bs (refl, λ e. absurd (omega arith)) refl refl refl refl refl refl refl

pub begins_hash : (commas : Bool) (bs : List ℕ) → begins_comment bs ≡ false → BeginsCore commas (35 ∷ bs)
begins_hash commas bs c = begins_with commas 35 bs (refl, λ e. c) refl refl refl refl refl refl refl

pub begins_bare : (commas : Bool) (b : ℕ) (bs : List ℕ) → is_bare b ≡ true → BeginsCore commas (b ∷ bs)
begins_bare commas b bs e =
    let unlike = λ (c : ℕ) (f : is_bare c ≡ false). apart is_bare true b c e f in
    begins commas is_bare true b bs (
      rw
          (unlike 32 refl, unlike 9 refl, unlike 13 refl, unlike 10 refl) refl,
      λ h. absurd
          (eqb-false b 35 (unlike 35 refl) h),
    ) e
    refl refl refl refl refl refl

pub begins_other : (commas : Bool) (b : ℕ) (bs : List ℕ) → begins_token b ≡ false → is_space b ≡ false
    → BeginsCore commas (b ∷ bs)
begins_other commas b bs e s =
    begins commas begins_token false b bs (s, λ h. absurd (eqb-false b 35 (apart begins_token false b 35 e refl) h)) e
    refl refl refl refl refl refl

-- ---- atoms

begins_at : (commas : Bool) (t x r : List ℕ) → t ≡ x → BeginsCore commas (x ++ r) → BeginsCore commas (t ++ r)
begins_at commas t x r e h = subst (λ (y : List ℕ). BeginsCore commas (y ++ r)) (sym e) h

bare_begins : (commas : Bool) (t r : List ℕ) → all_of is_bare t ≡ true → t ≢ [] → BeginsCore commas (t ++ r)
bare_begins commas [] r a n = absurd (n refl)
bare_begins commas (b ∷ bs) r a n = begins_bare commas b (bs ++ r) (and_parts (is_bare b) (all_of is_bare bs) a).0

atom_of_begins : (commas : Bool) (f : AtomForm) (t : List ℕ) (v : Plain) (r : List ℕ) → IsAtomOf f t v r
    → BeginsCore commas (t ++ r)
atom_of_begins commas form.False t (boolean false) r h = begins_at commas t _ r h (begins_hash commas _ refl)
atom_of_begins commas form.True t (boolean true) r h = begins_at commas t _ r h (begins_hash commas _ refl)
atom_of_begins commas form.Integer t (integer z) r h =
    bare_begins commas t r h.0 (integer_some t (integer_parts t z h.1).0)
atom_of_begins commas form.Symbol t (symbol s) r h =
    begins_at commas t s r h.1 (bare_begins commas s r h.2.0 (λ e. h.2.1 (ap length e)))
atom_of_begins commas form.QuotedSymbol t (symbol s) r h = begins_at commas t _ r h.1.1 (begins_barred commas _)
atom_of_begins commas form.String t (string s) r h = begins_at commas t _ r h.1.1 (begins_quoted commas _)
atom_of_begins commas form.AsciiBytes t (byte_string s) r h = begins_at commas t _ r h.1 (begins_hash commas _ refl)
atom_of_begins commas form.HexBytes t (byte_string s) r h = begins_at commas t _ r h.1 (begins_hash commas _ refl)
atom_of_begins commas form.Base64Bytes t (byte_string s) r h = begins_at commas t _ r h.1 (begins_hash commas _ refl)
atom_of_begins commas form.Double t (double n) r h = begins_at commas t _ r h.1 (begins_hash commas _ refl)
atom_of_begins commas f t v r h = absurd h

pub atom_begins : (commas : Bool) (t : List ℕ) (v : Plain) (r : List ℕ) → IsAtom t v r → BeginsCore commas (t ++ r)
atom_begins commas t v r h = atom_of_begins commas h.0 t v r h.1

-- ---- faulty tokens

bare_token_begins : (commas : Bool) (Is : List ℕ → Type 0) (bytes : List ℕ) → IsBareToken Is bytes
    → ((s : List ℕ) → Is s → s ≢ []) → BeginsCore commas bytes
bare_token_begins commas Is bytes (s, r, is, all, ends, h) some =
    subst (BeginsCore commas) (sym is) (bare_begins commas s r all (some s h))

bare_fault_begins : (commas : Bool) (bytes : List ℕ) (k : TextKind) → BareFault bytes k → BeginsCore commas bytes
bare_fault_begins commas bytes fault.TooWide h = bare_token_begins commas _ bytes h (λ s i. integer_some s i.0)
bare_fault_begins commas bytes fault.DecimalDouble h = bare_token_begins commas _ bytes h (λ s i. decimal_some s i)
bare_fault_begins commas bytes fault.BadUtf8 h = bare_token_begins commas _ bytes h (λ s i. i.0)
bare_fault_begins commas bytes k h = absurd h

pub fault_begins : (commas : Bool) (bytes : List ℕ) (k : TextKind) → TokenFault bytes k → BeginsCore commas bytes
fault_begins commas _ _ (in_string bytes k h) = begins_quoted commas bytes
fault_begins commas _ _ (in_symbol bytes k h) = begins_barred commas bytes
fault_begins commas _ _ (no_string bytes h) = begins_quoted commas bytes
fault_begins commas _ _ (no_symbol bytes h) = begins_barred commas bytes
fault_begins commas _ _ (in_ascii bytes k h) = begins_hash commas _ refl
fault_begins commas _ _ (in_hex bytes k h) = begins_hash commas _ refl
fault_begins commas _ _ (in_base64 bytes k h) = begins_hash commas _ refl
fault_begins commas _ _ (in_double bytes k h) = begins_hash commas _ refl
fault_begins commas _ _ (in_bare bytes k h) = bare_fault_begins commas bytes k h
fault_begins commas _ _ hash_alone = begins_hash commas [] refl
fault_begins commas _ _ hex_alone = begins_hash commas _ refl
fault_begins commas _ _ double_alone = begins_hash commas _ refl
fault_begins commas _ _ (other_hash b bytes g c) = begins_hash commas (b ∷ bytes) c
fault_begins commas _ _ (other_hex b bytes d e) = begins_hash commas _ refl
fault_begins commas _ _ (other_double b bytes d) = begins_hash commas _ refl
fault_begins commas _ _ (other b bytes t s) = begins_other commas b bytes t s
