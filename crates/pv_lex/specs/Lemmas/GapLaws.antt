-- Gaps: what follows one, and what a text begins with behind the longest.
use Rattle.std.proofs.Common.{◌≡◌, ℕ, ◌≤◌, Bool, true, false, not, cond, ◌&&◌, eqb, List, [], ◌∷◌, ◌++◌, length, refl}
use Rattle.std.proofs.Common.{sym, ap, ◌∙◌, subst, inl, inr, ◌⊎◌, arith}
use Rattle.std.proofs.lemmas.Bool.{ne_eqb, and_parts, and_from}
use Rattle.pv_lex.specs.Characters.{is_line_end, begins_comment}
use Rattle.pv_lex.specs.Gaps.{is_blank, is_gap_from, IsGap, blank_from, after_blank, GoesOnWith}

-- ---- the first character

-- whether a comment begins here
abbrev pub comments : ℕ → List ℕ → Bool
comments b bs = eqb b 35 && begins_comment bs

pub hash_stays : (commas : Bool) → is_blank commas 35 ≡ false
hash_stays true = refl
hash_stays false = refl

pub hash_is_no_blank : (commas : Bool) (b : ℕ) → b ≡ 35 → is_blank commas b ≡ false
hash_is_no_blank commas b e = subst (λ x. is_blank commas x ≡ false) (sym e) (hash_stays commas)

pub blank_is_no_hash : (commas : Bool) (b : ℕ) → is_blank commas b ≡ true → eqb b 35 ≡ false
blank_is_no_hash commas b e = ne_eqb b 35 (λ h. let n = hash_is_no_blank commas b h in cc)

abbrev pub Looks : Bool → ℕ → List ℕ → Type 0
Looks commas b bs =
    (comments b bs ≡ true) ⊎ (((comments b bs ≡ false) × (is_blank commas b ≡ true))
    ⊎ ((comments b bs ≡ false) × (is_blank commas b ≡ false)))

pub look : (commas : Bool) (b : ℕ) (bs : List ℕ) → Looks commas b bs
look commas b bs = by (comments b bs) (is_blank commas b) refl refl
  where
    by : (c k : Bool) → comments b bs ≡ c → is_blank commas b ≡ k → Looks commas b bs
    by true k e f = inl e
    by false true e f = inr (inl (e, f))
    by false false e f = inr (inr (e, f))

pub past_comment : (commas : Bool) (b : ℕ) (bs : List ℕ) → comments b bs ≡ true → after_blank commas (b ∷ bs)
    ≡ blank_from commas true bs
past_comment commas b bs e =
    ap (λ (c : Bool). cond c (blank_from commas true bs)
    (cond (is_blank commas b) (blank_from commas false bs) (b ∷ bs))) e

pub past_blank : (commas : Bool) (b : ℕ) (bs : List ℕ) → is_blank commas b ≡ true → after_blank commas (b ∷ bs)
    ≡ after_blank commas bs
past_blank commas b bs e = rw (blank_is_no_hash commas b e, e)

pub nothing_past : (commas : Bool) (b : ℕ) (bs : List ℕ) → comments b bs ≡ false → is_blank commas b ≡ false
    → after_blank commas (b ∷ bs) ≡ b ∷ bs
nothing_past commas b bs e f =
    ap (λ (c : Bool). cond c (blank_from commas true bs)
    (cond (is_blank commas b) (blank_from commas false bs) (b ∷ bs))) e
    ∙ ap (λ (c : Bool). cond c (blank_from commas false bs) (b ∷ bs)) f

pub gap_comment : (commas : Bool) (b : ℕ) (bs : List ℕ) → comments b bs ≡ true → is_gap_from commas false (b ∷ bs)
    ≡ is_gap_from commas true bs
gap_comment commas b bs e =
    ap (λ (c : Bool). cond c (is_gap_from commas true bs) (is_blank commas b && is_gap_from commas false bs)) e

pub gap_blank : (commas : Bool) (b : ℕ) (bs : List ℕ) → is_blank commas b ≡ true → is_gap_from commas false (b ∷ bs)
    ≡ is_gap_from commas false bs
gap_blank commas b bs e = rw (blank_is_no_hash commas b e, e)

pub gap_ends : (commas : Bool) (b : ℕ) (bs : List ℕ) → comments b bs ≡ false → is_blank commas b ≡ false
    → is_gap_from commas false (b ∷ bs) ≡ false
gap_ends commas b bs e f =
    ap (λ (c : Bool). cond c (is_gap_from commas true bs) (is_blank commas b && is_gap_from commas false bs)) e
    ∙ ap (λ (c : Bool). c && is_gap_from commas false bs) f

begins_more : (g bytes : List ℕ) → begins_comment g ≡ true → begins_comment (g ++ bytes) ≡ true
begins_more [] bytes e = cc
begins_more (b ∷ bs) bytes e = e

comments_more : (b : ℕ) (g bytes : List ℕ) → comments b g ≡ true → comments b (g ++ bytes) ≡ true
comments_more b g bytes e =
    let p = and_parts (eqb b 35) (begins_comment g) e in
    and_from (eqb b 35) (begins_comment (g ++ bytes)) p.0 (begins_more g bytes p.1)

-- what is left of a comment, with its line's end, isn't empty
begins_less : (commas : Bool) (g bytes : List ℕ) → is_gap_from commas true g ≡ true → begins_comment (g ++ bytes) ≡ true
    → begins_comment g ≡ true
begins_less commas [] bytes h e = cc
begins_less commas (b ∷ bs) bytes h e = e

comments_less : (commas : Bool) (b : ℕ) (g bytes : List ℕ) → is_gap_from commas true g ≡ true → comments b (g ++ bytes)
    ≡ true → comments b g ≡ true
comments_less commas b g bytes h e =
    let p = and_parts (eqb b 35) (begins_comment (g ++ bytes)) e in
    and_from (eqb b 35) (begins_comment g) p.0 (begins_less commas g bytes h p.1)

-- ---- behind a gap

pub gap_from_passed : (commas in_comment : Bool) (g bytes : List ℕ) → is_gap_from commas in_comment g ≡ true
    → blank_from commas in_comment (g ++ bytes) ≡ after_blank commas bytes
gap_from_passed commas true [] bytes h = cc
gap_from_passed commas false [] bytes h = refl
gap_from_passed commas true (b ∷ g) bytes h = gap_from_passed commas (not (is_line_end b)) g bytes h
gap_from_passed commas false (b ∷ g) bytes h =
    elim (look commas b g) [
      | inl e ↦ past_comment commas b (g ++ bytes) (comments_more b g bytes e)
          ∙ gap_from_passed commas true g bytes (sym (gap_comment commas b g e) ∙ h)
      | inr (inl e) ↦ past_blank commas b (g ++ bytes) e.1
          ∙ gap_from_passed commas false g bytes (sym (gap_blank commas b g e.1) ∙ h)
      | inr (inr e) ↦ let n = gap_ends commas b g e.0 e.1 in cc
    ]

-- the longest gap of the bytes behind a gap
pub gap_passed : (commas : Bool) (g bytes : List ℕ) → IsGap commas g → after_blank commas (g ++ bytes)
    ≡ after_blank commas bytes
gap_passed commas g bytes h = gap_from_passed commas false g bytes h

-- ---- the longest gap

-- the bytes are a gap and then these
pub record Split (commas in_comment : Bool) (bytes rest : List ℕ) : Type 0 where
  pub gap : List ℕ
  pub is : bytes ≡ gap ++ rest
  pub gaps : is_gap_from commas in_comment gap ≡ true

split_more : (commas in_comment next : Bool) (b : ℕ) (bs rest : List ℕ) → Split commas next bs rest
    → ((g : List ℕ) → bs ≡ g ++ rest → is_gap_from commas next g ≡ true → is_gap_from commas in_comment (b ∷ g) ≡ true)
    → Split commas in_comment (b ∷ bs) rest
split_more commas in_comment next b bs rest s more =
    record { gap = b ∷ s.gap; is = ap (λ x. b ∷ x) s.is; gaps = more s.gap s.is s.gaps }

split_as : (commas in_comment : Bool) (bytes rest more : List ℕ) → more ≡ rest → Split commas in_comment bytes rest
    → Split commas in_comment bytes more
split_as commas in_comment bytes rest more e s = subst (λ r. Split commas in_comment bytes r) (sym e) s

gap_from_splits : (commas in_comment : Bool) (bytes : List ℕ) → (blank_from commas in_comment bytes ≡ [] → ⊥)
    → Split commas in_comment bytes (blank_from commas in_comment bytes)
gap_from_splits commas true [] h = absurd (h refl)
gap_from_splits commas false [] h = absurd (h refl)
gap_from_splits commas true (b ∷ bs) h =
    split_more commas true (not (is_line_end b)) b bs _ (gap_from_splits commas (not (is_line_end b)) bs h) (λ g e k. k)
gap_from_splits commas false (b ∷ bs) h =
    elim (look commas b bs) [
      | inl e ↦
          let rest = blank_from commas true bs in
          let p = past_comment commas b bs e in
          split_as commas false (b ∷ bs) rest (blank_from commas false (b ∷ bs)) p
          (split_more commas false true b bs rest (gap_from_splits commas true bs (λ q. h (p ∙ q)))
          (λ g is k. gap_comment commas b g (comments_less commas b g rest k (subst (λ x. comments b x ≡ true) is e))
          ∙ k))
      | inr (inl e) ↦
          let p = past_blank commas b bs e.1 in
          split_as commas false (b ∷ bs) (after_blank commas bs) (blank_from commas false (b ∷ bs)) p
          (split_more commas false false b bs (after_blank commas bs)
          (gap_from_splits commas false bs (λ q. h (p ∙ q))) (λ g is k. gap_blank commas b g e.1 ∙ k))
      | inr (inr e) ↦ split_as commas false (b ∷ bs) (b ∷ bs) (blank_from commas false (b ∷ bs))
          (nothing_past commas b bs e.0 e.1) (record { gap = []; is = refl; gaps = refl })
    ]

pub gap_splits : (commas : Bool) (bytes : List ℕ) → (after_blank commas bytes ≡ [] → ⊥) → (g : List ℕ)
    × (bytes ≡ g ++ after_blank commas bytes) × IsGap commas g
gap_splits commas bytes h = let s = gap_from_splits commas false bytes h in (s.gap, s.is, s.gaps)

-- where something is left behind the longest gap, the gap before it
pub gap_found : (commas : Bool) (bytes : List ℕ) (b : ℕ) (bs : List ℕ) → after_blank commas bytes ≡ b ∷ bs
    → (g : List ℕ) × (bytes ≡ g ++ b ∷ bs) × IsGap commas g
gap_found commas bytes b bs e =
    let s = gap_splits commas bytes (λ n. cc) in
    (s.0, s.1 ∙ ap (λ r. s.0 ++ r) e, s.2)

blank_from_shorter : (commas in_comment : Bool) (bytes : List ℕ)
    → length (blank_from commas in_comment bytes) ≤ length bytes
blank_from_shorter commas true [] = omega arith
blank_from_shorter commas false [] = omega arith
blank_from_shorter commas true (b ∷ bs) = omega (arith, blank_from_shorter commas (not (is_line_end b)) bs)
blank_from_shorter commas false (b ∷ bs) =
    elim (look commas b bs) [
      | inl e ↦ omega (arith, ap length (past_comment commas b bs e), blank_from_shorter commas true bs)
      | inr (inl e) ↦ omega (arith, ap length (past_blank commas b bs e.1), blank_from_shorter commas false bs)
      | inr (inr e) ↦ omega (arith, ap length (nothing_past commas b bs e.0 e.1))
    ]

pub after_shorter : (commas : Bool) (bytes : List ℕ) → length (after_blank commas bytes) ≤ length bytes
after_shorter commas bytes = blank_from_shorter commas false bytes

blank_from_twice : (commas in_comment : Bool) (bytes : List ℕ) → after_blank commas (blank_from commas in_comment bytes)
    ≡ blank_from commas in_comment bytes
blank_from_twice commas true [] = refl
blank_from_twice commas false [] = refl
blank_from_twice commas true (b ∷ bs) = blank_from_twice commas (not (is_line_end b)) bs
blank_from_twice commas false (b ∷ bs) =
    elim (look commas b bs) [
      | inl e ↦ let p =
          past_comment commas b bs e in ap (after_blank commas) p ∙ blank_from_twice commas true bs ∙ sym p
      | inr (inl e) ↦ let p =
          past_blank commas b bs e.1 in ap (after_blank commas) p ∙ blank_from_twice commas false bs ∙ sym p
      | inr (inr e) ↦ ap (after_blank commas) (nothing_past commas b bs e.0 e.1)
    ]

pub after_twice : (commas : Bool) (bytes : List ℕ) → after_blank commas (after_blank commas bytes)
    ≡ after_blank commas bytes
after_twice commas bytes = blank_from_twice commas false bytes

-- what is left behind the longest gap begins with none
pub after_stays : (commas : Bool) (bytes : List ℕ) (b : ℕ) (bs : List ℕ) → after_blank commas bytes ≡ b ∷ bs
    → after_blank commas (b ∷ bs) ≡ b ∷ bs
after_stays commas bytes b bs e = ap (after_blank commas) (sym e) ∙ after_twice commas bytes ∙ e

-- what begins with no gap begins with no comment and no blank
pub begins_none : (commas : Bool) (b : ℕ) (bs : List ℕ) → after_blank commas (b ∷ bs) ≡ b ∷ bs → (comments b bs ≡ false)
    × (is_blank commas b ≡ false)
begins_none commas b bs e =
    elim (look commas b bs) [
      | inl h ↦ absurd (omega (
        arith,
        ap length
            (sym (past_comment commas b bs h) ∙ e),
        blank_from_shorter commas true bs,
      ))
      | inr (inl h) ↦ absurd (omega (
        arith,
        ap length
            (sym (past_blank commas b bs h.1) ∙ e),
        blank_from_shorter commas false bs,
      ))
      | inr (inr h) ↦ h
    ]

-- ---- what a text goes on with

pub goes_on : (commas : Bool) (bytes : List ℕ) (b : ℕ) (bs : List ℕ) → after_blank commas bytes ≡ b ∷ bs
    → GoesOnWith commas b bytes
goes_on commas bytes b bs e = let s = gap_found commas bytes b bs e in (s.0, bs, s.1, s.2)
