-- A text that is UTF-8 may be cut beside a byte below 128; so before the end of a bare token, and behind a gap.
use Rattle.std.proofs.Common.{◌≡◌, ℕ, ◌+◌, ◌<◌, Bool, true, false, not, List, [], ◌∷◌, ◌++◌, length, get_or, IsUtf8}
use Rattle.std.proofs.Common.{refl, sym, ◌∙◌, subst, append_assoc, append-nil, length-append, inl, inr, arith}
use Rattle.std.proofs.Math.Seq.{get_or-append_seam, take-append_seam, drop-append_seam, drop-append-add}
use Rattle.std.proofs.lemmas.Bool.Decides.{nat_tests}
use Rattle.std.proofs.lemmas.Str.{IsUtf8-take, IsUtf8-drop, IsUtf8-nil, IsCharBoundary-before_ascii}
use Rattle.std.proofs.lemmas.Str.{IsCharBoundary-after_ascii}
use Rattle.pv_lex.specs.Characters.{is_line_end, is_bare, ends_bare}
use Rattle.pv_lex.specs.Gaps.{is_blank, is_gap_from, IsGap}
use Rattle.pv_lex.specs.Lemmas.GapLaws.{look, gap_comment, gap_blank, gap_ends}

-- ---- at one byte

pub at_seam : (a r : List ℕ) (b : ℕ) → b < 128 → IsUtf8 (a ++ b ∷ r) → IsUtf8 a × IsUtf8 (b ∷ r) × IsUtf8 r
at_seam a r b small u =
    let here : get_or (a ++ b ∷ r) (length a) 0 ≡ b = get_or-append_seam a b r 0 in
    let n = length-append a (b ∷ r) in
    let before = IsCharBoundary-before_ascii (a ++ b ∷ r) (length a) (omega (arith, n)) (omega (arith, here)) in
    let front = IsUtf8-take (a ++ b ∷ r) (length a) u before in
    let rest = IsUtf8-drop (a ++ b ∷ r) (length a) u before in
    let back =
    IsUtf8-drop (a ++ b ∷ r) (length a + 1) u
    (IsCharBoundary-after_ascii (a ++ b ∷ r) (length a) u (omega (arith, n)) (omega (arith, here))) in (
      subst IsUtf8 (take-append_seam a (b ∷ r)) front,
      subst IsUtf8 (drop-append_seam a (b ∷ r)) rest,
      subst IsUtf8
          (drop-append-add a (b ∷ r) 1) back,
    )

pub behind_byte : (b : ℕ) (r : List ℕ) → b < 128 → IsUtf8 (b ∷ r) → IsUtf8 r
behind_byte b r small u = (at_seam [] r b small u).2

-- ---- before the end of a bare token

not_bare_small : (b : ℕ) → is_bare b ≡ false → b < 128
not_bare_small b e = grind (arith, nat_tests)

pub at_end_of_bare : (a r : List ℕ) → ends_bare r ≡ true → IsUtf8 (a ++ r) → IsUtf8 a × IsUtf8 r
at_end_of_bare a [] e u = (subst IsUtf8 (append-nil a) u, IsUtf8-nil)
at_end_of_bare a (b ∷ r) e u = by (is_bare b) refl e
  where
    by : (t : Bool) → is_bare b ≡ t → not t ≡ true → IsUtf8 a × IsUtf8 (b ∷ r)
    by true d f = cc
    by false d f = let h = at_seam a r b (not_bare_small b d) u in (h.0, h.1)

-- ---- behind a gap

blank_small : (commas : Bool) (b : ℕ) → is_blank commas b ≡ true → b < 128
blank_small commas b e = grind (arith, nat_tests)

line_end_small : (b : ℕ) → is_line_end b ≡ true → b < 128
line_end_small b e = grind (arith, nat_tests)

-- in a comment what came before counts
abbrev Before : Bool → List ℕ → Type 0
Before true r = (p : List ℕ) × IsUtf8 (p ++ r)
Before false r = IsUtf8 r

gap_from_leaves : (commas in_comment : Bool) (g r : List ℕ) → is_gap_from commas in_comment g ≡ true
    → Before in_comment (g ++ r) → IsUtf8 r
gap_from_leaves commas true [] r h u = cc
gap_from_leaves commas false [] r h u = u
gap_from_leaves commas true (b ∷ g) r h (p, u) =
    gap_from_leaves commas (not (is_line_end b)) g r h (by (is_line_end b) refl)
  where
    by : (t : Bool) → is_line_end b ≡ t → Before (not t) (g ++ r)
    by true e = (at_seam p (g ++ r) b (line_end_small b e) u).2
    by false e = (p ++ b ∷ [], subst IsUtf8 (sym (append_assoc p (b ∷ []) (g ++ r))) u)
gap_from_leaves commas false (b ∷ g) r h u =
    elim (look commas b g) [
      | inl e ↦ gap_from_leaves commas true g r (sym (gap_comment commas b g e) ∙ h) (b ∷ [], u)
      | inr (inl e) ↦ gap_from_leaves commas false g r (sym (gap_blank commas b g e.1) ∙ h)
          (behind_byte b (g ++ r) (blank_small commas b e.1) u)
      | inr (inr e) ↦ let n = gap_ends commas b g e.0 e.1 in cc
    ]

pub gap_leaves : (commas : Bool) (g r : List ℕ) → IsGap commas g → IsUtf8 (g ++ r) → IsUtf8 r
gap_leaves commas g r h u = gap_from_leaves commas false g r h u
