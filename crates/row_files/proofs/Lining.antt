-- Texts by how they begin, and sections with more lines.
use Rattle.std.proofs.Common.{◌≡◌, ℕ, ◌+◌, ◌<◌, ◌==◌, ◌++◌, ◌∷◌, [], List, Bool, true, false, length, drop, get_or}
use Rattle.std.proofs.Common.{slice_index, refl, ap, ◌∙◌, arith, if◌then◌else◌, Result, Ok, Err, OnOk, Some, option_map}
use Rattle.std.specs.Option.{option_and_then}
use Rattle.std.proofs.lemmas.Grind.{common_steps}
use Rattle.std.proofs.lemmas.Bool.{eqb-true}
use Rattle.row_files.specs.Lines.{without_blank}
use Rattle.row_files.specs.Sections.{SectionTold, with_more, with_line, with_lines}

-- the lines from a place on, and the first of them
pub with_next : (place : ℕ) (lines : List (List ℕ)) (n : ℕ) (d : List ℕ) (ss more : List SectionTold)
    → n < length lines → with_line place (get_or lines n d) ss ≡ Some more
    → with_lines place (drop n lines) ss ≡ with_lines (place + 1) (drop (n + 1) lines) more
with_next place lines n d ss more h is =
    ap (λ ls. with_lines place ls ss) (drop_next lines n d h)
    ∙ ap (option_and_then (with_lines (place + 1) (drop (n + 1) lines))) is
  where
    drop_next : (xs : List (List ℕ)) (i : ℕ) (e : List ℕ) → i < length xs → drop i xs ≡ get_or xs i e ∷ drop (i + 1) xs
    drop_next xs i e h = grind (arith, common_steps)

pub no_blank : (text : List ℕ) → ((rest : List ℕ) → text ≡ 32 ∷ rest → ⊥) → without_blank text ≡ text
no_blank [] h = refl
no_blank (x ∷ xs) h = by (x == 32) refl
  where
    by : (b : Bool) → (x == 32) ≡ b → without_blank (x ∷ xs) ≡ x ∷ xs
    by true e = absurd (h xs (ap (λ n. n ∷ xs) (eqb-true x 32 e)))
    by false e = ap (λ b. if b then xs else x ∷ xs) e

-- more in the body of the last section
pub with_more_last : (text : List ℕ) (ss : List SectionTold) (s : SectionTold)
    → with_more text (ss ++ s ∷ []) ≡ Some (ss ++ record s { body = s.body ++ text } ∷ [])
with_more_last text [] s = refl
with_more_last text (x ∷ []) s = refl
with_more_last text (x ∷ y ∷ ys) s = ap (option_map (λ t. x ∷ t)) (with_more_last text (y ∷ ys) s)

pub no_bar : (text : List ℕ) → ((rest : List ℕ) → text ≡ 124 ∷ rest → ⊥) → (slice_index text 0 == 124) ≡ false
no_bar [] h = refl
no_bar (x ∷ xs) h = by (x == 124) refl
  where
    by : (b : Bool) → (x == 124) ≡ b → (x == 124) ≡ false
    by true e = absurd (h xs (ap (λ n. n ∷ xs) (eqb-true x 124 e)))
    by false e = e

-- what follows of two facts of a success
pub on_ok : {A E : Type 0} (r : Result A E) (P Q R : Type 0) → (P → Q → R) → OnOk r P → OnOk r Q → OnOk r R
on_ok (Ok x) P Q R so p q = so p q
on_ok (Err e) P Q R so p q = tt
