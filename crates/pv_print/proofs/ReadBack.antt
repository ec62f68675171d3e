-- What is printed reads back.
use Rattle.std.proofs.Common.{◌≡◌, ℕ, ◌≤◌, true, false, List, [], ◌∷◌, ◌++◌, length, refl, ap, subst, append_assoc}
use Rattle.std.proofs.Common.{arith}
use Rattle.std.proofs.lemmas.List.{append-nil}
use Rattle.std.specs.Str.{IsUtf8}
use Rattle.std.proofs.lemmas.Str.{IsUtf8-append, IsUtf8-nil}
use Rattle.pv_value.specs.Plain.{Plain}
use Rattle.pv_value.specs.Depth.{depth}
use Rattle.pv_value.specs.WellFormed.{IsWellFormed}
use Rattle.pv_lex.specs.Characters.{ends_bare}
use Rattle.pv_text.specs.Reads.{LeadsTo, BeginsWith, AreValues, AreValuesOf}
use Rattle.pv_print.specs.Printed.{printed}
use Rattle.pv_print.specs.Lines.{line, lines, AreReadable}
use Rattle.pv_print.proofs.Spelled.{spelled}
use Rattle.pv_print.proofs.Utf8.{utf8_before, utf8_printed}

-- before whatever ends a bare token
leads : (v : Plain) (rest : List ℕ) → IsWellFormed v → depth v ≤ 64 → ends_bare rest ≡ true
    → LeadsTo (printed v ++ rest) v rest
leads v rest h d e = ([], printed v, refl, refl, spelled v 64 false rest h d e)

pub reads_back : (v : Plain) → IsWellFormed v → depth v ≤ 64 → BeginsWith (printed v) (length (printed v)) v
reads_back v h d = (
  utf8_printed v h,
  [],
  subst (λ (b : List ℕ). LeadsTo b v []) (append-nil (printed v)) (leads v [] h d refl),
  omega arith,
)

-- a line's text, and what follows it
line_then : (v : Plain) (r : List ℕ) → line v ++ r ≡ printed v ++ 10 ∷ r
line_then v r = append_assoc (printed v) (10 ∷ []) r

-- behind a line feed
lines_behind : (vs : List Plain) → AreReadable vs → AreValues (10 ∷ lines vs) vs
lines_behind [] h = (10 ∷ [], refl, refl)
lines_behind (v ∷ vs) h =
    let (rest, leads, last) = lines_behind vs h.1 in (
      rest,
      (
        10 ∷ lines vs,
        (
          10 ∷ [],
          printed v,
          ap (λ (b : List ℕ). 10 ∷ b) (line_then v (lines vs)),
          refl,
          spelled v 64 false (10 ∷ lines vs) h.0.0 h.0.1 refl,
        ),
        leads,
      ),
      last,
    )

lines_read : (vs : List Plain) → AreReadable vs → AreValues (lines vs) vs
lines_read [] h = ([], refl, refl)
lines_read (v ∷ vs) h =
    let (rest, leads, last) = lines_behind vs h.1 in (
      rest,
      (
        10 ∷ lines vs,
        (
          [],
          printed v,
          line_then v (lines vs),
          refl,
          spelled v 64 false (10 ∷ lines vs) h.0.0 h.0.1
              refl,
        ),
        leads,
      ),
      last,
    )

utf8_lines : (vs : List Plain) → AreReadable vs → IsUtf8 (lines vs)
utf8_lines [] h = IsUtf8-nil
utf8_lines (v ∷ vs) h =
    IsUtf8-append (line v) (lines vs) (utf8_before (printed v) 10 (omega arith) (utf8_printed v h.0.0))
    (utf8_lines vs h.1)

pub lines_read_back : (vs : List Plain) → AreReadable vs → AreValuesOf (lines vs) vs
lines_read_back vs h = (utf8_lines vs h, lines_read vs h)
