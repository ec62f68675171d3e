-- The laws of tokens: each is read as it stands, whatever follows it, and stands as it is read; and so does each fault.
use Rattle.std.specs.Prelude.{◌≡◌, ◌≢◌, ℕ, Bool, List, ◌∷◌, ◌++◌, Ok, Err}
use Rattle.std.specs.Str.{IsUtf8}
use Rattle.pv_value.specs.Plain.{Plain}
use Rattle.pv_lex.specs.Gaps.{after_blank}
use Rattle.pv_lex.specs.Marks.{mark_text}
use Rattle.pv_lex.specs.Atoms.{IsAtomOf}
use Rattle.pv_lex.specs.TokenFaults.{TokenFault}
use Rattle.pv_lex.specs.Lexing.{lexeme_at}
use Rattle.pv_lex.specs.declared.kinds.Mark.{Mark}
use Rattle.pv_lex.specs.declared.kinds.AtomForm.{AtomForm}
use Rattle.pv_lex.specs.declared.kinds.Lexeme.TheVariants as lexeme
use Rattle.pv_lex.specs.declared.faults.TextKind.{TextKind}
use Rattle.pv_lex.specs.declared.faults.TextKind.TheVariants.{BadUtf8}

-- as an atom of the form that it has
abbrev pub AtomsAreRead : Type 0
AtomsAreRead =
    (f : AtomForm) (t : List ℕ) (v : Plain) (r : List ℕ) → IsAtomOf f t v r
    → lexeme_at (t ++ r) ≡ Ok (lexeme.Atom f v, r)

-- and what is read as an atom of a form is one
abbrev pub AtomsAreFound : Type 0
AtomsAreFound =
    (bytes : List ℕ) (f : AtomForm) (v : Plain) (r : List ℕ) → lexeme_at bytes ≡ Ok (lexeme.Atom f v, r)
    → (t : List ℕ) × (bytes ≡ t ++ r) × IsAtomOf f t v r

abbrev pub MarksAreRead : Type 0
MarksAreRead = (m : Mark) (r : List ℕ) → lexeme_at (mark_text m ++ r) ≡ Ok (lexeme.Mark m, r)

abbrev pub MarksAreFound : Type 0
MarksAreFound =
    (bytes : List ℕ) (m : Mark) (r : List ℕ) → lexeme_at bytes ≡ Ok (lexeme.Mark m, r) → bytes ≡ mark_text m ++ r

abbrev pub FaultsAreRead : Type 0
FaultsAreRead = (bytes : List ℕ) (k : TextKind) → TokenFault bytes k → lexeme_at bytes ≡ Err k

-- where no gap stands first
abbrev pub FaultsAreFound : Type 0
FaultsAreFound =
    (commas : Bool) (b : ℕ) (bs : List ℕ) (k : TextKind) → after_blank commas (b ∷ bs) ≡ b ∷ bs → lexeme_at (b ∷ bs)
    ≡ Err k
    → TokenFault (b ∷ bs) k

-- what is quoted or bare in bytes that are UTF-8 is so too
abbrev pub TokensAreJudged : Type 0
TokensAreJudged = (bytes : List ℕ) (k : TextKind) → TokenFault bytes k → IsUtf8 bytes → k ≢ BadUtf8
