-- A value without annotations, by the lexeme that it begins with.
use Rattle.std.proofs.Common.{◌≡◌, ◌≢◌, ℕ, ◌-◌, Bool, true, false, List, ◌∷◌, ◌++◌, length, Result, Ok, Err, refl, sym}
use Rattle.std.proofs.Common.{subst}
use Rattle.pv_value.specs.Plain.{Plain}
use Rattle.pv_read.specs.Results.{Fault, ◌>>=◌, within}
use Rattle.pv_read.specs.Lemmas.Binds.{told_cond}
use Rattle.pv_lex.specs.Gaps.{after_blank}
use Rattle.pv_lex.specs.Lemmas.GapLaws.{begins_none}
use Rattle.pv_lex.specs.declared.faults.TextKind.{TextKind}
use Rattle.pv_lex.specs.declared.faults.TextKind.TheVariants.{Unexpected}
use Rattle.pv_lex.specs.declared.kinds.Mark.{Mark}
use Rattle.pv_lex.specs.declared.kinds.Mark.TheVariants as mark
use Rattle.pv_lex.specs.declared.kinds.Lexeme.{Lexeme}
use Rattle.pv_lex.specs.declared.kinds.Lexeme.TheVariants as lexeme
use Rattle.pv_lex.specs.Lexing.{lexeme_at}
use Rattle.pv_lex.specs.Marks.{mark_text}
use Rattle.pv_lex.specs.Lemmas.Lexemes.{atom_read, atom_found, mark_read, mark_found, fault_read, fault_found}
use Rattle.pv_lex.specs.Lemmas.Begins.{fault_begins}
use Rattle.pv_lex.specs.Atoms.{IsAtom}
use Rattle.pv_lex.specs.TokenFaults.{TokenFault}
use Rattle.pv_text.specs.Spells.{Spelling}
use Rattle.pv_text.specs.Stops.{Stopping, is_misplaced, CoreStops, at_token, misplaced, deeper}
use Rattle.pv_text.specs.Reading.{Reader, fault_at, opens, behind, core_at}
use Rattle.pv_text.specs.Lemmas.Begins.{CoreBegins, BeginsUnannotated, unannotated, misplaced_begins}
use Rattle.pv_text.proofs.Readers.{IsTrueOf}
use Rattle.pv_text.proofs.Dues.{ReadsCores}

-- ---- by the lexeme

module _ (total : ℕ) (deep : List ℕ → Mark → Reader Plain) where
  -- behind a mark that opens a level stands what is deeper
  pub core_opens : (m : Mark) (r : List ℕ) → opens m ≡ true → core_at total deep (mark_text m ++ r) ≡ deep
      (mark_text m ++ r) m r
  unfolding core_at behind
  core_opens m r o = rw (mark_read m r, o)

  core_unexpected : (m : Mark) (r : List ℕ) → opens m ≡ false → core_at total deep (mark_text m ++ r) ≡ Err
      (fault_at total Unexpected (mark_text m ++ r))
  unfolding core_at behind
  core_unexpected m r o = rw (mark_read m r, o)

  pub core_atom : (t : List ℕ) (v : Plain) (r : List ℕ) → IsAtom t v r → core_at total deep (t ++ r) ≡ Ok (v, r)
  unfolding core_at behind
  core_atom t v r h = rw (atom_read t v r h).1

  core_fails : (bytes : List ℕ) (k : TextKind) → TokenFault bytes k
      → core_at total deep bytes ≡ Err (fault_at total k bytes)
  unfolding core_at
  core_fails bytes k h = rw (fault_read bytes k h)

-- a mark that opens no level, and that isn't passed over, nor an annotation's
wrong_mark : (commas : Bool) (b : ℕ) (bs : List ℕ) (m : Mark) (r : List ℕ) → b ∷ bs ≡ mark_text m ++ r
    → after_blank commas (b ∷ bs) ≡ b ∷ bs → b ≢ 64
    → opens m ≡ false → is_misplaced commas m ≡ true
wrong_mark commas b bs mark.RecordClose r is stays n o = refl
wrong_mark commas b bs mark.SequenceClose r is stays n o = refl
wrong_mark commas b bs mark.BraceClose r is stays n o = refl
wrong_mark commas b bs mark.Colon r is stays n o = refl
wrong_mark true b bs mark.Comma r is stays n o =
    let h = begins_none true 44 r (subst (λ (y : List ℕ). after_blank true y ≡ y) is stays) in
    let w = h.1 in cc
wrong_mark false b bs mark.Comma r is stays n o = refl
wrong_mark commas b bs mark.Annotation r is stays n o = absurd (n (cc is))
wrong_mark commas b bs m r is stays n o = cc o

misplaced_opens_none : (commas : Bool) (m : Mark) → is_misplaced commas m ≡ true → opens m ≡ false
misplaced_opens_none commas mark.Embedded e = cc e
misplaced_opens_none commas mark.RecordOpen e = cc e
misplaced_opens_none commas mark.SequenceOpen e = cc e
misplaced_opens_none commas mark.SetOpen e = cc e
misplaced_opens_none commas mark.DictionaryOpen e = cc e
misplaced_opens_none commas m e = refl

module _ (total : ℕ) (commas : Bool) (deep : List ℕ → Mark → Reader Plain) (Core : Spelling Plain) (Deeper : Stopping)
    (begins : CoreBegins commas Core)
    (atoms : (t : List ℕ) (v : Plain) (r : List ℕ) → IsAtom t v r → Core t v r)
    (read : (t : List ℕ) (v : Plain) (r : List ℕ) → Core t v r → core_at total deep (t ++ r) ≡ Ok (v, r))
    (deep_tells : (m : Mark) (bs : List ℕ) → opens m ≡ true
    → IsTrueOf Core Deeper (mark_text m ++ bs) (deep (mark_text m ++ bs) m bs))
    (deep_told : (bytes : List ℕ) (f : Fault TextKind) → Deeper bytes f → (core_at total deep bytes ≡ Err f)
    × BeginsUnannotated commas bytes) where
  abbrev Stopped : Stopping
  Stopped bytes f = CoreStops total commas Deeper bytes f

  as_deeper : (bytes : List ℕ) (o : Result (Plain × List ℕ) (Fault TextKind)) → IsTrueOf Core Deeper bytes o
      → IsTrueOf Core Stopped bytes o
  as_deeper bytes (Ok x) h = h
  as_deeper bytes (Err f) h = deeper bytes f h

  tells : (b : ℕ) (bs : List ℕ) → after_blank commas (b ∷ bs) ≡ b ∷ bs → b ≢ 64
      → IsTrueOf Core Stopped (b ∷ bs) (core_at total deep (b ∷ bs))
  unfolding core_at behind
  tells b bs stays n = by (lexeme_at (b ∷ bs)) refl
    where
      at_mark : (m : Mark) (r : List ℕ) → b ∷ bs ≡ mark_text m ++ r
          → IsTrueOf Core Stopped (b ∷ bs) (behind total (deep (b ∷ bs)) (b ∷ bs) (lexeme.Mark m, r))
      at_mark m r is = told_cond _ _ (opens m) (deep (b ∷ bs) m r) (Err (fault_at total Unexpected (b ∷ bs)))
          (λ o. as_deeper (b ∷ bs) (deep (b ∷ bs) m r) (subst (λ (y : List ℕ). IsTrueOf Core Deeper y (deep y m r))
          (sym is) (deep_tells m r o)))
          (λ o. subst (λ (y : List ℕ). Stopped y (fault_at total Unexpected y)) (sym is)
          (misplaced m r (wrong_mark commas b bs m r is stays n o)))

      by : (o : Result (Lexeme × List ℕ) TextKind) → lexeme_at (b ∷ bs) ≡ o
          → IsTrueOf Core Stopped (b ∷ bs) (within (total - length (b ∷ bs)) o >>= λ x. behind total (deep (b ∷ bs))
          (b ∷ bs) x)
      by (Err k) e = at_token (b ∷ bs) k (fault_found commas b bs k stays e)
      by (Ok (lexeme.Atom form v, r)) e = let h = atom_found (b ∷ bs) form v r e in (h.0, h.1, atoms h.0 v r h.2)
      by (Ok (lexeme.Mark m, r)) e = at_mark m r (mark_found (b ∷ bs) m r e)

  told : (bytes : List ℕ) (f : Fault TextKind) → Stopped bytes f → (core_at total deep bytes ≡ Err f)
      × BeginsUnannotated commas bytes
  told _ _ (at_token bytes k h) =
      (core_fails total deep bytes k h, unannotated commas bytes (fault_begins commas bytes k h))
  told _ _ (misplaced m r h) =
      (core_unexpected total deep m r (misplaced_opens_none commas m h), misplaced_begins commas m r h)
  told _ _ (deeper bytes f h) = deep_told bytes f h

  pub cores_read : ReadsCores commas (core_at total deep) Core (CoreStops total commas Deeper)
  cores_read = record { begins = begins; tells = tells; read = read; told = told }
