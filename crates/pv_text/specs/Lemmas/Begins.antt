-- What values begin with, and that each takes a byte at least.
use Rattle.std.proofs.Common.{◌≡◌, ◌≢◌, ℕ, zero, suc, ◌<◌, Bool, true, false, List, [], ◌∷◌, ◌++◌, length, refl, sym}
use Rattle.std.proofs.Common.{ap, ◌∙◌}
use Rattle.std.proofs.Common.{subst, append_assoc, length-append, inl, inr, arith}
use Rattle.pv_value.specs.Plain.{Plain, record_of, sequence, set_of, dictionary, embedded}
use Rattle.pv_lex.specs.Gaps.{IsLastGap, after_blank}
use Rattle.pv_lex.specs.Lemmas.GapLaws.{gap_passed}
use Rattle.pv_lex.specs.declared.kinds.Mark.{Mark}
use Rattle.pv_lex.specs.declared.kinds.Mark.TheVariants as mark
use Rattle.pv_lex.specs.Marks.{mark_text}
use Rattle.pv_lex.specs.Lemmas.Lexemes.{atom_some}
use Rattle.pv_lex.specs.Lemmas.Begins.{BeginsCore, atom_begins}
use Rattle.pv_lex.specs.Atoms.{IsAtom}
use Rattle.pv_text.specs.Spells.{Spelling, BehindGap, IsCompound, Annotated, plainly, behind_annotation, IsCoreIn}
use Rattle.pv_text.specs.Spells.{SpellsIn}
use Rattle.pv_text.specs.Reading.{opens}
use Rattle.pv_text.specs.Stops.{is_misplaced}
use Rattle.pv_text.specs.Reads.{LeadsTo}

-- ---- what begins

-- no gap stands first, and nothing that closes a compound; and the rest is shorter
pub record Starts (commas : Bool) (bytes rest : List ℕ) : Type 0 where
  pub first : ℕ
  pub more : List ℕ
  pub is : bytes ≡ first ∷ more
  pub stays : after_blank commas (first ∷ more) ≡ first ∷ more
  pub open_record : first ≢ 62
  pub open_sequence : first ≢ 93
  pub open_set : first ≢ 125
  pub shorter : length rest < length bytes

-- the same behind a gap
pub record Begins (commas : Bool) (bytes rest : List ℕ) : Type 0 where
  pub first : ℕ
  pub more : List ℕ
  pub is : after_blank commas bytes ≡ first ∷ more
  pub open_record : first ≢ 62
  pub open_sequence : first ≢ 93
  pub open_set : first ≢ 125
  pub shorter : length rest < length bytes

-- what is spelled begins as it should, and takes something
abbrev pub CoreBegins : Bool → Spelling Plain → Type 0
CoreBegins commas Core = (t : List ℕ) (v : Plain) (r : List ℕ) → Core t v r
    → BeginsCore commas (t ++ r) × (length r < length (t ++ r))

abbrev pub ValueStarts : Bool → Spelling Plain → Type 0
ValueStarts commas Value = (t : List ℕ) (v : Plain) (r : List ℕ) → Value t v r → Starts commas (t ++ r) r

-- ---- marks

-- an annotation's mark is no white space
pub annotation_stays : (commas : Bool) (bs : List ℕ) → after_blank commas (64 ∷ bs) ≡ 64 ∷ bs
annotation_stays true bs = refl
annotation_stays false bs = refl

-- what it isn't
abbrev IsApart : ℕ → Type 0
IsApart b = (b ≢ 64) × (b ≢ 62) × (b ≢ 93) × (b ≢ 125) × (b ≢ 58)

mark_begins : (commas : Bool) (b : ℕ) (bs : List ℕ) → after_blank commas (b ∷ bs) ≡ b ∷ bs → IsApart b
    → BeginsCore commas (b ∷ bs)
mark_begins commas b bs s n = (b, bs, refl, s, n.0, n.1, n.2, n.3, n.4)

record_stays : (commas : Bool) (bs : List ℕ) → after_blank commas (60 ∷ bs) ≡ 60 ∷ bs
record_stays true bs = refl
record_stays false bs = refl

sequence_stays : (commas : Bool) (bs : List ℕ) → after_blank commas (91 ∷ bs) ≡ 91 ∷ bs
sequence_stays true bs = refl
sequence_stays false bs = refl

dictionary_stays : (commas : Bool) (bs : List ℕ) → after_blank commas (123 ∷ bs) ≡ 123 ∷ bs
dictionary_stays true bs = refl
dictionary_stays false bs = refl

set_stays : (commas : Bool) (bs : List ℕ) → after_blank commas (35 ∷ 123 ∷ bs) ≡ 35 ∷ 123 ∷ bs
set_stays true bs = refl
set_stays false bs = refl

embedded_stays : (commas : Bool) (bs : List ℕ) → after_blank commas (35 ∷ 58 ∷ bs) ≡ 35 ∷ 58 ∷ bs
embedded_stays true bs = refl
embedded_stays false bs = refl

hash_apart : IsApart 35
hash_apart = (λ e. omega arith, λ e. omega arith, λ e. omega arith, λ e. omega arith, λ e. omega arith)

record_apart : IsApart 60
record_apart = (λ e. omega arith, λ e. omega arith, λ e. omega arith, λ e. omega arith, λ e. omega arith)

sequence_apart : IsApart 91
sequence_apart = (λ e. omega arith, λ e. omega arith, λ e. omega arith, λ e. omega arith, λ e. omega arith)

dictionary_apart : IsApart 123
dictionary_apart = (λ e. omega arith, λ e. omega arith, λ e. omega arith, λ e. omega arith, λ e. omega arith)

-- a mark that opens a level
pub opening_begins : (commas : Bool) (m : Mark) (r : List ℕ) → opens m ≡ true → BeginsCore commas (mark_text m ++ r)
opening_begins commas mark.RecordOpen r o = mark_begins commas 60 r (record_stays commas r) record_apart
opening_begins commas mark.SequenceOpen r o = mark_begins commas 91 r (sequence_stays commas r) sequence_apart
opening_begins commas mark.DictionaryOpen r o = mark_begins commas 123 r (dictionary_stays commas r) dictionary_apart
opening_begins commas mark.SetOpen r o = mark_begins commas 35 (123 ∷ r) (set_stays commas r) hash_apart
opening_begins commas mark.Embedded r o = mark_begins commas 35 (58 ∷ r) (embedded_stays commas r) hash_apart
opening_begins commas m r o = cc o

-- no gap stands first, nor an annotation
abbrev pub BeginsUnannotated : Bool → List ℕ → Type 0
BeginsUnannotated commas bytes =
    (b : ℕ) × (bs : List ℕ) × (bytes ≡ b ∷ bs) × (after_blank commas (b ∷ bs) ≡ b ∷ bs) × (b ≢ 64)

pub unannotated : (commas : Bool) (bytes : List ℕ) → BeginsCore commas bytes → BeginsUnannotated commas bytes
unannotated commas bytes h = (h.0, h.1, h.2, h.3, h.4)

-- a mark that ends or parts something
pub misplaced_begins : (commas : Bool) (m : Mark) (r : List ℕ) → is_misplaced commas m ≡ true
    → BeginsUnannotated commas (mark_text m ++ r)
misplaced_begins true mark.RecordClose r o = (62, r, refl, refl, λ e. omega arith)
misplaced_begins false mark.RecordClose r o = (62, r, refl, refl, λ e. omega arith)
misplaced_begins true mark.SequenceClose r o = (93, r, refl, refl, λ e. omega arith)
misplaced_begins false mark.SequenceClose r o = (93, r, refl, refl, λ e. omega arith)
misplaced_begins true mark.BraceClose r o = (125, r, refl, refl, λ e. omega arith)
misplaced_begins false mark.BraceClose r o = (125, r, refl, refl, λ e. omega arith)
misplaced_begins true mark.Colon r o = (58, r, refl, refl, λ e. omega arith)
misplaced_begins false mark.Colon r o = (58, r, refl, refl, λ e. omega arith)
misplaced_begins true mark.Comma r o = cc o
misplaced_begins false mark.Comma r o = (44, r, refl, refl, λ e. omega arith)
misplaced_begins commas m r o = cc o

-- ---- compounds

-- the compound begins with a mark
pub compound_opens : (Inner : Bool → Spelling Plain) (commas : Bool) (t : List ℕ) (v : Plain) (r : List ℕ)
    → IsCompound Inner commas t v r → (m : Mark) × (u : List ℕ) × (t ≡ mark_text m ++ u) × (opens m ≡ true)
    × (0 < length t)
compound_opens Inner commas t (record_of l fs) r h =
    (mark.RecordOpen, h.0 ++ h.1, h.3, refl, omega (arith, ap length h.3))
compound_opens Inner commas t (sequence xs) r h = (mark.SequenceOpen, h.0, h.2, refl, omega (arith, ap length h.2))
compound_opens Inner commas t (set_of xs) r h = (mark.SetOpen, h.0, h.2, refl, omega (arith, ap length h.2))
compound_opens Inner commas t (dictionary es) r h = (mark.DictionaryOpen, h.0, h.2, refl, omega (arith, ap length h.2))
compound_opens Inner commas t (embedded x) r h = (mark.Embedded, h.0, h.1, refl, omega (arith, ap length h.1))
compound_opens Inner commas t v r h = absurd h

-- ---- values

atom_core : (commas : Bool) → CoreBegins commas IsAtom
atom_core commas t v r a = (atom_begins commas t v r a, longer t (atom_some a.0 t v r a.1))
  where
    longer : (t : List ℕ) → t ≢ [] → length r < length (t ++ r)
    longer [] n = absurd (n refl)
    longer (b ∷ bs) n = omega (arith, length-append bs r)

compound_core : (Inner : Bool → Spelling Plain) (commas : Bool) → CoreBegins commas (IsCompound Inner commas)
compound_core Inner commas t v r h =
    let (m, u, is, o, some) = compound_opens Inner commas t v r h in (
      subst (λ (y : List ℕ). BeginsCore commas y)
          (sym (ap (λ (y : List ℕ). y ++ r) is ∙ append_assoc (mark_text m) u r)) (opening_begins commas m (u ++ r) o),
      omega (arith, some, length-append t r),
    )

pub core_begins : (d : ℕ) (commas : Bool) → CoreBegins commas (IsCoreIn d commas)
core_begins zero commas t v r a = atom_core commas t v r a
core_begins (suc d) commas t v r (inl a) = atom_core commas t v r a
core_begins (suc d) commas t v r (inr h) = compound_core (λ c. BehindGap c (SpellsIn d c)) commas t v r h

pub annotated_starts : (commas : Bool) (Core : Spelling Plain) → CoreBegins commas Core
    → ValueStarts commas (Annotated Core commas)
annotated_starts commas Core begins t v r (plainly s w q c) =
    let h = begins s w q c in record {
      first = h.0.0;
      more = h.0.1;
      is = h.0.2;
      stays = h.0.3;
      open_record = h.0.5;
      open_sequence = h.0.6;
      open_set = h.0.7;
      shorter = h.1;
    }
annotated_starts commas Core begins t v r (behind_annotation g a h s w x q gap an gap' more) =
    record {
      first = 64;
      more = (g ++ (a ++ (h ++ s))) ++ q;
      is = refl;
      stays = annotation_stays commas _;
      open_record = λ e. omega arith;
      open_sequence = λ e. omega arith;
      open_set = λ e. omega arith;
      shorter = omega (arith, length-append (g ++ (a ++ (h ++ s))) q);
    }

pub behind_gap_begins : (commas : Bool) (Value : Spelling Plain) → ValueStarts commas Value
    → (t : List ℕ) (v : Plain) (r : List ℕ)
    → BehindGap commas Value t v r → Begins commas (t ++ r) r
behind_gap_begins commas Value starts t v r (g, a, is, gap, h) =
    let s = starts a v r h in
    let shape : t ++ r ≡ g ++ (a ++ r) = ap (λ (y : List ℕ). y ++ r) is ∙ append_assoc g a r in
    record {
      first = s.first;
      more = s.more;
      is = ap (after_blank commas) shape ∙ gap_passed commas g (a ++ r) gap ∙ ap (after_blank commas) s.is ∙ s.stays;
      open_record = s.open_record;
      open_sequence = s.open_sequence;
      open_set = s.open_set;
      shorter = omega (arith, s.shorter, ap length shape, length-append g (a ++ r));
    }

pub value_starts : (d : ℕ) (commas : Bool) → ValueStarts commas (SpellsIn d commas)
value_starts d commas = annotated_starts commas (IsCoreIn d commas) (core_begins d commas)

-- what is read lies within the bytes, and there is some
pub leads_shorter : (bytes : List ℕ) (v : Plain) (rest : List ℕ) → LeadsTo bytes v rest → length rest < length bytes
leads_shorter bytes v rest (g, t, is, gap, spells) =
    omega (
      arith,
      ap (λ (b : List ℕ). length b) is,
      length-append g (t ++ rest),
      (value_starts 64 false t v rest spells).shorter,
    )

-- a value isn't a gap alone
pub leads_on : (bytes : List ℕ) (v : Plain) (rest : List ℕ) → LeadsTo bytes v rest → IsLastGap false bytes → ⊥
leads_on bytes v rest (g, t, is, gap, spells) last =
    let b = behind_gap_begins false (SpellsIn 64 false) (value_starts 64 false) (g ++ t) v rest
    (g, t, refl, gap, spells) in
    cc (sym last ∙ ap (after_blank false) (is ∙ sym (append_assoc g t rest)) ∙ b.is)
