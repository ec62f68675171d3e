-- Where the reading of a value stops at a fault, and at which. What follows a fault counts for nothing, so the first
-- one from the left is told. The place of a fault is where the token begins that it spoils, or the compound, the
-- embedded value or the annotation that isn't closed.
use Rattle.std.specs.Prelude.{◌≡◌, ◌≢◌, ℕ, zero, suc, Bool, true, false, not, IsTrue}
use Rattle.std.specs.Prelude.{List, [], ◌∷◌, ◌++◌, length, None, ◌⊎◌}
use Rattle.std.specs.Str.{IsUtf8}
use Rattle.pv_value.specs.Plain.{Plain}
use Rattle.pv_value.specs.Sets.{set_from, dictionary_from}
use Rattle.pv_read.specs.Limits.{read_depth}
use Rattle.pv_read.specs.Results.{Fault}
use Rattle.pv_lex.specs.declared.faults.TextKind.{TextKind}
use Rattle.pv_lex.specs.declared.faults.TextKind.TheVariants.{Unexpected, TooDeep, Duplicate, BadUtf8}
use Rattle.pv_lex.specs.Gaps.{IsGap, IsLastGap, after_blank}
use Rattle.pv_lex.specs.declared.kinds.Mark.{Mark}
use Rattle.pv_lex.specs.declared.kinds.Mark.TheVariants as mark
use Rattle.pv_lex.specs.Marks.{mark_text}
use Rattle.pv_lex.specs.TokenFaults.{TokenFault}
use Rattle.pv_text.specs.Spells.{Spelling, BehindGap, Elements, IsClosed, IsEntry, Annotated, IsCoreIn, SpellsIn}
use Rattle.pv_text.specs.Reading.{fault_at, unclosed, opens, no_value}

-- at which bytes the reading of something stops, and at which fault
abbrev pub Stopping : Type 1
Stopping = List ℕ → Fault TextKind → Type 0

-- a mark that ends or parts something, where a value is due: > ] } : and a comma that isn't white space
abbrev pub is_misplaced : Bool → Mark → Bool
is_misplaced commas mark.RecordClose = true
is_misplaced commas mark.SequenceClose = true
is_misplaced commas mark.BraceClose = true
is_misplaced commas mark.Colon = true
is_misplaced commas mark.Comma = not commas
is_misplaced commas m = false

-- In what follows the bytes are the last of total bytes, and at_end is what the end of the text is. Inner says what
-- spells a value with the gap before it, and InnerStops where the reading of such a value stops.

-- ---- in compounds

-- after some elements comes what is neither the close, behind a gap, nor an element
abbrev pub ElementsStop : {A : Type 0} → Bool → ℕ → Spelling A → Stopping → Stopping
ElementsStop {A} commas close Element ElementStops bytes f =
    (t : List ℕ) × (u : List ℕ) × (xs : List A) × (bytes ≡ t ++ u) × Elements Element t xs u
    × ((r : List ℕ) → after_blank commas u ≡ close ∷ r → ⊥) × ElementStops u f

-- a colon is due
abbrev pub ColonStops : ℕ → Fault TextKind → Stopping
ColonStops total at_end bytes f =
    (IsLastGap true bytes × (at_end ≡ f))
    ⊎ ((b : ℕ) × (r : List ℕ) × (after_blank true bytes ≡ b ∷ r) × (b ≢ 58) × (fault_at total Unexpected (b ∷ r) ≡ f))

-- the reading of an entry stops in its key, behind it, or in its value
abbrev pub EntryStops : ℕ → Spelling Plain → (Fault TextKind → Stopping) → Fault TextKind → Stopping
EntryStops total Inner InnerStops at_end bytes f =
    InnerStops at_end bytes f
    ⊎ (((a : List ℕ) × (r : List ℕ) × (k : Plain) × (bytes ≡ a ++ r) × Inner a k r × ColonStops total at_end r f)
    ⊎ ((a : List ℕ) × (g : List ℕ) × (r : List ℕ) × (k : Plain) × (bytes ≡ a ++ (g ++ 58 ∷ r))
    × Inner a k (g ++ 58 ∷ r) × IsGap true g × InnerStops at_end r f))

-- by the mark that opens the compound
pub data CompoundStops (total : ℕ) (Inner : Bool → Spelling Plain) (InnerStops : Bool → Fault TextKind → Stopping)
    (commas : Bool) : List ℕ → Fault TextKind → Type 0 where
  in_embedded : (r : List ℕ) (f : Fault TextKind) → InnerStops commas (unclosed total (35 ∷ 58 ∷ r)) r f
      → CompoundStops total Inner InnerStops commas (35 ∷ 58 ∷ r) f
  in_label : (r : List ℕ) (f : Fault TextKind) → InnerStops false (unclosed total (60 ∷ r)) r f
      → CompoundStops total Inner InnerStops commas (60 ∷ r) f
  in_fields : (a r : List ℕ) (l : Plain) (f : Fault TextKind) → Inner false a l r
      → ElementsStop false 62 (Inner false) (InnerStops false (unclosed total (60 ∷ (a ++ r)))) r f
      → CompoundStops total Inner InnerStops commas (60 ∷ (a ++ r)) f
  in_sequence : (r : List ℕ) (f : Fault TextKind)
      → ElementsStop true 93 (Inner true) (InnerStops true (unclosed total (91 ∷ r))) r f
      → CompoundStops total Inner InnerStops commas (91 ∷ r) f
  in_set : (r : List ℕ) (f : Fault TextKind)
      → ElementsStop true 125 (Inner true) (InnerStops true (unclosed total (35 ∷ 123 ∷ r))) r f
      → CompoundStops total Inner InnerStops commas (35 ∷ 123 ∷ r) f
  in_dictionary : (r : List ℕ) (f : Fault TextKind)
      → ElementsStop true 125 (IsEntry (Inner true))
      (EntryStops total (Inner true) (InnerStops true) (unclosed total (123 ∷ r))) r f
      → CompoundStops total Inner InnerStops commas (123 ∷ r) f
  equal_elements : (u r : List ℕ) (vs : List Plain) → IsClosed true 125 (Inner true) u vs r → set_from vs ≡ None
      → CompoundStops total Inner InnerStops commas (35 ∷ 123 ∷ (u ++ r))
      (fault_at total Duplicate (35 ∷ 123 ∷ (u ++ r)))
  equal_keys : (u r : List ℕ) (ps : List (Plain × Plain)) → IsClosed true 125 (IsEntry (Inner true)) u ps r
      → dictionary_from ps ≡ None
      → CompoundStops total Inner InnerStops commas (123 ∷ (u ++ r)) (fault_at total Duplicate (123 ∷ (u ++ r)))

-- ---- at a value without annotations, whose compounds stop by Deeper

pub data CoreStops (total : ℕ) (commas : Bool) (Deeper : Stopping) : List ℕ → Fault TextKind → Type 0 where
  at_token : (bytes : List ℕ) (k : TextKind) → TokenFault bytes k
      → CoreStops total commas Deeper bytes (fault_at total k bytes)
  misplaced : (m : Mark) (r : List ℕ) → IsTrue (is_misplaced commas m)
      → CoreStops total commas Deeper (mark_text m ++ r) (fault_at total Unexpected (mark_text m ++ r))
  deeper : (bytes : List ℕ) (f : Fault TextKind) → Deeper bytes f → CoreStops total commas Deeper bytes f

-- a mark that opens a level, where no more may be opened
abbrev pub IsTooDeep : ℕ → Stopping
IsTooDeep total bytes f =
    (m : Mark) × (r : List ℕ) × (bytes ≡ mark_text m ++ r) × IsTrue (opens m) × (fault_at total TooDeep bytes ≡ f)

-- ---- where a value is due and no gap stands before it, annotations before it

pub data DueStops (total : ℕ) (Core : Spelling Plain) (Stop : Stopping) (commas : Bool)
    : Fault TextKind → List ℕ → Fault TextKind → Type 0 where
  ended : (at_end : Fault TextKind) → DueStops total Core Stop commas at_end [] at_end
  in_core : (at_end f : Fault TextKind) (bytes : List ℕ) → Stop bytes f → DueStops total Core Stop commas at_end bytes f
  in_annotation : (at_end f : Fault TextKind) (bytes : List ℕ)
      → DueStops total Core Stop commas (unclosed total (64 ∷ bytes)) (after_blank commas bytes) f
      → DueStops total Core Stop commas at_end (64 ∷ bytes) f
  past_annotation : (at_end f : Fault TextKind) (g a bytes : List ℕ) (w : Plain)
      → IsGap commas g → Annotated Core commas a w bytes
      → DueStops total Core Stop commas (unclosed total (64 ∷ (g ++ (a ++ bytes)))) (after_blank commas bytes) f
      → DueStops total Core Stop commas at_end (64 ∷ (g ++ (a ++ bytes))) f

-- the same behind the longest gap
abbrev pub BehindGapStops : ℕ → Spelling Plain → Stopping → Bool → Fault TextKind → Stopping
BehindGapStops total Core Stop commas at_end bytes f =
    DueStops total Core Stop commas at_end (after_blank commas bytes) f

-- ---- values

-- without annotations before it, where n levels may be opened
abbrev pub CoreStopsIn : ℕ → ℕ → Bool → Stopping
CoreStopsIn total zero commas bytes f = CoreStops total commas (IsTooDeep total) bytes f
CoreStopsIn total (suc n) commas bytes f =
    CoreStops total commas (CompoundStops total (λ c. BehindGap c (SpellsIn n c))
    (λ c. BehindGapStops total (IsCoreIn n c) (CoreStopsIn total n c) c) commas) bytes f

-- behind a gap, where n levels may be opened
abbrev pub StopsIn : ℕ → ℕ → Bool → Fault TextKind → Stopping
StopsIn total n commas at_end bytes f =
    BehindGapStops total (IsCoreIn n commas) (CoreStopsIn total n commas) commas at_end bytes f

-- ---- whole texts

-- the text isn't UTF-8; or a value is due at its beginning, and reading it stops so
abbrev pub TextStands : List ℕ → Fault TextKind → Type 0
TextStands text f =
    ((IsUtf8 text → ⊥) × (f ≡ record { kind = BadUtf8; place = 0 }))
    ⊎ (IsUtf8 text × StopsIn (length text) read_depth false (no_value (length text)) text f)
