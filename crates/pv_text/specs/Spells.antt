-- Which texts spell a value: the grammar of the Preserves text syntax, by cases on the kind of the value. A text stands
-- before a rest, since a bare token ends only where something else begins. There is no bound on nesting.
use Rattle.std.specs.Prelude.{◌≡◌, ℕ, zero, suc, Bool, true, false, List, [], ◌∷◌, ◌++◌, Some, ◌⊎◌}
use Rattle.std.specs.Str.{IsUtf8}
use Rattle.pv_value.specs.Plain.{Plain, record_of, sequence, set_of, dictionary, embedded, plains}
use Rattle.pv_value.specs.Sets.{set_from, dictionary_from}
use Rattle.pv_lex.specs.Gaps.{IsGap}
use Rattle.pv_lex.specs.Atoms.{IsAtom}

-- by which texts a thing is spelled, each before a rest
abbrev pub Spelling : Type 0 → Type 1
Spelling A = List ℕ → A → List ℕ → Type 0

-- ---- what stands in a compound

-- behind a gap
abbrev pub BehindGap : Bool → Spelling Plain → Spelling Plain
BehindGap commas Value t v r = (g : List ℕ) × (a : List ℕ) × (t ≡ g ++ a) × IsGap commas g × Value a v r

-- elements one behind another, each with the gap before it
abbrev pub Elements : {A : Type 0} → Spelling A → List ℕ → List A → List ℕ → Type 0
Elements Element t [] r = t ≡ []
Elements Element t (x ∷ xs) r =
    (a : List ℕ) × (u : List ℕ) × (t ≡ a ++ u) × Element a x (u ++ r) × Elements Element u xs r

-- elements, a gap and the close
abbrev pub IsClosed : {A : Type 0} → Bool → ℕ → Spelling A → List ℕ → List A → List ℕ → Type 0
IsClosed commas close Element t xs r =
    (u : List ℕ) × (g : List ℕ) × (t ≡ u ++ (g ++ close ∷ [])) × IsGap commas g
    × Elements Element u xs (g ++ close ∷ r)

-- a key, a gap and a colon, and a value; key and value are such as Inner says
abbrev pub IsEntry : Spelling Plain → Spelling (Plain × Plain)
IsEntry Inner t p r =
    (a : List ℕ) × (g : List ℕ) × (c : List ℕ) × (t ≡ a ++ (g ++ 58 ∷ c))
    × Inner a p.0 (g ++ 58 ∷ (c ++ r)) × IsGap true g × Inner c p.1 r

-- ---- compounds; Inner says what spells a value with the gap before it, by whether a comma counts as white space,
-- which the innermost compound decides

abbrev pub IsCompound : (Bool → Spelling Plain) → Bool → Spelling Plain
IsCompound Inner commas t (record_of l fs) r =
    (a : List ℕ) × (u : List ℕ) × (vs : List Plain) × (t ≡ 60 ∷ (a ++ u)) × Inner false a l (u ++ r)
    × IsClosed false 62 (Inner false) u vs r × (plains vs ≡ fs)
IsCompound Inner commas t (sequence xs) r =
    (u : List ℕ) × (vs : List Plain) × (t ≡ 91 ∷ u) × IsClosed true 93 (Inner true) u vs r × (plains vs ≡ xs)
IsCompound Inner commas t (set_of xs) r =
    (u : List ℕ) × (vs : List Plain) × (t ≡ 35 ∷ 123 ∷ u) × IsClosed true 125 (Inner true) u vs r
    × (set_from vs ≡ Some (set_of xs))
IsCompound Inner commas t (dictionary es) r =
    (u : List ℕ) × (ps : List (Plain × Plain)) × (t ≡ 123 ∷ u) × IsClosed true 125 (IsEntry (Inner true)) u ps r
    × (dictionary_from ps ≡ Some (dictionary es))
IsCompound Inner commas t (embedded x) r = (a : List ℕ) × (t ≡ 35 ∷ 58 ∷ a) × Inner commas a x r
IsCompound Inner commas t v r = ⊥

-- an atom or a compound
abbrev pub IsCore : (Bool → Spelling Plain) → Bool → Spelling Plain
IsCore Inner commas t v r = IsAtom t v r ⊎ IsCompound Inner commas t v r

-- ---- annotations

-- a value, before which annotations may stand, @a each; those are values, and count for nothing
pub data Annotated (Core : Spelling Plain) (commas : Bool) : List ℕ → Plain → List ℕ → Type 0 where
  plainly : (t : List ℕ) (v : Plain) (r : List ℕ) → Core t v r → Annotated Core commas t v r
  behind_annotation : (g a h t : List ℕ) (w v : Plain) (r : List ℕ)
      → IsGap commas g → Annotated Core commas a w (h ++ (t ++ r)) → IsGap commas h → Annotated Core commas t v r
      → Annotated Core commas (64 ∷ (g ++ (a ++ (h ++ t)))) v r

-- ---- values

-- without annotations before it, and at most n levels deep, annotations inside and all
abbrev pub IsCoreIn : ℕ → Bool → Spelling Plain
IsCoreIn zero commas t v r = IsAtom t v r
IsCoreIn (suc n) commas t v r = IsCore (λ c. BehindGap c (Annotated (IsCoreIn n c) c)) commas t v r

-- the text spells the value before the rest, and nests at most n deep, annotations and all
abbrev pub SpellsIn : ℕ → Bool → Spelling Plain
SpellsIn n commas t v r = Annotated (IsCoreIn n commas) commas t v r

-- ---- whole texts

-- The text spells the value, from its first byte to its last. The white space inside is part of it, also that between an
-- annotation and the value; the white space before and after is none, since it may as well belong to a neighbour: what
-- is read of a text says by itself which gaps it passes (Reads.antt).
abbrev pub TextSpells : List ℕ → Plain → Type 0
TextSpells t v = IsUtf8 t × (n : ℕ) × SpellsIn n false t v []
