-- What a text begins with, and what the reading functions say of it.
use Rattle.std.specs.Prelude.{◌≡◌, ◌+◌, ℕ, false, List, ◌++◌, length, Option, Some, None, ◌⊎◌}
use Rattle.std.specs.Str.{IsUtf8}
use Rattle.pv_value.specs.Plain.{Plain}
use Rattle.pv_read.specs.Limits.{read_depth}
use Rattle.pv_read.specs.Results.{Fault}
use Rattle.pv_read.specs.Leading.{LeadsOver}
use Rattle.pv_lex.specs.declared.faults.TextKind.{TextKind}
use Rattle.pv_lex.specs.declared.faults.TextKind.TheVariants.{BadUtf8}
use Rattle.pv_lex.specs.Gaps.{IsGap, IsLastGap}
use Rattle.pv_text.specs.Spells.{SpellsIn}
use Rattle.pv_text.specs.Reading.{no_value}
use Rattle.pv_text.specs.Stops.{StopsIn}

-- ---- the last bytes of a text

-- behind a gap they spell the value, which nests no deeper than is read, before the rest
abbrev pub LeadsTo : List ℕ → Plain → List ℕ → Type 0
LeadsTo bytes v rest =
    (g : List ℕ) × (t : List ℕ) × (bytes ≡ g ++ (t ++ rest)) × IsGap false g × SpellsIn read_depth false t v rest

-- they are these values and a last gap
abbrev pub AreValues : List ℕ → List Plain → Type 0
AreValues bytes vs = (rest : List ℕ) × LeadsOver LeadsTo bytes vs rest × IsLastGap false rest

-- of a text of so many bytes the last ones begin no value, though one is due, and reading it stops so
abbrev pub NextStops : ℕ → List ℕ → Fault TextKind → Type 0
NextStops total bytes f = (IsLastGap false bytes → ⊥) × StopsIn total read_depth false (no_value total) bytes f

-- ---- whole texts

-- the first n bytes of the text are a gap and a spelling of the value
abbrev pub BeginsWith : List ℕ → ℕ → Plain → Type 0
BeginsWith text n v = IsUtf8 text × (rest : List ℕ) × LeadsTo text v rest × (n + length rest ≡ length text)

-- the text is these values
abbrev pub AreValuesOf : List ℕ → List Plain → Type 0
AreValuesOf text vs = IsUtf8 text × AreValues text vs

-- the text isn't UTF-8; or after some values it stops so
abbrev pub ValuesStand : List ℕ → Fault TextKind → Type 0
ValuesStand text f =
    ((IsUtf8 text → ⊥) × (f ≡ record { kind = BadUtf8; place = 0 }))
    ⊎ (IsUtf8 text × (vs : List Plain) × (rest : List ℕ) × LeadsOver LeadsTo text vs rest
    × NextStops (length text) rest f)

-- ---- answers

-- the next value, or that only a gap is left
abbrev pub IsNext : List ℕ → Option (Plain × List ℕ) → Type 0
IsNext bytes None = IsLastGap false bytes
IsNext bytes (Some x) = LeadsTo bytes x.0 x.1
