-- The tokens of a text, by what they are: texts of their kinds, gaps between them, and where the first fault stands.
use Rattle.std.specs.Prelude.{◌≡◌, ℕ, ◌+◌, ◌<◌, ◌≤◌, false, List, [], ◌∷◌, ◌++◌, length, ◌⊎◌}
use Rattle.std.specs.Str.{IsUtf8}
use Rattle.pv_value.specs.Plain.{Plain}
use Rattle.pv_read.specs.Results.{Fault}
use Rattle.pv_read.specs.Leading.{LeadsOver}
use Rattle.pv_lex.specs.Gaps.{IsGap, IsLastGap}
use Rattle.pv_lex.specs.Marks.{mark_text}
use Rattle.pv_lex.specs.Atoms.{IsAtomOf}
use Rattle.pv_lex.specs.TokenFaults.{TokenFault}
use Rattle.pv_lex.specs.declared.kinds.TokenKind.{TokenKind}
use Rattle.pv_lex.specs.declared.kinds.TokenKind.TheVariants as kind
use Rattle.pv_lex.specs.declared.kinds.Token.{Token}
use Rattle.pv_lex.specs.declared.faults.TextKind.{TextKind}
use Rattle.pv_lex.specs.declared.faults.TextKind.TheVariants.{BadUtf8}

-- the text, before the rest, is a token of this kind
abbrev pub IsToken : TokenKind → List ℕ → List ℕ → Type 0
IsToken (kind.Mark m) t r = t ≡ mark_text m
IsToken (kind.Atom f) t r = (v : Plain) × IsAtomOf f t v r

-- In what follows the bytes are the last of a text of total bytes.

-- a gap and this token, and then the rest
abbrev pub LeadsToToken : ℕ → List ℕ → Token → List ℕ → Type 0
LeadsToToken total bytes x rest =
    (g : List ℕ) × (t : List ℕ) × (bytes ≡ g ++ (t ++ rest)) × IsGap false g × IsToken x.kind t rest
    × (x.start + length (t ++ rest) ≡ total) × (x.end + length rest ≡ total)

-- these tokens, and then a last gap
abbrev pub AreTokens : ℕ → List ℕ → List Token → Type 0
AreTokens total bytes ts = (rest : List ℕ) × LeadsOver (LeadsToToken total) bytes ts rest × IsLastGap false rest

-- some tokens and a gap, and then what is no token, and why
abbrev pub TokensStop : ℕ → List ℕ → Fault TextKind → Type 0
TokensStop total bytes f =
    (ts : List Token) × (g : List ℕ) × (u : List ℕ) × LeadsOver (LeadsToToken total) bytes ts (g ++ u) × IsGap false g
    × TokenFault u f.kind × (f.place + length u ≡ total)

-- tokens in order from a place on: none is empty, and none begins before the end of the one in front of it
abbrev pub AreInOrder : ℕ → ℕ → List Token → Type 0
AreInOrder total from [] = from ≤ total
AreInOrder total from (x ∷ xs) = (from ≤ x.start) × (x.start < x.end) × AreInOrder total x.end xs

-- ---- whole texts

-- the text is these tokens
abbrev pub AreTokensOf : List ℕ → List Token → Type 0
AreTokensOf text ts = IsUtf8 text × AreTokens (length text) text ts

-- the text isn't UTF-8; or after some tokens it stops so
abbrev pub TokensStand : List ℕ → Fault TextKind → Type 0
TokensStand text f =
    ((IsUtf8 text → ⊥) × (f ≡ record { kind = BadUtf8; place = 0 })) ⊎ (IsUtf8 text × TokensStop (length text) text f)
