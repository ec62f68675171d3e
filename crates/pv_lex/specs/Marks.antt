-- The marks of the text form, by their characters. Preserves text syntax, "Compounds", "Annotations" and "Embedded".
use Rattle.std.specs.Prelude.{ℕ, List, [], ◌∷◌}
use Rattle.pv_lex.specs.declared.kinds.Mark.{Mark}
use Rattle.pv_lex.specs.declared.kinds.Mark.TheVariants as mark

-- < > [ ] #{ { } : , @ #:
abbrev pub mark_text : Mark → List ℕ
mark_text mark.RecordOpen = 60 ∷ []
mark_text mark.RecordClose = 62 ∷ []
mark_text mark.SequenceOpen = 91 ∷ []
mark_text mark.SequenceClose = 93 ∷ []
mark_text mark.SetOpen = 35 ∷ 123 ∷ []
mark_text mark.DictionaryOpen = 123 ∷ []
mark_text mark.BraceClose = 125 ∷ []
mark_text mark.Colon = 58 ∷ []
mark_text mark.Comma = 44 ∷ []
mark_text mark.Annotation = 64 ∷ []
mark_text mark.Embedded = 35 ∷ 58 ∷ []
