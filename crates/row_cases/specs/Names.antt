-- The names by which tables tell the kinds of faults and of tokens.
use Rattle.std.specs.Prelude.{ℕ, List, codes}
use Rattle.pv_binary.specs.declared.faults.BinKind.{BinKind}
use Rattle.pv_binary.specs.declared.faults.BinKind.TheVariants as binary
use Rattle.pv_lex.specs.declared.faults.TextKind.{TextKind}
use Rattle.pv_lex.specs.declared.faults.TextKind.TheVariants as text
use Rattle.pv_lex.specs.declared.kinds.Mark.{Mark}
use Rattle.pv_lex.specs.declared.kinds.Mark.TheVariants as mark
use Rattle.pv_lex.specs.declared.kinds.AtomForm.{AtomForm}
use Rattle.pv_lex.specs.declared.kinds.AtomForm.TheVariants as form
use Rattle.pv_lex.specs.declared.kinds.TokenKind.{TokenKind}
use Rattle.pv_lex.specs.declared.kinds.TokenKind.TheVariants as kind

abbrev pub text_fault_name : TextKind → List ℕ
text_fault_name text.Unexpected = codes "Unexpected"
text_fault_name text.BadEscape = codes "BadEscape"
text_fault_name text.DecimalDouble = codes "DecimalDouble"
text_fault_name text.BadBytes = codes "BadBytes"
text_fault_name text.Unclosed = codes "Unclosed"
text_fault_name text.TooWide = codes "TooWide"
text_fault_name text.TooDeep = codes "TooDeep"
text_fault_name text.Duplicate = codes "Duplicate"
text_fault_name text.BadUtf8 = codes "BadUtf8"

abbrev pub binary_fault_name : BinKind → List ℕ
binary_fault_name binary.Truncated = codes "Truncated"
binary_fault_name binary.BadTag = codes "BadTag"
binary_fault_name binary.LongVarint = codes "LongVarint"
binary_fault_name binary.LongInteger = codes "LongInteger"
binary_fault_name binary.TooWide = codes "TooWide"
binary_fault_name binary.BadUtf8 = codes "BadUtf8"
binary_fault_name binary.Duplicate = codes "Duplicate"
binary_fault_name binary.TooDeep = codes "TooDeep"

abbrev pub mark_name : Mark → List ℕ
mark_name mark.RecordOpen = codes "RecordOpen"
mark_name mark.RecordClose = codes "RecordClose"
mark_name mark.SequenceOpen = codes "SequenceOpen"
mark_name mark.SequenceClose = codes "SequenceClose"
mark_name mark.SetOpen = codes "SetOpen"
mark_name mark.DictionaryOpen = codes "DictionaryOpen"
mark_name mark.BraceClose = codes "BraceClose"
mark_name mark.Colon = codes "Colon"
mark_name mark.Comma = codes "Comma"
mark_name mark.Annotation = codes "Annotation"
mark_name mark.Embedded = codes "Embedded"

abbrev pub form_name : AtomForm → List ℕ
form_name form.False = codes "False"
form_name form.True = codes "True"
form_name form.Integer = codes "Integer"
form_name form.Symbol = codes "Symbol"
form_name form.QuotedSymbol = codes "QuotedSymbol"
form_name form.String = codes "String"
form_name form.AsciiBytes = codes "AsciiBytes"
form_name form.HexBytes = codes "HexBytes"
form_name form.Base64Bytes = codes "Base64Bytes"
form_name form.Double = codes "Double"

abbrev pub token_name : TokenKind → List ℕ
token_name (kind.Mark m) = mark_name m
token_name (kind.Atom f) = form_name f
