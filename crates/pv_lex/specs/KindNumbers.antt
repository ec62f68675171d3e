-- The numbers that name the faults of the text form.
use Rattle.std.specs.Prelude.{ℕ}
use Rattle.pv_lex.specs.declared.faults.TextKind.{TextKind}
use Rattle.pv_lex.specs.declared.faults.TextKind.TheVariants as kind

abbrev pub kind_number : TextKind → ℕ
kind_number kind.Unexpected = 10
kind_number kind.BadEscape = 11
kind_number kind.DecimalDouble = 12
kind_number kind.BadBytes = 13
kind_number kind.Unclosed = 14
kind_number kind.TooWide = 15
kind_number kind.TooDeep = 16
kind_number kind.Duplicate = 17
kind_number kind.BadUtf8 = 18
