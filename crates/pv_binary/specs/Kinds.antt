-- The numbers of the faults of the binary form, which an error packet shows. They are the project's own.
use Rattle.std.specs.Prelude.{ℕ}
use Rattle.pv_binary.specs.declared.faults.BinKind.{BinKind}
use Rattle.pv_binary.specs.declared.faults.BinKind.TheVariants as kind

abbrev pub kind_number : BinKind → ℕ
kind_number kind.Truncated = 1
kind_number kind.BadTag = 2
kind_number kind.LongVarint = 3
kind_number kind.LongInteger = 4
kind_number kind.TooWide = 5
kind_number kind.BadUtf8 = 6
kind_number kind.Duplicate = 7
kind_number kind.TooDeep = 8
