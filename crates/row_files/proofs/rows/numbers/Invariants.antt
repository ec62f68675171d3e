use Rattle.std.proofs.Common.{[], map}
use Rattle.std.specs.List.{FoldsTo}
use Rattle.row_files.specs.Rows.{AddsNumber}
use Rattle.row_files.proofs.rows.numbers.Given as goal

-- what blanks part so far
abbrev pub invariant-loop-word : goal.invariant-loop-word
invariant-loop-word l = FoldsTo AddsNumber [] (map (λ x. x.now) l.yielded) l.all.items
