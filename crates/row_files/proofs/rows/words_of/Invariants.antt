use Rattle.std.proofs.Common.{[], map, string_bytes}
use Rattle.std.specs.List.{FoldsTo}
use Rattle.row_files.specs.Rows.{AddsWord}
use Rattle.row_files.proofs.rows.words_of.Given as goal

-- what blanks part so far
abbrev pub invariant-loop-word : goal.invariant-loop-word
invariant-loop-word l = FoldsTo AddsWord [] (map (λ x. x.now) l.yielded) (map string_bytes l.words.items)
