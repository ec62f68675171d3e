use Rattle.std.proofs.Common.{[], map, take}
use Rattle.std.specs.List.{FoldsTo}
use Rattle.row_files.specs.Sections.{section_told}
use Rattle.row_files.specs.Rows.{AddsSection, row_told}
use Rattle.row_files.proofs.rows.rows_in.Given as goal

-- the rows of the sections so far
abbrev pub invariant-loop-section : goal.invariant-loop-section
invariant-loop-section l =
    FoldsTo AddsSection [] (map section_told (take l.section-index l.sections)) (map row_told l.rows.items)
