use Rattle.std.proofs.Common.{◌≡◌, ◌+◌, [], map, drop, length}
use Rattle.row_files.specs.Lines.{lines_of}
use Rattle.row_files.specs.Sections.{section_told, with_lines}
use Rattle.row_files.proofs.sections.sections_of.Given as goal

-- the sections so far with the lines that are to come
abbrev pub invariant-loop-line : goal.invariant-loop-line
invariant-loop-line l =
    (with_lines l.place (drop (length l.yielded) (lines_of l.text)) (map section_told l.sections.items)
    ≡ with_lines 1 (lines_of l.text) []) × (l.place ≡ length l.yielded + 1)
