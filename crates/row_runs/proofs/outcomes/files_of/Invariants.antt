use Rattle.std.proofs.Common.{◌≡◌, map, take}
use Rattle.out_ports.specs.MemHost.{told_files}
use Rattle.row_files.specs.Rows.{file_told}
use Rattle.row_runs.proofs.outcomes.files_of.Given as goal

-- the files so far are there
abbrev pub invariant-loop-file : goal.invariant-loop-file
invariant-loop-file l = told_files l.all.items ≡ map file_told (take l.file-index l.files)
