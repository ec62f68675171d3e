use Rattle.std.proofs.Common.{◌≡◌}
use Rattle.row_cases.specs.Findings.{capped_sum}
use Rattle.dsd_rows.proofs.run_files.Given as goal

-- each file is counted
abbrev pub invariant-loop-name : goal.invariant-loop-name
invariant-loop-name g l = record {
  folder : l.ran.folder ≡ l.folder;
  files : l.ran.files ≡ capped_sum 0 l.name-index;
}
