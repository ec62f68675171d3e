-- What comes of a run, and when two outcomes are the same.
use Rattle.std.specs.Prelude.{◌≡◌}
use Rattle.row_cases.specs.declared.differences.Outcome.{Outcome}

-- the status, the line on standard error and the output are the same
abbrev pub IsSameOutcome : Outcome → Outcome → Type 0
IsSameOutcome a b = (a.status ≡ b.status) × (a.line.items ≡ b.line.items) × (a.output.items ≡ b.output.items)
