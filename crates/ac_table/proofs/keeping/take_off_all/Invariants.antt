use Rattle.std.proofs.Common.{◌≡◌, ◌+◌, drop}
use Rattle.ac_table.specs.Kept.{sum_of_rows}
use Rattle.ac_table.proofs.keeping.take_off_all.Given as goal

abbrev pub invariant-loop-row : goal.invariant-loop-row
invariant-loop-row l =
    l.row_weight + sum_of_rows l.rows ≡ l.fn.row_weight + sum_of_rows (drop l.row-index l.rows)
