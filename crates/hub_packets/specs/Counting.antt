-- What the code looks at of a row, one after the other.
use Rattle.std.specs.Prelude.{ℕ, Option}
use Rattle.ac_table.specs.declared.loads.Load.{Load}
use Rattle.hub_machine.specs.Limits.{most_rows_weight}
use Rattle.hub_machine.specs.declared.faults.Fault.{Fault}
use Rattle.hub_machine.specs.Faults.{◌<|>◌, over}
use Rattle.hub_machine.specs.Admission.{Admitting, load_cause, rows_with}

-- the rows would be too heavy with one more of this weight, or too much would wait
abbrev pub counted_cause : ℕ → Load → Admitting → Option Fault
counted_cause weight load x = over most_rows_weight 5 (rows_with weight x) <|> load_cause load
