use Rattle.std.proofs.Common.{◌≡◌, map, take}
use Rattle.sc_report.specs.Reports.{holding_value}
use Rattle.sc_report.proofs.reports.holdings.Given as goal

abbrev pub invariant-loop-holding : goal.invariant-loop-holding
invariant-loop-holding l = l.values.items ≡ map holding_value (take l.holding-index l.held)
