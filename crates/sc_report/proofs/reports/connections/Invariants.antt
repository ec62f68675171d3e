use Rattle.std.proofs.Common.{◌≡◌, take}
use Rattle.sc_report.specs.Reports.{connection_values}
use Rattle.sc_report.proofs.reports.connections.Given as goal

-- the connections so far are told
abbrev pub invariant-loop-connection : goal.invariant-loop-connection
invariant-loop-connection l = l.values.items ≡ connection_values 1 (take l.connection-index l.connections)
