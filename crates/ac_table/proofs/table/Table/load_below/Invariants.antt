use Rattle.std.proofs.Common.{◌≡◌}
use Rattle.ac_table.specs.Sums.{top_load, load_below}
use Rattle.ac_table.proofs.table.Table.load_below.Given as goal

abbrev pub invariant-loop-to : goal.invariant-loop-to
invariant-loop-to l = l.load ≡ top_load (load_below l.actor l.to l.self)
