use Rattle.std.proofs.Common.{◌≡◌}
use Rattle.std.specs.List.{flat_map}
use Rattle.pv_binary.specs.Written.{written}
use Rattle.sc_load.specs.Loads.{opens}
use Rattle.sc_load.proofs.loads.open_all.Given as goal

abbrev pub invariant-loop : goal.invariant-loop
invariant-loop l = l.script.items ≡ flat_map written (opens l.counter)
