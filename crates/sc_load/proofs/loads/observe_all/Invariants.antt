use Rattle.std.proofs.Common.{◌≡◌, ◌++◌}
use Rattle.std.specs.List.{flat_map}
use Rattle.pv_binary.specs.Written.{written}
use Rattle.sc_load.specs.Loads.{turns_of, observes}
use Rattle.sc_load.proofs.loads.observe_all.Given as goal

abbrev pub invariant-loop-turn : goal.invariant-loop-turn
invariant-loop-turn l = l.script.items ≡ l.initial.script.items ++ flat_map written (turns_of observes l.n l.turn)
