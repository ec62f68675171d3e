use Rattle.std.proofs.Common.{◌≡◌, ◌++◌, ◌*◌, min}
use Rattle.std.specs.List.{flat_map}
use Rattle.pv_binary.specs.Written.{written}
use Rattle.sc_load.specs.Loads.{after, turns_of, loads}
use Rattle.sc_load.proofs.loads.load_all.Given as goal

-- so many turns are written, and their items drawn for
abbrev pub invariant-loop-turn : goal.invariant-loop-turn
invariant-loop-turn l = record {
  script : l.script.items ≡ l.initial.script.items ++ flat_map written (turns_of (loads l.start) l.n l.turn);
  draws : l.draws.number ≡ after l.start (min l.n (500 * l.turn));
}
