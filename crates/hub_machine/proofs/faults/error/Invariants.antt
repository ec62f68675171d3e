use Rattle.std.proofs.Common.{◌≡◌, map, take}
use Rattle.pv_words.specs.Words.{number}
use Rattle.hub_machine.proofs.faults.error.Given as goal

abbrev pub invariant-loop-n : goal.invariant-loop-n
invariant-loop-n l = l.items.items ≡ map number (take l.n-index l.numbers)
