-- What is exported, and then what is left, leads to what all leads to; the numbers so far are those of the end.
use Rattle.std.proofs.Common.{drop}
use Rattle.rl_wire.proofs.Exports.{AreNumberedSo}
use Rattle.rl_wire.proofs.outward.export_foreign.Given as goal

abbrev pub invariant-loop-x : goal.invariant-loop-x
invariant-loop-x l = AreNumberedSo l.fn.ports l.actor l.held l.ports l.numbers.items (drop l.x-index l.held)
