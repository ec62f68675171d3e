use Rattle.pv_value.proofs.Ascends.{AscendUpTo}
use Rattle.pv_value.proofs.sets.do_ascend.Given as goal

abbrev pub invariant-loop-i : goal.invariant-loop-i
invariant-loop-i l = AscendUpTo l.items l.i
