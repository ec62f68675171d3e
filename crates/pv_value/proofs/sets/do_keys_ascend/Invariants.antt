use Rattle.pv_value.proofs.Ascends.{AscendUpTo, keys_of}
use Rattle.pv_value.proofs.sets.do_keys_ascend.Given as goal

abbrev pub invariant-loop-i : goal.invariant-loop-i
invariant-loop-i l = AscendUpTo (keys_of l.entries) l.i
