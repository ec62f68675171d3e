use Rattle.std.proofs.Common.{take}
use Rattle.pv_value.specs.Sets.{AreDistinct}
use Rattle.pv_value.proofs.Ascends.{HasThese}
use Rattle.pv_value.proofs.sets.first_repeat.Given as goal

abbrev pub invariant-loop-i : goal.invariant-loop-i
invariant-loop-i l = record { members : HasThese l.seen (take l.i l.items); distinct : AreDistinct (take l.i l.items) }
