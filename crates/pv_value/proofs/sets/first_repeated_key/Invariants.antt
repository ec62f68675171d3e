use Rattle.std.proofs.Common.{take, map}
use Rattle.pv_value.specs.declared.Entry.{Entry}
use Rattle.pv_value.specs.Sets.{AreDistinct}
use Rattle.pv_value.proofs.Ascends.{HasThese}
use Rattle.pv_value.proofs.sets.first_repeated_key.Given as goal

abbrev pub invariant-loop-i : goal.invariant-loop-i
invariant-loop-i l =
    let keys = map (λ (e : Entry). e.key) l.entries in
    record { members : HasThese l.seen (take l.i keys); distinct : AreDistinct (take l.i keys) }
