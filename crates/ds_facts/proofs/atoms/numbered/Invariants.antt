-- Those so far, and then the rest, are all.
use Rattle.std.proofs.Common.{◌≡◌, ◌++◌, drop}
use Rattle.pv_value.specs.Plain.{plains}
use Rattle.ds_facts.specs.Atoms.{numbered}
use Rattle.ds_facts.proofs.atoms.numbered.Given as goal

abbrev pub invariant-loop-i : goal.invariant-loop-i
invariant-loop-i l = l.list.items ++ numbered l.i (plains (drop l.i l.items)) ≡ numbered 0 (plains l.items)
