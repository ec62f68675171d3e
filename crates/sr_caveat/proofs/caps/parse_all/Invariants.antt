-- What lasts in the loops of `parse_all`, and what falls.
use Rattle.std.proofs.Common.{◌≡◌, ◌++◌, drop}
use Rattle.pv_value.specs.Plain.{plains}
use Rattle.sr_caveat.specs.Caps.{caveats_from}
use Rattle.sr_caveat.proofs.caps.parse_all.Given as goal

abbrev pub invariant-loop-value : goal.invariant-loop-value
invariant-loop-value l =
    l.caveats.items ++ caveats_from (plains (drop l.value-index l.values)) ≡ caveats_from (plains l.values)
