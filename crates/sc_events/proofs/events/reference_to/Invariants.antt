use Rattle.std.proofs.Common.{◌≡◌, ◌++◌, drop}
use Rattle.pv_value.specs.Plain.{plains}
use Rattle.sr_caveat.specs.Caps.{caveats_from}
use Rattle.sc_events.proofs.events.reference_to.Given as goal

abbrev pub invariant-loop-caveat : goal.invariant-loop-caveat
invariant-loop-caveat l =
    l.own.items ++ caveats_from (plains (drop l.caveat-index l.caveats)) ≡ caveats_from (plains l.caveats)
