use Rattle.std.proofs.Common.{◌≡◌, map, drop}
use Rattle.pv_value.specs.Plain.{pairs}
use Rattle.pv_value.specs.View.{key_and_value}
use Rattle.dp_pattern.specs.Written.{places_in}
use Rattle.dp_pattern.proofs.parsing.are_places.Given as goal

abbrev pub invariant-loop-e : goal.invariant-loop-e
invariant-loop-e l =
    places_in (pairs (map key_and_value (drop l.e-index l.entries))) ≡ places_in (pairs (map key_and_value l.entries))
