-- What was found so far serves all the constants, and with the rest it is the least.
use Rattle.std.proofs.Common.{◌≡◌, ◌≤◌, ◌-◌, ◌^◌, min, List, drop, Some}
use Rattle.pv_value.specs.Plain.{Plain}
use Rattle.ds_shape.specs.Paths.{parts_at}
use Rattle.ds_facts.specs.Keeping.{AreFacts}
use Rattle.ds_facts.specs.Nearness.{IsNearTo, size, fewest}
use Rattle.ds_facts.proofs.facts.Facts.near_all.Given as goal

abbrev pub invariant-loop-i : goal.invariant-loop-i
invariant-loop-i l = record {
  near : (vs : List Plain) → AreFacts vs l.self → IsNearTo vs (λ v. parts_at l.paths v ≡ Some l.constants) l.best;
  least : min (size l.best) (fewest l.self (drop l.i l.paths) (drop l.i l.constants))
      ≡ fewest l.self l.paths l.constants;
  small : size l.best ≤ 2 ^ 64 - 1;
}
