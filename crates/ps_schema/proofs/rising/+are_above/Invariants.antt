use Rattle.std.proofs.Common.{take}
use Rattle.ps_schema.specs.Patterns.{patterns}
use Rattle.ps_schema.specs.Lemmas.Measures.{measure, measure_all}
use Rattle.ps_schema.specs.Schemas.{one_asks}
use Rattle.ps_schema.specs.Rising.{AreAbove}
use Rattle.ps_schema.proofs.rising.+are_above.Given as goal

abbrev pub decreases-are_above : goal.decreases-are_above
decreases-are_above l = measure l.pattern.now

abbrev pub decreases-all_are_above : goal.decreases-all_are_above
decreases-all_are_above l = measure_all (patterns l.all.now)

abbrev pub invariant-all_are_above-loop-pattern : goal.invariant-all_are_above-loop-pattern
invariant-all_are_above-loop-pattern l =
    AreAbove l.defs l.ranks l.least (one_asks (patterns (take l.pattern-index l.all)))
