use Rattle.std.proofs.Common.{take}
use Rattle.ps_schema.specs.Patterns.{patterns}
use Rattle.ps_schema.specs.Lemmas.Measures.{measure, measure_all}
use Rattle.ps_schema.specs.Schemas.{one_asks}
use Rattle.ps_schema.specs.Seen.{Sees}
use Rattle.ps_schema.proofs.ways.+see.Given as goal

abbrev pub decreases-see : goal.decreases-see
decreases-see l = measure l.pattern.now

abbrev pub decreases-see_all : goal.decreases-see_all
decreases-see_all l = measure_all (patterns l.all.now)

abbrev pub invariant-see_all-loop-pattern : goal.invariant-see_all-loop-pattern
invariant-see_all-loop-pattern l =
    Sees l.defs (one_asks (patterns (take l.pattern-index l.all))) l.initial.seen.items l.seen.items
