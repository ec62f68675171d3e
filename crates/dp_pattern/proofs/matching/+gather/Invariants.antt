use Rattle.std.proofs.Common.{◌≡◌, ◌++◌, drop}
use Rattle.dp_pattern.specs.Lemmas.Measures.{measure, measure_fields}
use Rattle.dp_pattern.specs.Gathered.{gathered_fields}
use Rattle.dp_pattern.specs.View.{listed_fields}
use Rattle.dp_pattern.proofs.matching.+gather.Given as goal

abbrev pub decreases-gather : goal.decreases-gather
decreases-gather l = measure l.pattern.now

abbrev pub decreases-gather_all : goal.decreases-gather_all
decreases-gather_all l = measure_fields (listed_fields l.fields.now)

abbrev pub invariant-gather_all-loop-field : goal.invariant-gather_all-loop-field
invariant-gather_all-loop-field l =
    l.found.items ++ gathered_fields l.group (listed_fields (drop l.field-index l.fields)) l.value
    ≡ l.initial.found.items ++ gathered_fields l.group (listed_fields l.fields) l.value
