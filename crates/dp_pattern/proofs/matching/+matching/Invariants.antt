use Rattle.std.proofs.Common.{◌≡◌, drop, is_some}
use Rattle.dp_pattern.specs.Lemmas.Measures.{measure, measure_fields}
use Rattle.dp_pattern.specs.Matching.{matched_fields}
use Rattle.dp_pattern.specs.View.{listed_fields}
use Rattle.dp_pattern.proofs.matching.+matching.Given as goal

abbrev pub decreases-matches : goal.decreases-matches
decreases-matches l = measure l.pattern.now

abbrev pub decreases-all_match : goal.decreases-all_match
decreases-all_match l = measure_fields (listed_fields l.fields.now)

abbrev pub invariant-all_match-loop-field : goal.invariant-all_match-loop-field
invariant-all_match-loop-field l =
    is_some (matched_fields l.group (listed_fields (drop l.field-index l.fields)) l.value)
    ≡ is_some (matched_fields l.group (listed_fields l.fields) l.value)
