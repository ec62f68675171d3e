-- What was looked at matches: what is left decides.
use Rattle.std.proofs.Common.{◌≡◌, ◌+◌, ◌*◌, drop, map, is_some, option_and_then}
use Rattle.pv_value.specs.Plain.{plains, pairs}
use Rattle.pv_value.specs.View.{key_and_value}
use Rattle.sr_caveat.specs.Lemmas.Measures.{measure, measure_all}
use Rattle.sr_caveat.specs.View.{listed_patterns, keys_of}
use Rattle.sr_pass.specs.Binding.{all_bound, each_bound, under_keys}
use Rattle.sr_pass.proofs.matching.+matching.Given as goal

abbrev pub decreases-matches : goal.decreases-matches
decreases-matches l = 2 * measure l.pattern.now

abbrev pub decreases-all_match : goal.decreases-all_match
decreases-all_match l = 2 * measure_all (listed_patterns l.patterns.now)

abbrev pub decreases-is_record : goal.decreases-is_record
decreases-is_record l = 2 * measure_all (listed_patterns l.patterns.now) + 1

abbrev pub decreases-is_sequence : goal.decreases-is_sequence
decreases-is_sequence l = 2 * measure_all (listed_patterns l.patterns.now) + 1

abbrev pub decreases-is_dictionary : goal.decreases-is_dictionary
decreases-is_dictionary l = 2 * measure_all (listed_patterns l.patterns.now) + 1

abbrev pub decreases-each_matches : goal.decreases-each_matches
decreases-each_matches l = 2 * measure_all (listed_patterns l.patterns.now)

abbrev pub decreases-each_matches_under : goal.decreases-each_matches_under
decreases-each_matches_under l = 2 * measure_all (listed_patterns l.patterns.now)

abbrev pub invariant-all_match-loop-pattern : goal.invariant-all_match-loop-pattern
invariant-all_match-loop-pattern l =
    is_some (all_bound (listed_patterns (drop l.pattern-index l.patterns)) l.value)
    ≡ is_some (all_bound (listed_patterns l.patterns) l.value)

abbrev pub invariant-each_matches-loop-i : goal.invariant-each_matches-loop-i
invariant-each_matches-loop-i l =
    is_some (each_bound (listed_patterns (drop l.i l.patterns)) (plains (drop l.i l.values)))
    ≡ is_some (each_bound (listed_patterns l.patterns) (plains l.values))

abbrev pub invariant-each_matches_under-loop-i : goal.invariant-each_matches_under-loop-i
invariant-each_matches_under-loop-i l =
    is_some (option_and_then (each_bound (listed_patterns (drop l.i l.patterns)))
    (under_keys (keys_of (map key_and_value (drop l.i l.keys))) (pairs l.entries)))
    ≡ is_some (option_and_then (each_bound (listed_patterns l.patterns))
    (under_keys (keys_of (map key_and_value l.keys)) (pairs l.entries)))
