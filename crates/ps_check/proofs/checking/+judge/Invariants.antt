use Rattle.std.proofs.Common.{◌≡◌, ◌+◌, ◌*◌, ◌≤◌, suc, length, map, drop, Bool, option_map}
use Rattle.pv_value.specs.Plain.{Plains, plains, pairs}
use Rattle.pv_value.specs.Weight.{node_count, node_counts}
use Rattle.pv_value.specs.View.{key_and_value}
use Rattle.ps_schema.specs.Patterns.{patterns}
use Rattle.ps_schema.specs.View.{listed_fields}
use Rattle.ps_schema.specs.Lemmas.Measures.{measure, measure_all, measure_fields}
use Rattle.ps_schema.specs.Conforms.{conforms, matches, begin_with, have_all, matches_one, matches_each, are_all}
use Rattle.ps_schema.specs.Conforms.{are_all_pairs}
use Rattle.ps_check.specs.Subjects.{seen, counted, items_counted, entries_counted}
use Rattle.ps_check.specs.Verdicts.{AreRight}
use Rattle.ps_check.proofs.Heights.{rank, above, above_all, above_name}
use Rattle.ps_check.proofs.checking.+judge.Given as goal

abbrev pub decreases-meets : goal.decreases-meets
decreases-meets l =
    rank l.schema.now (counted (option_map seen l.subject)) (above l.schema.now l.pattern.now)
    (8 * measure l.pattern.now + 4)

abbrev pub decreases-judge : goal.decreases-judge
decreases-judge l =
    rank l.schema.now (node_count (seen l.subject)) (above l.schema.now l.pattern.now) (8 * measure l.pattern.now + 3)

abbrev pub decreases-judge_name : goal.decreases-judge_name
decreases-judge_name l =
    rank l.schema.now (node_count (seen l.subject)) (suc (above_name l.schema.now l.name.now)) 1

abbrev pub decreases-judge_one : goal.decreases-judge_one
decreases-judge_one l =
    rank l.schema.now (node_count (seen l.subject)) (above_all l.schema.now (patterns l.all.now))
    (8 * measure_all (patterns l.all.now))

abbrev pub decreases-judge_each : goal.decreases-judge_each
decreases-judge_each l =
    rank l.schema.now (node_count (seen l.subject)) (above_all l.schema.now (patterns l.all.now))
    (8 * measure_all (patterns l.all.now))

abbrev pub decreases-behind : goal.decreases-behind
decreases-behind l =
    rank l.schema.now (items_counted (option_map (λ xs. plains xs.now) l.values)) (length l.schema.now + 2)
    (8 * measure_all (patterns l.firsts.now) + 5)

abbrev pub decreases-all_meet : goal.decreases-all_meet
decreases-all_meet l =
    rank l.schema.now (items_counted (option_map (λ xs. plains xs.now) l.values)) (length l.schema.now + 2)
    (8 * measure l.pattern.now + 6)

abbrev pub decreases-entries_meet : goal.decreases-entries_meet
decreases-entries_meet l =
    rank l.schema.now (entries_counted (option_map (λ es. pairs es.now) l.entries)) (length l.schema.now + 2)
    (8 * (measure l.key.now + measure l.value.now) + 6)

abbrev pub decreases-fields_meet : goal.decreases-fields_meet
decreases-fields_meet l =
    rank l.schema.now (entries_counted (option_map (λ es. pairs es.now) l.entries)) (length l.schema.now + 2)
    (8 * measure_fields (listed_fields l.fields.now) + 5)

-- ---- those that are left decide what all decide

abbrev pub invariant-judge_one-loop-pattern : goal.invariant-judge_one-loop-pattern
invariant-judge_one-loop-pattern l = record {
  left : matches_one (conforms l.schema) (patterns (drop l.pattern-index l.all)) (seen l.subject)
      ≡ matches_one (conforms l.schema) (patterns l.all) (seen l.subject);
  right : AreRight l.schema l.found;
}

abbrev pub invariant-judge_each-loop-pattern : goal.invariant-judge_each-loop-pattern
invariant-judge_each-loop-pattern l = record {
  left : matches_each (conforms l.schema) (patterns (drop l.pattern-index l.all)) (seen l.subject)
      ≡ matches_each (conforms l.schema) (patterns l.all) (seen l.subject);
  right : AreRight l.schema l.found;
}

abbrev pub invariant-behind-loop-pattern : goal.invariant-behind-loop-pattern
invariant-behind-loop-pattern l = record {
  rest : (others : Plains → Bool)
      → begin_with (conforms l.schema) (patterns (drop l.pattern-index l.firsts)) others (plains l.left)
      ≡ begin_with (conforms l.schema) (patterns l.firsts) others (plains l.initial.left);
  fewer : node_counts (plains l.left) ≤ node_counts (plains l.initial.left);
  right : AreRight l.schema l.found;
}

abbrev pub invariant-all_meet-loop-value : goal.invariant-all_meet-loop-value
invariant-all_meet-loop-value l = record {
  left : are_all (matches (conforms l.schema) l.pattern) (plains (drop l.value-index l.values))
      ≡ are_all (matches (conforms l.schema) l.pattern) (plains l.values);
  right : AreRight l.schema l.found;
}

abbrev pub invariant-entries_meet-loop-entry : goal.invariant-entries_meet-loop-entry
invariant-entries_meet-loop-entry l = record {
  left : are_all_pairs (matches (conforms l.schema) l.key) (matches (conforms l.schema) l.value)
      (pairs (map key_and_value (drop l.entry-index l.entry-items)))
      ≡ are_all_pairs (matches (conforms l.schema) l.key) (matches (conforms l.schema) l.value)
      (pairs (map key_and_value l.entry-items));
  right : AreRight l.schema l.found;
}

abbrev pub invariant-fields_meet-loop-field : goal.invariant-fields_meet-loop-field
invariant-fields_meet-loop-field l = record {
  left : have_all (conforms l.schema) (listed_fields (drop l.field-index l.fields)) (pairs l.entries)
      ≡ have_all (conforms l.schema) (listed_fields l.fields) (pairs l.entries);
  right : AreRight l.schema l.found;
}
