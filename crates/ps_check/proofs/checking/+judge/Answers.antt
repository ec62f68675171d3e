use Rattle.std.proofs.Common.{◌≡◌, ◌+◌, ◌*◌, ap, sym, ◌∙◌, arith, option_map, suc, None, Some}
use Rattle.std.specs.Prelude.{option_copied}
use Rattle.pv_value.specs.Plain.{plains, pairs}
use Rattle.pv_value.specs.Weight.{node_count, node_counts, pair_node_counts}
use Rattle.ps_schema.specs.Patterns.{patterns, embedded_as, record_with, record_of_both, tuple}
use Rattle.ps_schema.specs.Patterns.{tuple_with_rest, set_of_all, dictionary_of_all, dictionary_with, one_of, all_of}
use Rattle.ps_schema.specs.Patterns.{reference}
use Rattle.ps_schema.specs.View.{view_form, listed_fields}
use Rattle.ps_schema.specs.Lemmas.Measures.{measure, measure_all, measure_fields}
use Rattle.ps_schema.specs.Lemmas.Falls.{pattern_at, field_at}
use Rattle.ps_schema.specs.Conforms.{conforms, matches}
use Rattle.ps_check.specs.Subjects.{seen, counted, items_counted, entries_counted, held}
use Rattle.ps_check.proofs.Heights.{above, above_all, above_name, above_at, into, into_list, in_list}
use Rattle.ps_check.proofs.Heights.{rank_within, rank_lower, above_defined, above_reference, above_one_of, above_all_of}
use Rattle.ps_check.proofs.Heights.{breadth_more}
use Rattle.ps_check.proofs.Inside.{inside_fewer, label_fewer, fields_fewer, fields_under_fewer, items_fewer}
use Rattle.ps_check.proofs.Inside.{elements_fewer, entries_fewer, item_fewer, entry_fewer, value_fewer}
use Rattle.ps_check.proofs.Drops.{field_fails, field_passes}
use Rattle.ps_check.proofs.Judged.{name_means}
use Rattle.ps_check.proofs.checking.+judge.Goals as goal

pub all_meet-meets-requires : goal.all_meet-meets-requires
all_meet-meets-requires t c = (
  omega (
    arith,
    in_list c.args.schema.now c.args.pattern.now (node_count c.value-item.result)
        (items_counted (option_map (λ xs. plains xs.now) c.args.values)) (8 * measure c.args.pattern.now + 6)
        (omega arith)
        (omega (
          arith,
          ap (λ o. items_counted (option_map (λ xs. plains xs.now) o)) c.in-Some.is,
          item_fewer c.in-Some.values.now c.loop-value.value-index c.value-item.result (omega arith) c.value-item.is,
        )),
  ),
  (c.requires.schema, c.loop-value.invariant.right),
)

pub behind-meets-requires : goal.behind-meets-requires
behind-meets-requires t c = (
  omega (
    arith,
    in_list c.args.schema.now c.pattern-item.result (node_count c.in_ok-value.value.now)
        (items_counted (option_map (λ xs. plains xs.now) c.args.values))
        (8 * measure_all (patterns c.args.firsts.now) + 5)
        (omega (
          arith,
          pattern_at c.args.firsts.now c.loop-pattern.pattern-index c.pattern-item.result
              (omega arith) c.pattern-item.is,
        ))
        (omega (
          arith,
          ap (λ o. items_counted (option_map (λ xs. plains xs.now) o)) c.in_ok-left.was,
          ap (λ xs. node_counts (plains xs)) c.in_ok-value.ensures.cases.0,
          c.loop-pattern.invariant.fewer,
        )),
  ),
  (c.requires.schema, c.loop-pattern.invariant.right),
)

pub entries_meet-meets-requires : goal.entries_meet-meets-requires
entries_meet-meets-requires t c = (
  omega (
    arith,
    in_list c.args.schema.now c.args.key.now (node_count c.entry-item.result.key)
        (entries_counted (option_map (λ es. pairs es.now) c.args.entries))
        (8 * (measure c.args.key.now + measure c.args.value.now) + 6) (omega arith)
        (omega (
          arith,
          ap (λ o. entries_counted (option_map (λ es. pairs es.now) o)) c.in-Some.is,
          ap (λ ps. pair_node_counts (pairs ps)) c.as_slice-entry-items.ensures.same,
          entry_fewer c.as_slice-entry-items.result.now c.loop-entry.entry-index c.entry-item.result (omega arith)
              c.entry-item.is,
        )),
  ),
  (c.requires.schema, c.loop-entry.invariant.right),
)

pub entries_meet-meets-requires-in-loop-entry : goal.entries_meet-meets-requires-in-loop-entry
entries_meet-meets-requires-in-loop-entry t c = (
  omega (
    arith,
    in_list c.args.schema.now c.args.value.now (node_count c.entry-item.result.value)
        (entries_counted (option_map (λ es. pairs es.now) c.args.entries))
        (8 * (measure c.args.key.now + measure c.args.value.now) + 6) (omega arith)
        (omega (
          arith,
          ap (λ o. entries_counted (option_map (λ es. pairs es.now) o)) c.in-Some.is,
          ap (λ ps. pair_node_counts (pairs ps)) c.as_slice-entry-items.ensures.same,
          entry_fewer c.as_slice-entry-items.result.now c.loop-entry.entry-index c.entry-item.result (omega arith)
              c.entry-item.is,
        )),
  ),
  (c.requires.schema, c.meets.ensures.right),
)

-- ---- fields

pub fields_meet-returns-in_default-value_under-clause-same : goal.fields_meet-returns-in_default-value_under-clause-same
fields_meet-returns-in_default-value_under-clause-same t c =
    field_fails (conforms c.args.schema.now) c.args.fields.now c.loop-field.field-index c.field-item.result
    (pairs c.in-Some.entries.now) (option_map (λ es. pairs es.now) c.args.entries) (omega arith) c.field-item.is
    c.loop-field.invariant.left
    (ap (held (matches (conforms c.args.schema.now) c.field-item.result.pattern))
    (sym c.value_under.ensures ∙ ap option_copied c.in_default-value_under.is))
    (ap (option_map (λ es. pairs es.now)) c.in-Some.is)

pub fields_meet-returns-then-not-meets-clause-same : goal.fields_meet-returns-then-not-meets-clause-same
fields_meet-returns-then-not-meets-clause-same t c =
    field_fails (conforms c.args.schema.now) c.args.fields.now c.loop-field.field-index c.field-item.result
    (pairs c.in-Some.entries.now) (option_map (λ es. pairs es.now) c.args.entries) (omega arith) c.field-item.is
    c.loop-field.invariant.left
    (ap (held (matches (conforms c.args.schema.now) c.field-item.result.pattern))
    (sym c.value_under.ensures ∙ ap option_copied c.in-Some-value_under.is)
    ∙ sym c.meets.ensures.same ∙ c.if-not-meets.true)
    (ap (option_map (λ es. pairs es.now)) c.in-Some.is)

pub fields_meet-loop-field-preserved : goal.fields_meet-loop-field-preserved
fields_meet-loop-field-preserved t c = record {
  left =
      field_passes (conforms c.args.schema.now) c.args.fields.now c.loop-field.field-index c.field-item.result
      (pairs c.in-Some.entries.now) (omega arith) c.field-item.is c.loop-field.invariant.left
      (ap (held (matches (conforms c.args.schema.now) c.field-item.result.pattern))
      (sym c.value_under.ensures ∙ ap option_copied c.in-Some-value_under.is)
      ∙ sym c.meets.ensures.same ∙ c.if-not-meets.false);
  right = c.meets.ensures.right;
}

pub fields_meet-meets-requires : goal.fields_meet-meets-requires
fields_meet-meets-requires t c = (
  omega (
    arith,
    in_list c.args.schema.now c.field-item.result.pattern (node_count c.in-Some-value_under.value.now)
        (entries_counted (option_map (λ es. pairs es.now) c.args.entries))
        (8 * measure_fields (listed_fields c.args.fields.now) + 5)
        (omega (
          arith,
          field_at c.args.fields.now c.loop-field.field-index c.field-item.result (omega arith) c.field-item.is,
        ))
        (omega (
          arith,
          ap (λ o. entries_counted (option_map (λ es. pairs es.now) o)) c.in-Some.is,
          ap counted (sym c.value_under.ensures ∙ ap option_copied c.in-Some-value_under.is),
          value_fewer (pairs c.in-Some.entries.now) c.field-item.result.key,
        )),
  ),
  (c.requires.schema, c.loop-field.invariant.right),
)

-- ---- names

pub judge_name-returns-in_default-clause-same : goal.judge_name-returns-in_default-clause-same
judge_name-returns-in_default-clause-same t c =
    name_means c.args.schema.now c.requires.schema c.args.name.now (seen c.args.subject) None c.in_default.ensures

pub judge_name-judge-requires : goal.judge_name-judge-requires
judge_name-judge-requires t c = (
  omega (
    arith,
    rank_lower c.args.schema.now (node_count (seen c.args.subject)) (above c.args.schema.now c.in-Some.pattern.now)
        (suc (above_name c.args.schema.now c.args.name.now)) (8 * measure c.in-Some.pattern.now + 3) 1
        (omega (
          arith,
          above_defined c.args.schema.now c.requires.schema c.args.name.now c.in-Some.pattern.now c.in-Some.ensures.1,
        ))
        (breadth_more c.args.schema.now c.args.name.now c.in-Some.pattern.now c.in-Some.ensures.1),
  ),
  (c.requires.schema, c.requires.right),
)

pub judge_name-returns-then-not-is_asked_again-clause-same : goal.judge_name-returns-then-not-is_asked_again-clause-same
judge_name-returns-then-not-is_asked_again-clause-same t c =
    c.judge.ensures.same
    ∙ name_means c.args.schema.now c.requires.schema c.args.name.now (seen c.args.subject) (Some c.in-Some.pattern.now)
    c.in-Some.ensures.1

pub judge_name-judge-verdict-requires : goal.judge_name-judge-verdict-requires
judge_name-judge-verdict-requires t c = (
  omega (
    arith,
    rank_lower c.args.schema.now (node_count (seen c.args.subject)) (above c.args.schema.now c.in-Some.pattern.now)
        (suc (above_name c.args.schema.now c.args.name.now)) (8 * measure c.in-Some.pattern.now + 3) 1
        (omega (
          arith,
          above_defined c.args.schema.now c.requires.schema c.args.name.now c.in-Some.pattern.now c.in-Some.ensures.1,
        ))
        (breadth_more c.args.schema.now c.args.name.now c.in-Some.pattern.now c.in-Some.ensures.1),
  ),
  (c.requires.schema, c.requires.right),
)

pub judge_name-returns-clause-same : goal.judge_name-returns-clause-same
judge_name-returns-clause-same t c =
    c.judge-verdict.ensures.same
    ∙ name_means c.args.schema.now c.requires.schema c.args.name.now (seen c.args.subject) (Some c.in-Some.pattern.now)
    c.in-Some.ensures.1

pub judge_name-returns-clause-right : goal.judge_name-returns-clause-right
judge_name-returns-clause-right t c =
    c.note.ensures c.args.schema.now c.judge-verdict.ensures.right
    (c.judge-verdict.ensures.same
    ∙ name_means c.args.schema.now c.requires.schema c.args.name.now (seen c.args.subject) (Some c.in-Some.pattern.now)
    c.in-Some.ensures.1
    ∙ ap (λ a. conforms c.args.schema.now a (seen c.args.subject)) (sym c.in-Some.ensures.0.named))

pub judge_one-judge-requires : goal.judge_one-judge-requires
judge_one-judge-requires t c = (
  omega (
    arith,
    rank_within c.args.schema.now (node_count (seen c.args.subject)) (node_count (seen c.args.subject))
        (above c.args.schema.now c.pattern-item.result) (above_all c.args.schema.now (patterns c.args.all.now))
        (8 * measure c.pattern-item.result + 3) (8 * measure_all (patterns c.args.all.now)) (omega arith)
        (above_at c.args.schema.now c.args.all.now c.loop-pattern.pattern-index c.pattern-item.result (omega arith)
        c.pattern-item.is)
        (omega (
          arith,
          pattern_at c.args.all.now c.loop-pattern.pattern-index c.pattern-item.result (omega arith) c.pattern-item.is,
        )),
  ),
  (c.requires.schema, c.loop-pattern.invariant.right),
)

pub judge_each-judge-requires : goal.judge_each-judge-requires
judge_each-judge-requires t c = (
  omega (
    arith,
    rank_within c.args.schema.now (node_count (seen c.args.subject)) (node_count (seen c.args.subject))
        (above c.args.schema.now c.pattern-item.result) (above_all c.args.schema.now (patterns c.args.all.now))
        (8 * measure c.pattern-item.result + 3) (8 * measure_all (patterns c.args.all.now)) (omega arith)
        (above_at c.args.schema.now c.args.all.now c.loop-pattern.pattern-index c.pattern-item.result (omega arith)
        c.pattern-item.is)
        (omega (
          arith,
          pattern_at c.args.all.now c.loop-pattern.pattern-index c.pattern-item.result (omega arith) c.pattern-item.is,
        )),
  ),
  (c.requires.schema, c.loop-pattern.invariant.right),
)

pub meets-judge-requires : goal.meets-judge-requires
meets-judge-requires t c = (
  omega (
    arith,
    rank_within c.args.schema.now (node_count (seen c.in-Some.subject)) (counted (option_map seen c.args.subject))
        (above c.args.schema.now c.args.pattern.now) (above c.args.schema.now c.args.pattern.now)
        (8 * measure c.args.pattern.now + 3) (8 * measure c.args.pattern.now + 4)
        (omega (arith, ap (λ o. counted (option_map seen o)) c.in-Some.is)) (omega arith) (omega arith),
  ),
  (c.requires.schema, c.requires.right),
)

-- ---- forms of patterns

pub judge-judge_name-requires : goal.judge-judge_name-requires
judge-judge_name-requires t c =
    let is : c.args.pattern.now ≡ reference c.in-Name.name =
    sym c.pattern.view_is ∙ ap view_form c.in-Name.is in (
      omega (
        arith,
        rank_within c.args.schema.now (node_count (seen c.args.subject)) (node_count (seen c.args.subject))
            (suc (above_name c.args.schema.now c.as_bytes.result.now)) (above c.args.schema.now c.args.pattern.now) 1
            (8 * measure c.args.pattern.now + 3) (omega arith)
            (omega (
              arith,
              ap (above c.args.schema.now) is,
              above_reference c.args.schema.now c.in-Name.name,
              ap (above_name c.args.schema.now) c.as_bytes.ensures.same,
            ))
            (omega arith),
      ),
      (c.requires.schema, c.requires.right),
    )

pub judge-meets-requires : goal.judge-meets-requires
judge-meets-requires t c =
    let is : c.args.pattern.now ≡ embedded_as c.in-Embedded.inside.value =
    sym c.pattern.view_is ∙ ap view_form c.in-Embedded.is in (
      omega (
        arith,
        into c.args.schema.now c.args.pattern.now c.deref.result.now (counted (option_map seen c.inside.result))
            (node_count (seen c.args.subject)) (omega (arith, ap measure is, ap measure c.deref.ensures))
            (omega (arith, ap counted c.inside.ensures, inside_fewer (seen c.args.subject))),
      ),
      (c.requires.schema, c.requires.right),
    )

pub judge-behind-requires : goal.judge-behind-requires
judge-behind-requires t c =
    let is : c.args.pattern.now ≡ record_with c.in-Record.label
    (patterns c.in-Record.fields.items) =
    sym c.pattern.view_is ∙ ap view_form c.in-Record.is in (
      omega (
        arith,
        into_list c.args.schema.now c.args.pattern.now (items_counted (option_map
            (λ xs. plains xs.now) c.fields_under.result)) (node_count (seen c.args.subject))
            (8 * measure_all (patterns c.deref-in-Record.result.now) + 5)
            (omega (arith, ap measure is, ap (λ ps. measure_all (patterns ps)) c.deref-in-Record.ensures.value))
            (omega (
              arith,
              ap items_counted c.fields_under.ensures,
              fields_under_fewer c.in-Record.label
                  (seen c.args.subject),
            )),
      ),
      (c.requires.schema, c.requires.right),
    )

pub judge-meets-requires-in-RecordOf : goal.judge-meets-requires-in-RecordOf
judge-meets-requires-in-RecordOf t c =
    let is : c.args.pattern.now ≡ record_of_both c.in-RecordOf.label.value c.in-RecordOf.fields.value =
    sym c.pattern.view_is ∙ ap view_form c.in-RecordOf.is in (
      omega (
        arith,
        into c.args.schema.now c.args.pattern.now c.deref-in-RecordOf.result.now (counted
            (option_map seen c.label.result))
            (node_count (seen c.args.subject)) (omega (arith, ap measure is, ap measure c.deref-in-RecordOf.ensures))
            (omega (arith, ap counted c.label.ensures, label_fewer (seen c.args.subject))),
      ),
      (c.requires.schema, c.requires.right),
    )

pub judge-meets-requires-then-meets : goal.judge-meets-requires-then-meets
judge-meets-requires-then-meets t c =
    let is : c.args.pattern.now ≡ record_of_both c.in-RecordOf.label.value c.in-RecordOf.fields.value =
    sym c.pattern.view_is ∙ ap view_form c.in-RecordOf.is in (
      omega (
        arith,
        into c.args.schema.now c.args.pattern.now c.deref-then-meets.result.now (counted
            (option_map seen c.fields.result))
            (node_count (seen c.args.subject)) (omega (arith, ap measure is, ap measure c.deref-then-meets.ensures))
            (omega (arith, ap counted c.fields.ensures, fields_fewer (seen c.args.subject))),
      ),
      (c.requires.schema, c.meets-in-RecordOf.ensures.right),
    )

pub judge-behind-requires-in-Tuple : goal.judge-behind-requires-in-Tuple
judge-behind-requires-in-Tuple t c =
    let is : c.args.pattern.now ≡ tuple
    (patterns c.in-Tuple.items.items) =
    sym c.pattern.view_is ∙ ap view_form c.in-Tuple.is in (
      omega (
        arith,
        into_list c.args.schema.now c.args.pattern.now (items_counted (option_map
            (λ xs. plains xs.now) c.items.result)) (node_count (seen c.args.subject))
            (8 * measure_all (patterns c.deref-in-Tuple.result.now) + 5)
            (omega (arith, ap measure is, ap (λ ps. measure_all (patterns ps)) c.deref-in-Tuple.ensures.value))
            (omega (arith, ap items_counted c.items.ensures, items_fewer (seen c.args.subject))),
      ),
      (c.requires.schema, c.requires.right),
    )

pub judge-behind-others-requires : goal.judge-behind-others-requires
judge-behind-others-requires t c =
    let is : c.args.pattern.now ≡ tuple_with_rest
    (patterns c.in-TupleWithRest.items.items) c.in-TupleWithRest.rest.value =
    sym c.pattern.view_is ∙ ap view_form c.in-TupleWithRest.is in (
      omega (
        arith,
        into_list c.args.schema.now c.args.pattern.now (items_counted (option_map
            (λ xs. plains xs.now) c.items-in-TupleWithRest.result)) (node_count (seen c.args.subject))
            (8 * measure_all (patterns c.deref-in-TupleWithRest.result.now) + 5)
            (omega (
              arith,
              ap measure is,
              ap (λ ps. measure_all
                  (patterns ps)) c.deref-in-TupleWithRest.ensures.value,
            ))
            (omega (arith, ap items_counted c.items-in-TupleWithRest.ensures, items_fewer (seen c.args.subject))),
      ),
      (c.requires.schema, c.requires.right),
    )

pub judge-all_meet-requires : goal.judge-all_meet-requires
judge-all_meet-requires t c =
    let is : c.args.pattern.now ≡ tuple_with_rest
    (patterns c.in-TupleWithRest.items.items) c.in-TupleWithRest.rest.value =
    sym c.pattern.view_is ∙ ap view_form c.in-TupleWithRest.is in (
      omega (
        arith,
        into_list c.args.schema.now c.args.pattern.now (items_counted (option_map
            (λ xs. plains xs.now) c.behind-others.result)) (node_count (seen c.args.subject))
            (8 * measure c.deref-in-TupleWithRest-2.result.now + 6)
            (omega (arith, ap measure is, ap measure c.deref-in-TupleWithRest-2.ensures))
            (omega (
              arith,
              c.behind-others.ensures.fewer,
              ap items_counted c.items-in-TupleWithRest.ensures,
              items_fewer (seen c.args.subject),
            )),
      ),
      (c.requires.schema, c.behind-others.ensures.right),
    )

pub judge-all_meet-requires-in-SetOf : goal.judge-all_meet-requires-in-SetOf
judge-all_meet-requires-in-SetOf t c =
    let is : c.args.pattern.now ≡ set_of_all c.in-SetOf.element.value =
    sym c.pattern.view_is ∙ ap view_form c.in-SetOf.is in (
      omega (
        arith,
        into_list c.args.schema.now c.args.pattern.now (items_counted (option_map
            (λ xs. plains xs.now) c.elements.result)) (node_count (seen c.args.subject))
            (8 * measure c.deref-in-SetOf.result.now + 6)
            (omega (arith, ap measure is, ap measure c.deref-in-SetOf.ensures))
            (omega (arith, ap items_counted c.elements.ensures, elements_fewer (seen c.args.subject))),
      ),
      (c.requires.schema, c.requires.right),
    )

pub judge-entries_meet-requires : goal.judge-entries_meet-requires
judge-entries_meet-requires t c =
    let is : c.args.pattern.now ≡ dictionary_of_all c.in-DictOf.key.value c.in-DictOf.value.value =
    sym c.pattern.view_is ∙ ap view_form c.in-DictOf.is in (
      omega (
        arith,
        into_list c.args.schema.now c.args.pattern.now (entries_counted (option_map
            (λ es. pairs es.now) c.entries.result)) (node_count (seen c.args.subject))
            (8 * (measure c.deref-in-DictOf.result.now + measure c.deref-in-DictOf-2.result.now) + 6)
            (omega (arith, ap measure is, ap measure c.deref-in-DictOf.ensures, ap measure c.deref-in-DictOf-2.ensures))
            (omega (arith, ap entries_counted c.entries.ensures, entries_fewer (seen c.args.subject))),
      ),
      (c.requires.schema, c.requires.right),
    )

pub judge-fields_meet-requires : goal.judge-fields_meet-requires
judge-fields_meet-requires t c =
    let is : c.args.pattern.now ≡ dictionary_with
    (listed_fields c.in-Dict.fields.items) =
    sym c.pattern.view_is ∙ ap view_form c.in-Dict.is in (
      omega (
        arith,
        into_list c.args.schema.now c.args.pattern.now (entries_counted (option_map
            (λ es. pairs es.now) c.entries-in-Dict.result)) (node_count (seen c.args.subject))
            (8 * measure_fields (listed_fields c.deref-in-Dict.result.now) + 5)
            (omega (arith, ap measure is, ap (λ fs. measure_fields (listed_fields fs)) c.deref-in-Dict.ensures.value))
            (omega (arith, ap entries_counted c.entries-in-Dict.ensures, entries_fewer (seen c.args.subject))),
      ),
      (c.requires.schema, c.requires.right),
    )

pub judge-judge_one-requires : goal.judge-judge_one-requires
judge-judge_one-requires t c =
    let is : c.args.pattern.now ≡ one_of (patterns c.in-OneOf.patterns.items) =
    sym c.pattern.view_is ∙ ap view_form c.in-OneOf.is in (
      omega (
        arith,
        rank_within c.args.schema.now (node_count (seen c.args.subject)) (node_count (seen c.args.subject))
            (above_all c.args.schema.now (patterns c.deref-in-OneOf.result.now))
            (above c.args.schema.now c.args.pattern.now)
            (8 * measure_all (patterns c.deref-in-OneOf.result.now)) (8 * measure c.args.pattern.now + 3) (omega arith)
            (omega (
              arith,
              ap (above c.args.schema.now) is,
              above_one_of c.args.schema.now (patterns c.in-OneOf.patterns.items),
              ap (λ ps. above_all c.args.schema.now (patterns ps)) c.deref-in-OneOf.ensures.value,
            ))
            (omega (arith, ap measure is, ap (λ ps. measure_all (patterns ps)) c.deref-in-OneOf.ensures.value)),
      ),
      (c.requires.schema, c.requires.right),
    )

pub judge-judge_each-requires : goal.judge-judge_each-requires
judge-judge_each-requires t c =
    let is : c.args.pattern.now ≡ all_of (patterns c.in-AllOf.patterns.items) =
    sym c.pattern.view_is ∙ ap view_form c.in-AllOf.is in (
      omega (
        arith,
        rank_within c.args.schema.now (node_count (seen c.args.subject)) (node_count (seen c.args.subject))
            (above_all c.args.schema.now (patterns c.deref-in-AllOf.result.now))
            (above c.args.schema.now c.args.pattern.now)
            (8 * measure_all (patterns c.deref-in-AllOf.result.now)) (8 * measure c.args.pattern.now + 3) (omega arith)
            (omega (
              arith,
              ap (above c.args.schema.now) is,
              above_all_of c.args.schema.now (patterns c.in-AllOf.patterns.items),
              ap (λ ps. above_all c.args.schema.now (patterns ps)) c.deref-in-AllOf.ensures.value,
            ))
            (omega (arith, ap measure is, ap (λ ps. measure_all (patterns ps)) c.deref-in-AllOf.ensures.value)),
      ),
      (c.requires.schema, c.requires.right),
    )
