use Rattle.std.proofs.Common.{◌≡◌, ◌+◌, List, map, drop, Some, None, option_map, refl, sym, ap, ◌∙◌, arith}
use Rattle.std.proofs.lemmas.List.{at_drop_all}
use Rattle.pv_value.specs.Plain.{Plain, plains, pairs}
use Rattle.pv_value.specs.View.{key_and_value}
use Rattle.pv_value.specs.declared.Entry.{Entry}
use Rattle.pv_value.specs.Lemmas.Smaller.{measure_at, entry_measure_at}
use Rattle.ps_schema.specs.View.{listed_fields}
use Rattle.ps_schema.specs.declared.Field.{Field}
use Rattle.ps_read.specs.Written.{pattern_of, patterns_of, in_front, with_field, fields_of}
use Rattle.std.proofs.Common.{subst}
use Rattle.pv_value.specs.Plain.{set_of}
use Rattle.pv_value.specs.Lemmas.Measures.{measure_all}
use Rattle.ps_schema.specs.Patterns.{PlainPattern, patterns, tuple, set_of_all, record_with, record_of_both}
use Rattle.ps_schema.specs.Patterns.{dictionary_with}
use Rattle.ps_read.specs.Written.{items_of, open_items, with_rest, both, record_pattern}
use Rattle.ps_read.proofs.Parses.{measure_last, items_open, items_closed, open_is, record_two, record_long, set_long}
use Rattle.ps_read.proofs.Parses.{dictionary_long, dictionary_one, one_item, two_items, map_both, ok_is}
use Rattle.ps_read.proofs.Parses.{before, before_push, before_none, before_all, patterns_drop}
use Rattle.ps_read.proofs.Parses.{fields_before, fields_before_push, fields_before_none, fields_before_all, fields_drop}
use Rattle.ps_read.proofs.parsing.+parse.Goals as goal

pub parse_all-parse-requires : goal.parse_all-parse-requires
parse_all-parse-requires t c =
    let h = measure_at c.args.values.now c.loop-value.value-index c.value-item.result (omega arith) c.value-item.is in
    (omega (arith, h), tt)

pub parse_all-returns-in_default : goal.parse_all-returns-in_default
parse_all-returns-in_default t c =
    let none : None ≡ pattern_of c.value-item.result = sym c.in_default.is ∙ c.in_ok-pattern.ensures in
    let d = patterns_drop c.args.values.now c.loop-value.value-index c.value-item.result
    (omega arith) c.value-item.is in
    sym (before_none c.loop-value.all.items)
    ∙ ap (before c.loop-value.all.items) (rw (← none) refl ∙ sym d)
    ∙ c.loop-value.invariant

pub parse_all-loop-value-preserved : goal.parse_all-loop-value-preserved
parse_all-loop-value-preserved t c =
    let some : Some c.in-Some.pattern ≡ pattern_of c.value-item.result = sym c.in-Some.is ∙ c.in_ok-pattern.ensures in
    let d = patterns_drop c.args.values.now c.loop-value.value-index c.value-item.result
    (omega arith) c.value-item.is in
    let rest = patterns_of (plains (drop (c.loop-value.value-index + 1) c.args.values.now)) in
    ap (λ ps. before ps rest) c.in_ok-push.ensures.items
    ∙ before_push c.loop-value.all.items c.in-Some.pattern rest
    ∙ ap (before c.loop-value.all.items) (ap (λ o. in_front o rest) some ∙ sym d)
    ∙ c.loop-value.invariant

pub parse_all-returns : goal.parse_all-returns
parse_all-returns t c =
    sym (before_all c.loop-value.all.items)
    ∙ ap (before c.loop-value.all.items)
    (sym (at_drop_all
    (λ (xs : List Plain). patterns_of (plains xs)) c.args.values.now c.loop-value.value-index
    c.loop-value-test.false))
    ∙ c.loop-value.invariant

pub parse_fields-parse-requires : goal.parse_fields-parse-requires
parse_fields-parse-requires t c =
    let h = entry_measure_at c.args.entries.now c.loop-e.e-index c.e-item.result (omega arith) c.e-item.is in
    (omega (arith, h.1), tt)

pub parse_fields-returns-in_default : goal.parse_fields-returns-in_default
parse_fields-returns-in_default t c =
    let none : None ≡ pattern_of c.e-item.result.value = sym c.in_default.is ∙ c.in_ok-pattern.ensures in
    let d = fields_drop c.args.entries.now c.loop-e.e-index c.e-item.result (omega arith) c.e-item.is in
    sym (fields_before_none c.loop-e.fields.items)
    ∙ ap (fields_before c.loop-e.fields.items) (rw (← none) refl ∙ sym d)
    ∙ c.loop-e.invariant

pub parse_fields-loop-e-preserved : goal.parse_fields-loop-e-preserved
parse_fields-loop-e-preserved t c =
    let some : Some c.in-Some.pattern ≡ pattern_of c.e-item.result.value = sym c.in-Some.is ∙ c.in_ok-pattern.ensures in
    let d = fields_drop c.args.entries.now c.loop-e.e-index c.e-item.result (omega arith) c.e-item.is in
    let rest = fields_of (pairs (map key_and_value (drop (c.loop-e.e-index + 1) c.args.entries.now))) in
    let f : Field = record { key = c.in_ok-key.key; pattern = c.in-Some.pattern } in
    ap (λ fs. fields_before fs rest) c.in_ok-push.ensures.items
    ∙ fields_before_push c.loop-e.fields.items f rest
    ∙ ap (fields_before c.loop-e.fields.items)
    (ap (λ k. with_field k (Some c.in-Some.pattern) rest) c.in_ok-key.ensures
    ∙ ap (λ o. with_field c.e-item.result.key o rest) some ∙ sym d)
    ∙ c.loop-e.invariant

pub parse_fields-returns : goal.parse_fields-returns
parse_fields-returns t c =
    sym (fields_before_all c.loop-e.fields.items)
    ∙ ap (fields_before c.loop-e.fields.items)
    (sym (at_drop_all
    (λ (es : List Entry). fields_of (pairs (map key_and_value es))) c.args.entries.now c.loop-e.e-index
    c.loop-e-test.false))
    ∙ c.loop-e.invariant

pub parse_dictionary-returns-in_ok-parse_fields-in-len1 : goal.parse_dictionary-returns-in_ok-parse_fields-in-len1
parse_dictionary-returns-in_ok-parse_fields-in-len1 t c =
    c.by_keys-in-len1.ensures
    ∙ map_both c.in_ok-parse_fields-in-len1.field-0 (λ v. listed_fields v.items) dictionary_with
    ∙ ap (option_map dictionary_with) c.in_ok-parse_fields-in-len1.ensures
    ∙ sym (dictionary_one c.args.entries.now (omega arith) (omega arith))

pub parse_dictionary-returns-in_ok-parse_fields-in_default : goal.parse_dictionary-returns-in_ok-parse_fields-in_default
parse_dictionary-returns-in_ok-parse_fields-in_default t c =
    c.by_keys-in_default.ensures
    ∙ map_both c.in_ok-parse_fields-in_default.field-0 (λ v. listed_fields v.items) dictionary_with
    ∙ ap (option_map dictionary_with) c.in_ok-parse_fields-in_default.ensures
    ∙ sym (dictionary_long c.args.entries.now (omega arith))

pub parse_items-parse_open-requires : goal.parse_items-parse_open-requires
parse_items-parse_open-requires t c = (
  omega (
    arith,
    measure_last c.in-Some.others.now c.in-Some.dots.now,
    ap (λ (xs : List Plain). measure_all (plains xs)) c.in-Some.ensures.cases.0,
  ),
  tt,
)

pub parse_items-returns-then-is_sign : goal.parse_items-returns-then-is_sign
parse_items-returns-then-is_sign t c =
    ok_is c.parse_open.result (open_items (plains c.in-Some.others.now)) (items_of (plains c.args.items.now))
    (sym (ap (λ (xs : List Plain). items_of (plains xs)) c.in-Some.ensures.cases.0
    ∙ items_open c.in-Some.others.now c.in-Some.dots.now (sym c.is_sign.ensures ∙ c.if-is_sign.true)))
    c.parse_open.ensures

pub parse_items-returns-in_ok-parse_all-in-Some : goal.parse_items-returns-in_ok-parse_all-in-Some
parse_items-returns-in_ok-parse_all-in-Some t c =
    let P : List Plain → Type 0 = λ xs. option_map tuple (patterns_of (plains xs)) ≡ items_of (plains xs) in
    c.tuple.ensures
    ∙ map_both c.in_ok-parse_all-in-Some.field-0 (λ v. patterns v.items) tuple
    ∙ ap (option_map tuple) c.in_ok-parse_all-in-Some.ensures
    ∙ subst P (sym c.in-Some.ensures.cases.0)
    (sym (items_closed c.in-Some.others.now c.in-Some.dots.now (sym c.is_sign.ensures ∙ c.if-is_sign.false)))

pub parse_open-parse_all-requires : goal.parse_open-parse_all-requires
parse_open-parse_all-requires t c = (
  omega (
    arith,
    measure_last c.in-Some.firsts.now c.in-Some.rest.now,
    ap (λ (xs : List Plain). measure_all (plains xs)) c.in-Some.ensures.cases.0,
  ),
  tt,
)

pub parse_open-parse-requires : goal.parse_open-parse-requires
parse_open-parse-requires t c = (
  omega (
    arith,
    measure_last c.in-Some.firsts.now c.in-Some.rest.now,
    ap (λ (xs : List Plain). measure_all (plains xs)) c.in-Some.ensures.cases.0,
  ),
  tt,
)

pub parse_open-returns-in_ok-parse-in-Some : goal.parse_open-returns-in_ok-parse-in-Some
parse_open-returns-in_ok-parse-in-Some t c =
    ok_is c.with_rest.result
    (with_rest (option_map (λ v. patterns v.items) c.in_ok-firsts-in-Some.firsts) c.in_ok-parse-in-Some.field-0)
    (open_items (plains c.args.items.now))
    ((λ i. with_rest (c.in_ok-firsts-in-Some.ensures i) (c.in_ok-parse-in-Some.ensures i))
    ∙ sym (open_is c.in-Some.firsts.now c.in-Some.rest.now)
    ∙ ap (λ (xs : List Plain). open_items (plains xs)) (sym c.in-Some.ensures.cases.0))
    c.with_rest.ensures

pub parse_record-returns-in_ok-parse_pair-in-len2 : goal.parse_record-returns-in_ok-parse_pair-in-len2
parse_record-returns-in_ok-parse_pair-in-len2 t c =
    let x = c.first-item.result in
    let y = c.second-item.result in
    let P : List Plain → Type 0 =
    λ fs. both record_of_both (pattern_of x) (pattern_of y)
    ≡ record_pattern c.args.label.now (plains fs) (patterns_of (plains fs)) in
    ok_is c.record_of_both.result
    (option_map (λ p. record_of_both p.0 p.1) c.in_ok-parse_pair-in-len2.field-0)
    (record_pattern c.args.label.now (plains c.args.fields.now) (patterns_of (plains c.args.fields.now)))
    (map_both c.in_ok-parse_pair-in-len2.field-0 (λ p. (p.0, p.1))
    (λ (p : PlainPattern × PlainPattern). record_of_both p.0 p.1)
    ∙ ap (option_map (λ (p : PlainPattern × PlainPattern). record_of_both p.0 p.1)) c.in_ok-parse_pair-in-len2.ensures
    ∙ subst P
    (sym (two_items c.args.fields.now x y (omega arith) (omega arith) c.first-item.is c.second-item.is))
    (record_two c.args.label.now x y (sym c.is_bare-in-len2.ensures ∙ c.if-is_bare-2.true)))
    c.record_of_both.ensures

pub parse_record-returns-in_ok-parse_all-in_default : goal.parse_record-returns-in_ok-parse_all-in_default
parse_record-returns-in_ok-parse_all-in_default t c =
    ok_is c.labelled-in_default.result
    (option_map (λ v. record_with c.args.label.now (patterns v.items)) c.in_ok-parse_all-in_default.field-0)
    (record_pattern c.args.label.now (plains c.args.fields.now) (patterns_of (plains c.args.fields.now)))
    (map_both c.in_ok-parse_all-in_default.field-0 (λ v. patterns v.items) (record_with c.args.label.now)
    ∙ ap (option_map (record_with c.args.label.now)) c.in_ok-parse_all-in_default.ensures
    ∙ sym (record_long c.args.label.now c.args.fields.now (patterns_of (plains c.args.fields.now)) (omega arith)))
    c.labelled-in_default.ensures

pub parse_set-returns-in_ok-parse-in-len1 : goal.parse_set-returns-in_ok-parse-in-len1
parse_set-returns-in_ok-parse-in-len1 t c =
    ok_is c.set_of_all.result (option_map set_of_all c.in_ok-parse-in-len1.field-0)
    (pattern_of (set_of (plains c.args.elements.now)))
    (ap (option_map set_of_all) c.in_ok-parse-in-len1.ensures
    ∙ ap (λ (xs : List Plain). pattern_of (set_of (plains xs)))
    (sym (one_item c.args.elements.now c.element-item.result (omega arith) (omega arith) c.element-item.is)))
    c.set_of_all.ensures

pub parse_set-returns-in_default : goal.parse_set-returns-in_default
parse_set-returns-in_default t c = sym (set_long c.args.elements.now (omega arith))
