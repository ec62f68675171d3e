use Rattle.std.proofs.Common.{◌≡◌, suc, ◌+◌, List, [], ◌∷◌, ◌++◌, length, map, drop, Some, None, option_map, Vec, Global}
use Rattle.std.proofs.Common.{ℕ, Option, IfOk, refl, sym, ap, ◌∙◌, subst, arith}
use Rattle.std.proofs.lemmas.List.{at_drop_all}
use Rattle.pv_value.specs.Plain.{Plain, dictionary, plains, pairs}
use Rattle.pv_value.specs.View.{view_node, key_and_value}
use Rattle.pv_value.specs.declared.Entry.{Entry}
use Rattle.pv_value.specs.Lemmas.Smaller.{measure_at, entry_measure_at}
use Rattle.pv_words.specs.Words.{labelled, number}
use Rattle.dp_pattern.specs.Patterns.{group, Fields}
use Rattle.dp_pattern.specs.View.{listed_fields}
use Rattle.dp_pattern.specs.Written.{pattern_of, group_of, grouped, with_field, fields_of, fields_in, keys_fit}
use Rattle.dp_pattern.specs.Written.{items_from}
use Rattle.dp_pattern.specs.declared.Field.{Field}
use Rattle.dp_pattern.proofs.Shapes.{pattern_long, before, before_push, before_none, before_all, fields_drop}
use Rattle.dp_pattern.proofs.Shapes.{one_item, two_items, places_drop, one_longer}
use Rattle.dp_pattern.proofs.Shapes.{grouped_fit, grouped_misfit}
use Rattle.dp_pattern.proofs.parsing.+parse.Goals as goal

pub parse-returns-in_default-parts : goal.parse-returns-in_default-parts
parse-returns-in_default-parts t c =
    rw (c.in-Some.ensures, pattern_long c.in-Some.word.now c.in-Some.parts.now c.in_default-parts.len_at_least)

pub parse_entries-parse-requires : goal.parse_entries-parse-requires
parse_entries-parse-requires t c =
    let h = entry_measure_at c.args.entries.now c.loop-e.e-index c.e-item.result (omega arith) c.e-item.is in
    (omega (arith, h.1), tt)

pub parse_entries-returns-in_default : goal.parse_entries-returns-in_default
parse_entries-returns-in_default t c =
    let none : None ≡ pattern_of c.e-item.result.value = sym c.in_default.is ∙ c.in_ok-pattern.ensures in
    let d = fields_drop c.args.entries.now c.loop-e.e-index c.e-item.result (omega arith) c.e-item.is in
    sym (before_none c.loop-e.fields.items)
    ∙ ap (before c.loop-e.fields.items) (rw (← none) refl ∙ sym d)
    ∙ c.loop-e.invariant

pub parse_entries-loop-e-preserved : goal.parse_entries-loop-e-preserved
parse_entries-loop-e-preserved t c =
    let some : Some c.in-Some.pattern ≡ pattern_of c.e-item.result.value = sym c.in-Some.is ∙ c.in_ok-pattern.ensures in
    let d = fields_drop c.args.entries.now c.loop-e.e-index c.e-item.result (omega arith) c.e-item.is in
    let rest = fields_in (pairs (map key_and_value (drop (c.loop-e.e-index + 1) c.args.entries.now))) in
    let f : Field = record { key = c.in_ok-key.key; pattern = c.in-Some.pattern } in
    ap (λ fs. before fs rest) c.in_ok-push.ensures.items
    ∙ before_push c.loop-e.fields.items f rest
    ∙ ap (before c.loop-e.fields.items)
    (ap (λ k. with_field k (Some c.in-Some.pattern) rest) c.in_ok-key.ensures
    ∙ ap (λ o. with_field c.e-item.result.key o rest) some ∙ sym d)
    ∙ c.loop-e.invariant

pub parse_entries-returns : goal.parse_entries-returns
parse_entries-returns t c =
    sym (before_all c.loop-e.fields.items)
    ∙ ap (before c.loop-e.fields.items)
    (sym (at_drop_all
    (λ (es : List Entry). fields_in (pairs (map key_and_value es))) c.args.entries.now c.loop-e.e-index
    c.loop-e-test.false))
    ∙ c.loop-e.invariant

pub parse_places-parse-requires : goal.parse_places-parse-requires
parse_places-parse-requires t c =
    let h = measure_at c.args.values.now c.loop-x.x-index c.x-item.result (omega arith) c.x-item.is in
    (omega (arith, h), tt)

pub parse_places-returns-in_default : goal.parse_places-returns-in_default
parse_places-returns-in_default t c =
    let none : None ≡ pattern_of c.x-item.result = sym c.in_default.is ∙ c.in_ok-pattern.ensures in
    let n = length c.loop-x.fields.items in
    let d = places_drop c.args.values.now n c.loop-x.x-index c.x-item.result (omega arith) c.x-item.is in
    sym (before_none c.loop-x.fields.items)
    ∙ ap (before c.loop-x.fields.items) (rw (← none) refl ∙ sym d)
    ∙ c.loop-x.invariant

pub parse_places-loop-x-preserved : goal.parse_places-loop-x-preserved
parse_places-loop-x-preserved t c =
    let some : Some c.in-Some.pattern ≡ pattern_of c.x-item.result = sym c.in-Some.is ∙ c.in_ok-pattern.ensures in
    let fs = c.loop-x.fields.items in
    let d = places_drop c.args.values.now (length fs) c.loop-x.x-index c.x-item.result (omega arith) c.x-item.is in
    let rest : ℕ → Option Fields = λ n. items_from n (plains (drop (c.loop-x.x-index + 1) c.args.values.now)) in
    let f : Field = record { key = c.number-key.result; pattern = c.in-Some.pattern } in
    ap (λ gs. before gs (rest (length gs))) c.in_ok-push.ensures.items
    ∙ ap (λ n. before (fs ++ f ∷ []) (rest n)) (one_longer fs f)
    ∙ before_push fs f (rest (suc (length fs)))
    ∙ ap (before fs)
    (ap (λ k. with_field k (Some c.in-Some.pattern) (rest (suc (length fs))))
    (c.number-key.ensures ∙ ap number (ap length c.as_slice.ensures.value))
    ∙ ap (λ o. with_field (number (length fs)) o (rest (suc (length fs)))) some ∙ sym d)
    ∙ c.loop-x.invariant

pub parse_places-returns : goal.parse_places-returns
parse_places-returns t c =
    sym (before_all c.loop-x.fields.items)
    ∙ ap (before c.loop-x.fields.items)
    (sym (at_drop_all
    (λ (xs : List Plain). items_from (length c.loop-x.fields.items) (plains xs)) c.args.values.now c.loop-x.x-index
    c.loop-x-test.false))
    ∙ c.loop-x.invariant

pub parse_group-returns-then-not-keys_fit : goal.parse_group-returns-then-not-keys_fit
parse_group-returns-then-not-keys_fit t c =
    let g : Some c.in-Some.group ≡ group_of c.args.group.now = sym c.in-Some.is ∙ c.in_ok-group.ensures in
    let v : dictionary (pairs c.in-Dict.entries) ≡ c.args.fields.now =
    sym (ap view_node c.in-Dict.is) ∙ c.fields.view_is in
    grouped_misfit c.in-Some.group (pairs c.in-Dict.entries)
    (ap (λ ps. keys_fit c.in-Some.group (pairs ps)) (sym c.as_slice.ensures.same) ∙ sym c.keys_fit.ensures
    ∙ c.if-not-keys_fit.true)
    ∙ (λ i. grouped (g i) (fields_of (v i)))

pub parse_group-returns-in-Some-2 : goal.parse_group-returns-in-Some-2
parse_group-returns-in-Some-2 t c =
    let g : Some c.in-Some.group ≡ group_of c.args.group.now = sym c.in-Some.is ∙ c.in_ok-group.ensures in
    let v : dictionary (pairs c.in-Dict.entries) ≡ c.args.fields.now =
    sym (ap view_node c.in-Dict.is) ∙ c.fields.view_is in
    let fs : Some (listed_fields c.in-Some-2.fields.items) ≡ fields_in (pairs c.in-Dict.entries) =
    sym (ap (option_map (λ (w : Vec Field Global). listed_fields w.items)) c.in-Some-2.is) ∙ c.in_ok-fields.ensures
    ∙ ap (λ ps. fields_in (pairs ps)) c.as_slice-2.ensures.same in
    ap Some c.form.ensures
    ∙ ap (option_map (group c.in-Some.group)) fs
    ∙ sym (grouped_fit c.in-Some.group (pairs c.in-Dict.entries)
    (ap (λ ps. keys_fit c.in-Some.group (pairs ps)) (sym c.as_slice.ensures.same) ∙ sym c.keys_fit.ensures
    ∙ c.if-not-keys_fit.false))
    ∙ (λ i. grouped (g i) (fields_of (v i)))

pub parse-returns-in-len1 : goal.parse-returns-in-len1
parse-returns-in-len1 t c =
    let word = c.in-Some.word.now in
    let x = c.x-item.result in
    let one = one_item c.in-Some.parts.now x (omega (arith, c.in-len1.len_at_least, c.in-len1.len_below)) c.x-item.is in
    let v : c.args.value.now ≡ labelled word (x ∷ []) = c.in-Some.ensures ∙ ap (labelled word) one in
    subst (λ v. IfOk c.parse_one.result (λ p. p ≡ pattern_of v)) (sym v) c.parse_one.ensures

pub parse-returns-in-len2 : goal.parse-returns-in-len2
parse-returns-in-len2 t c =
    let word = c.in-Some.word.now in
    let x = c.group-item.result in
    let y = c.entries-item.result in
    let two = two_items c.in-Some.parts.now x y (omega (arith, c.in-len2.len_at_least, c.in-len2.len_below))
    c.group-item.is c.entries-item.is in
    let v : c.args.value.now ≡ labelled word (x ∷ y ∷ []) = c.in-Some.ensures ∙ ap (labelled word) two in
    subst (λ v. IfOk c.parse_two.result (λ p. p ≡ pattern_of v)) (sym v) c.parse_two.ensures
