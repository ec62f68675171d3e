-- The goals of `parse_pattern` that the check leaves.
use Rattle.std.proofs.Common.{◌≡◌, ◌+◌, Vec, Global, option_map, List, map, drop, Some, None, refl, sym, ap, ◌∙◌, arith}
use Rattle.pv_value.specs.Plain.{Plain, plains, pairs, dictionary}
use Rattle.pv_value.specs.View.{view_node, key_and_value}
use Rattle.pv_value.specs.declared.Entry.{Entry}
use Rattle.pv_value.specs.Lemmas.Smaller.{measure_at, entry_measure_at}
use Rattle.sr_caveat.specs.Patterns.{no_patterns, dictionary_with, Pattern}
use Rattle.sr_caveat.specs.Written.{pattern_of, patterns_in, patterns_in_pairs, with_pattern, patterns_under_keys}
use Rattle.sr_caveat.specs.Written.{keys_of_value}
use Rattle.sr_caveat.specs.View.{keys_of, listed_patterns}
use Rattle.sr_caveat.specs.Lemmas.Dropping.{drop_is, drop_end}
use Rattle.sr_caveat.specs.Lemmas.Folding.{folded_on, folded_stop, folded_whole, put_pattern, folded_patterns}
use Rattle.sr_caveat.specs.Lemmas.Told.{if_ok_is, map_twice}
use Rattle.sr_caveat.proofs.Told.{pattern_long, keys_same}
use Rattle.sr_caveat.proofs.patterns.+parse_pattern.Goals as goal

pub parse_each-parse_pattern-requires : goal.parse_each-parse_pattern-requires
parse_each-parse_pattern-requires t c =
    (omega (arith, measure_at c.args.items.now c.loop-x.x-index c.x-item.result (omega arith) c.x-item.is), tt)

pub parse_each-returns-in_default : goal.parse_each-returns-in_default
parse_each-returns-in_default t c =
    let rest = λ (xs : List Plain). patterns_in (plains xs) in
    let all = c.args.items.now in
    let i = c.loop-x.x-index in
    let later = rest (drop (i + 1) all) in
    let next = ap rest (drop_is all i c.x-item.result (omega arith) c.x-item.is) in
    let none : None ≡ pattern_of c.x-item.result = sym c.in_default.is ∙ c.in_ok-pattern.ensures in
    folded_stop put_pattern c.loop-x.patterns.items _ (rest all) (λ p. refl) (ap (λ o. with_pattern o later) none
    ∙ sym next)
    c.loop-x.invariant

pub parse_each-loop-x-preserved : goal.parse_each-loop-x-preserved
parse_each-loop-x-preserved t c =
    let rest = λ (xs : List Plain). patterns_in (plains xs) in
    let all = c.args.items.now in
    let i = c.loop-x.x-index in
    let later = rest (drop (i + 1) all) in
    let next = ap rest (drop_is all i c.x-item.result (omega arith) c.x-item.is) in
    let some : Some c.in-Some.pattern ≡ pattern_of c.x-item.result = sym c.in-Some.is ∙ c.in_ok-pattern.ensures in
    folded_on put_pattern c.loop-x.patterns.items _ c.in-Some.pattern _ later (rest all) c.in_ok-push.ensures.items
    (ap (λ o. with_pattern o later) some ∙ sym next) c.loop-x.invariant

pub parse_each-returns : goal.parse_each-returns
parse_each-returns t c =
    let rest = λ (xs : List Plain). patterns_in (plains xs) in
    let all = c.args.items.now in
    folded_whole put_pattern c.loop-x.patterns.items (Some no_patterns) _ (rest all) _
    (folded_patterns c.loop-x.patterns.items)
    (sym (ap rest (drop_end all c.loop-x.x-index c.loop-x-test.false))) c.loop-x.invariant

pub parse_values-parse_pattern-requires : goal.parse_values-parse_pattern-requires
parse_values-parse_pattern-requires t c =
    let h = entry_measure_at c.args.entries.now c.loop-e.e-index c.e-item.result (omega arith) c.e-item.is in
    (omega (arith, h.1), tt)

pub parse_values-returns-in_default : goal.parse_values-returns-in_default
parse_values-returns-in_default t c =
    let rest = λ (es : List Entry). patterns_in_pairs (pairs (map key_and_value es)) in
    let all = c.args.entries.now in
    let i = c.loop-e.e-index in
    let later = rest (drop (i + 1) all) in
    let next = ap rest (drop_is all i c.e-item.result (omega arith) c.e-item.is) in
    let none : None ≡ pattern_of c.e-item.result.value = sym c.in_default.is ∙ c.in_ok-pattern.ensures in
    folded_stop put_pattern c.loop-e.patterns.items _ (rest all) (λ p. refl) (ap (λ o. with_pattern o later) none
    ∙ sym next)
    c.loop-e.invariant

pub parse_values-loop-e-preserved : goal.parse_values-loop-e-preserved
parse_values-loop-e-preserved t c =
    let rest = λ (es : List Entry). patterns_in_pairs (pairs (map key_and_value es)) in
    let all = c.args.entries.now in
    let i = c.loop-e.e-index in
    let later = rest (drop (i + 1) all) in
    let next = ap rest (drop_is all i c.e-item.result (omega arith) c.e-item.is) in
    let some : Some c.in-Some.pattern ≡ pattern_of c.e-item.result.value = sym c.in-Some.is ∙ c.in_ok-pattern.ensures in
    folded_on put_pattern c.loop-e.patterns.items _ c.in-Some.pattern _ later (rest all) c.in_ok-push.ensures.items
    (ap (λ o. with_pattern o later) some ∙ sym next) c.loop-e.invariant

pub parse_values-returns : goal.parse_values-returns
parse_values-returns t c =
    let rest = λ (es : List Entry). patterns_in_pairs (pairs (map key_and_value es)) in
    let all = c.args.entries.now in
    folded_whole put_pattern c.loop-e.patterns.items (Some no_patterns) _ (rest all) _
    (folded_patterns c.loop-e.patterns.items)
    (sym (ap rest (drop_end all c.loop-e.e-index c.loop-e-test.false))) c.loop-e.invariant

pub parse_dictionary-returns-in_ok-parse_values-in-Dict : goal.parse_dictionary-returns-in_ok-parse_values-in-Dict
parse_dictionary-returns-in_ok-parse_values-in-Dict t c =
    let ks = c.in-Dict.entries in
    let is : dictionary (pairs ks) ≡ c.args.x.now = sym (ap view_node c.in-Dict.is) ∙ c.x.view_is in
    if_ok_is c.new_dictionary.result _ _
    (map_twice (dictionary_with (keys_of ks)) (λ (v : Vec Pattern Global). listed_patterns v.items)
    c.in_ok-parse_values-in-Dict.field-0
    ∙ ap (option_map (dictionary_with (keys_of ks)))
    (c.in_ok-parse_values-in-Dict.ensures ∙ ap (λ ps. patterns_in_pairs (pairs ps)) c.as_slice.ensures.same)
    ∙ ap (λ ls. option_map (dictionary_with ls) (patterns_in_pairs (pairs ks))) (keys_same ks)
    ∙ ap (λ x. option_map (dictionary_with (keys_of_value x)) (patterns_under_keys x)) is)
    c.new_dictionary.ensures

pub parse_worded-returns-in_default : goal.parse_worded-returns-in_default
parse_worded-returns-in_default t c = pattern_long c.args.word.now c.args.parts.now c.in_default.len_at_least
