-- The goals of `parse_caveat` that the check leaves.
use Rattle.std.proofs.Common.{◌≡◌, ◌+◌, IfOk, subst, Vec, Global, option_map, List, map, drop, Some, None, refl, sym}
use Rattle.std.proofs.Common.{ap, ◌∙◌, arith}
use Rattle.pv_value.specs.Plain.{Plain, plains, pairs, dictionary}
use Rattle.pv_value.specs.View.{view_node, key_and_value}
use Rattle.pv_value.specs.declared.Entry.{Entry}
use Rattle.pv_value.specs.Lemmas.Smaller.{measure_at, entry_measure_at}
use Rattle.sr_caveat.specs.Patterns.{no_templates, dictionary_of, Template, then_caveat, no_caveats, no_rewrites}
use Rattle.sr_caveat.specs.Written.{template_of, templates_in, templates_in_pairs, with_template, templates_under_keys}
use Rattle.sr_caveat.specs.Written.{keys_of_value}
use Rattle.sr_caveat.specs.Written.{caveats_in, rewrites_in}
use Rattle.sr_caveat.specs.Lemmas.Told.{if_ok_is, map_twice}
use Rattle.sr_caveat.proofs.Told.{keys_same, not_listed, template_long, caveat_long, one_item}
use Rattle.sr_caveat.proofs.Told.{two_items}
use Rattle.sr_caveat.proofs.Told.{with_if_rewrite}
use Rattle.pv_words.specs.Words.{labelled}
use Rattle.sr_caveat.specs.Written.{with_rewrite, if_rewrite, attenuated_by, caveats_of, caveat_in}
use Rattle.sr_caveat.specs.View.{view_rule}
use Rattle.sr_caveat.specs.View.{keys_of, listed_templates}
use Rattle.sr_caveat.specs.Lemmas.Dropping.{drop_is, drop_end}
use Rattle.sr_caveat.specs.Lemmas.Folding.{folded_on, folded_stop, folded_whole, put_template, folded_templates}
use Rattle.sr_caveat.specs.Lemmas.Folding.{folded_caveats, put_rewrite, folded_rewrites}
use Rattle.sr_caveat.proofs.caveats.Reader.+parse_caveat.Goals as goal

pub parse_each-parse_template-requires : goal.parse_each-parse_template-requires
parse_each-parse_template-requires t c =
    (omega (arith, measure_at c.args.items.now c.loop-x.x-index c.x-item.result (omega arith) c.x-item.is), tt)

pub parse_each-returns-in_default : goal.parse_each-returns-in_default
parse_each-returns-in_default t c =
    let rest = λ (xs : List Plain). templates_in c.args.self.own c.args.self.names (plains xs) in
    let all = c.args.items.now in
    let i = c.loop-x.x-index in
    let later = rest (drop (i + 1) all) in
    let next = ap rest (drop_is all i c.x-item.result (omega arith) c.x-item.is) in
    let none : None ≡ template_of c.args.self.own c.args.self.names c.x-item.result = sym c.in_default.is
    ∙ c.in_ok-template.ensures in
    folded_stop put_template c.loop-x.templates.items _ (rest all) (λ p. refl) (ap (λ o. with_template o later) none
    ∙ sym next)
    c.loop-x.invariant

pub parse_each-loop-x-preserved : goal.parse_each-loop-x-preserved
parse_each-loop-x-preserved t c =
    let rest = λ (xs : List Plain). templates_in c.args.self.own c.args.self.names (plains xs) in
    let all = c.args.items.now in
    let i = c.loop-x.x-index in
    let later = rest (drop (i + 1) all) in
    let next = ap rest (drop_is all i c.x-item.result (omega arith) c.x-item.is) in
    let some : Some c.in-Some.template ≡ template_of c.args.self.own c.args.self.names c.x-item.result =
    sym c.in-Some.is ∙ c.in_ok-template.ensures in
    folded_on put_template c.loop-x.templates.items _ c.in-Some.template _ later (rest all) c.in_ok-push.ensures.items
    (ap (λ o. with_template o later) some ∙ sym next) c.loop-x.invariant

pub parse_each-returns : goal.parse_each-returns
parse_each-returns t c =
    let rest = λ (xs : List Plain). templates_in c.args.self.own c.args.self.names (plains xs) in
    let all = c.args.items.now in
    folded_whole put_template c.loop-x.templates.items (Some no_templates) _ (rest all) _
    (folded_templates c.loop-x.templates.items)
    (sym (ap rest (drop_end all c.loop-x.x-index c.loop-x-test.false))) c.loop-x.invariant

pub parse_values-parse_template-requires : goal.parse_values-parse_template-requires
parse_values-parse_template-requires t c =
    let h = entry_measure_at c.args.entries.now c.loop-e.e-index c.e-item.result (omega arith) c.e-item.is in
    (omega (arith, h.1), tt)

pub parse_values-returns-in_default : goal.parse_values-returns-in_default
parse_values-returns-in_default t c =
    let rest = λ (es : List Entry).
    templates_in_pairs c.args.self.own c.args.self.names (pairs (map key_and_value es)) in
    let all = c.args.entries.now in
    let i = c.loop-e.e-index in
    let later = rest (drop (i + 1) all) in
    let next = ap rest (drop_is all i c.e-item.result (omega arith) c.e-item.is) in
    let none : None ≡ template_of c.args.self.own c.args.self.names c.e-item.result.value = sym c.in_default.is
    ∙ c.in_ok-template.ensures in
    folded_stop put_template c.loop-e.templates.items _ (rest all) (λ p. refl) (ap (λ o. with_template o later) none
    ∙ sym next)
    c.loop-e.invariant

pub parse_values-loop-e-preserved : goal.parse_values-loop-e-preserved
parse_values-loop-e-preserved t c =
    let rest = λ (es : List Entry).
    templates_in_pairs c.args.self.own c.args.self.names (pairs (map key_and_value es)) in
    let all = c.args.entries.now in
    let i = c.loop-e.e-index in
    let later = rest (drop (i + 1) all) in
    let next = ap rest (drop_is all i c.e-item.result (omega arith) c.e-item.is) in
    let some : Some c.in-Some.template ≡ template_of c.args.self.own c.args.self.names c.e-item.result.value =
    sym c.in-Some.is ∙ c.in_ok-template.ensures in
    folded_on put_template c.loop-e.templates.items _ c.in-Some.template _ later (rest all) c.in_ok-push.ensures.items
    (ap (λ o. with_template o later) some ∙ sym next) c.loop-e.invariant

pub parse_values-returns : goal.parse_values-returns
parse_values-returns t c =
    let rest = λ (es : List Entry).
    templates_in_pairs c.args.self.own c.args.self.names (pairs (map key_and_value es)) in
    let all = c.args.entries.now in
    folded_whole put_template c.loop-e.templates.items (Some no_templates) _ (rest all) _
    (folded_templates c.loop-e.templates.items)
    (sym (ap rest (drop_end all c.loop-e.e-index c.loop-e-test.false))) c.loop-e.invariant

pub parse_dictionary-returns-in_ok-parse_values-in-Dict : goal.parse_dictionary-returns-in_ok-parse_values-in-Dict
parse_dictionary-returns-in_ok-parse_values-in-Dict t c =
    let ks = c.in-Dict.entries in
    let is : dictionary (pairs ks) ≡ c.args.x.now = sym (ap view_node c.in-Dict.is) ∙ c.x.view_is in
    if_ok_is c.new_dictionary.result _ _
    (map_twice (dictionary_of (keys_of ks)) (λ (v : Vec Template Global). listed_templates v.items)
    c.in_ok-parse_values-in-Dict.field-0
    ∙ ap (option_map (dictionary_of (keys_of ks)))
    (c.in_ok-parse_values-in-Dict.ensures
    ∙ ap (λ ps. templates_in_pairs c.args.self.own c.args.self.names (pairs ps)) c.as_slice.ensures.same)
    ∙ ap (λ ls. option_map (dictionary_of ls) (templates_in_pairs c.args.self.own c.args.self.names (pairs ks)))
    (keys_same ks)
    ∙ ap (λ x. option_map (dictionary_of (keys_of_value x))
    (templates_under_keys c.args.self.own c.args.self.names x)) is)
    c.new_dictionary.ensures

pub parse_caveats-parse_standing-requires : goal.parse_caveats-parse_standing-requires
parse_caveats-parse_standing-requires t c =
    (omega (arith, measure_at c.args.items.now c.loop-x.x-index c.x-item.result (omega arith) c.x-item.is), tt)

pub parse_caveats-loop-x-preserved : goal.parse_caveats-loop-x-preserved
parse_caveats-loop-x-preserved t c =
    let later = caveats_in c.args.self.own (plains (drop (c.loop-x.x-index + 1) c.args.items.now)) in
    folded_on then_caveat c.loop-x.read.items _ _ _ later (caveats_in c.args.self.own (plains c.args.items.now))
    c.in_ok-push.ensures.items
    (ap (λ d. then_caveat d later) c.in_ok-parse_standing.ensures
    ∙ sym (ap (λ (xs : List Plain). caveats_in c.args.self.own (plains xs))
    (drop_is c.args.items.now c.loop-x.x-index c.x-item.result (omega arith) c.x-item.is)))
    c.loop-x.invariant

pub parse_caveats-returns : goal.parse_caveats-returns
parse_caveats-returns t c =
    folded_whole then_caveat c.loop-x.read.items no_caveats _ (caveats_in c.args.self.own (plains c.args.items.now)) _
    (folded_caveats c.loop-x.read.items)
    (sym (ap (λ (xs : List Plain). caveats_in c.args.self.own (plains xs))
    (drop_end c.args.items.now c.loop-x.x-index c.loop-x-test.false)))
    c.loop-x.invariant

pub parse_rewrites-parse_rule-requires : goal.parse_rewrites-parse_rule-requires
parse_rewrites-parse_rule-requires t c =
    (omega (arith, measure_at c.args.items.now c.loop-x.x-index c.x-item.result (omega arith) c.x-item.is), tt)

pub parse_rewrites-returns : goal.parse_rewrites-returns
parse_rewrites-returns t c =
    folded_whole put_rewrite c.loop-x.rewrites.items (Some no_rewrites) _
    (rewrites_in c.args.self.own (plains c.args.items.now)) _
    (folded_rewrites c.loop-x.rewrites.items)
    (sym (ap (λ (xs : List Plain). rewrites_in c.args.self.own (plains xs))
    (drop_end c.args.items.now c.loop-x.x-index c.loop-x-test.false)))
    c.loop-x.invariant

pub parse_attenuate-returns-in_default : goal.parse_attenuate-returns-in_default
parse_attenuate-returns-in_default t c =
    let read = template_of c.args.self.own c.args.self.names c.args.x.now in
    not_listed c.args.self.own read c.y.inside.node c.in_default.not-Seq
    ∙ ap (λ y. attenuated_by read (caveats_of c.args.self.own y)) c.y.view_is

pub parse_rewrites-returns-in_default : goal.parse_rewrites-returns-in_default
parse_rewrites-returns-in_default t c =
    let later = rewrites_in c.args.self.own (plains (drop (c.loop-x.x-index + 1) c.args.items.now)) in
    let here = rewrites_in c.args.self.own (plains (drop c.loop-x.x-index c.args.items.now)) in
    let all = rewrites_in c.args.self.own (plains c.args.items.now) in
    let next : here ≡ with_rewrite (caveat_in c.args.self.own c.x-item.result) later =
    ap (λ (xs : List Plain). rewrites_in c.args.self.own (plains xs))
    (drop_is c.args.items.now c.loop-x.x-index c.x-item.result (omega arith) c.x-item.is) in
    folded_stop put_rewrite c.loop-x.rewrites.items here all (λ r. refl)
    (ap (λ o. with_rewrite o later) (c.in_default.ensures ∙ ap if_rewrite c.in_ok-parse_rule.ensures)
    ∙ with_if_rewrite (caveat_in c.args.self.own c.x-item.result) later ∙ sym next)
    c.loop-x.invariant

pub parse_rewrites-loop-x-preserved : goal.parse_rewrites-loop-x-preserved
parse_rewrites-loop-x-preserved t c =
    let later = rewrites_in c.args.self.own (plains (drop (c.loop-x.x-index + 1) c.args.items.now)) in
    let here = rewrites_in c.args.self.own (plains (drop c.loop-x.x-index c.args.items.now)) in
    let all = rewrites_in c.args.self.own (plains c.args.items.now) in
    let next : here ≡ with_rewrite (caveat_in c.args.self.own c.x-item.result) later =
    ap (λ (xs : List Plain). rewrites_in c.args.self.own (plains xs))
    (drop_is c.args.items.now c.loop-x.x-index c.x-item.result (omega arith) c.x-item.is) in
    folded_on put_rewrite c.loop-x.rewrites.items _ c.in-Some.rewrite here later all
    c.in_ok-push.ensures.items
    (ap (λ o. with_rewrite o later) (c.in-Some.ensures ∙ ap if_rewrite c.in_ok-parse_rule.ensures)
    ∙ with_if_rewrite (caveat_in c.args.self.own c.x-item.result) later ∙ sym next)
    c.loop-x.invariant

pub parse_worded-returns-in-len1 : goal.parse_worded-returns-in-len1
parse_worded-returns-in-len1 t c =
    subst (λ fs. IfOk c.parse_short.result
    (λ u. u ≡ template_of c.args.self.own c.args.self.names (labelled c.args.word.now fs)))
    (sym (one_item c.args.parts.now c.x-item.result (omega arith) c.x-item.is)) c.parse_short.ensures

pub parse_worded-returns-in-len2 : goal.parse_worded-returns-in-len2
parse_worded-returns-in-len2 t c =
    subst (λ fs. IfOk c.parse_long.result
    (λ u. u ≡ template_of c.args.self.own c.args.self.names (labelled c.args.word.now fs)))
    (sym (two_items c.args.parts.now c.x-item-then-parts-lt3.result c.y-item.result (omega arith)
    c.x-item-then-parts-lt3.is c.y-item.is)) c.parse_long.ensures

pub parse_worded-returns-in_default : goal.parse_worded-returns-in_default
parse_worded-returns-in_default t c =
    template_long c.args.self.own c.args.self.names c.args.word.now c.args.parts.now c.in_default.len_at_least

pub parse_worded_rule-returns-in-len1 : goal.parse_worded_rule-returns-in-len1
parse_worded_rule-returns-in-len1 t c =
    subst (λ fs. IfOk c.parse_short_rule.result
    (λ r. option_map view_rule r ≡ caveat_in c.args.self.own (labelled c.args.word.now fs)))
    (sym (one_item c.args.parts.now c.x-item.result (omega arith) c.x-item.is)) c.parse_short_rule.ensures

pub parse_worded_rule-returns-in-len2 : goal.parse_worded_rule-returns-in-len2
parse_worded_rule-returns-in-len2 t c =
    subst (λ fs. IfOk c.parse_rewrite.result
    (λ r. option_map view_rule r ≡ caveat_in c.args.self.own (labelled c.args.word.now fs)))
    (sym (two_items c.args.parts.now c.pattern-item.result c.template-item.result (omega arith)
    c.pattern-item.is c.template-item.is)) c.parse_rewrite.ensures

pub parse_worded_rule-returns-in_default : goal.parse_worded_rule-returns-in_default
parse_worded_rule-returns-in_default t c =
    caveat_long c.args.self.own c.args.word.now c.args.parts.now c.in_default.len_at_least
