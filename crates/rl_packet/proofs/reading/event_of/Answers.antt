use Rattle.std.proofs.Common.{◌≡◌, IfErr, subst, sym, ◌∙◌}
use Rattle.pv_value.specs.Plain.{Plain}
use Rattle.pv_words.specs.Words.{labelled}
use Rattle.rl_packet.specs.Grammar.{NoneIs, IsEventOf}
use Rattle.rl_packet.specs.Packets.{assert_word, retract_word, message_word, sync_word}
use Rattle.rl_packet.proofs.Refusals.{labelled_by}
use Rattle.rl_packet.proofs.reading.event_of.Goals as goal

pub returns-then-is_word-clause-bad : goal.returns-then-is_word-clause-bad
returns-then-is_word-clause-bad c =
    let is : c.args.value.now ≡ labelled (assert_word c.args.dialect) c.in-Some.fields.now =
    labelled_by c.args.value.now c.in-Some.word.now c.as_bytes.result.now (assert_word c.args.dialect)
    c.in-Some.fields.now c.in-Some.ensures (sym c.is_word.ensures ∙ c.if-is_word.true)
    (c.as_bytes.ensures.value ∙ c.assert_word.ensures.word) in
    subst (λ (v : Plain). IfErr c.assertion_of.result (NoneIs (IsEventOf c.args.dialect v))) (sym is)
    (c.assertion_of.ensures.bad c.args.dialect)

pub returns-then-is_word-2-clause-bad : goal.returns-then-is_word-2-clause-bad
returns-then-is_word-2-clause-bad c =
    let is : c.args.value.now ≡ labelled (retract_word c.args.dialect) c.in-Some.fields.now =
    labelled_by c.args.value.now c.in-Some.word.now c.as_bytes-else-is_word.result.now (retract_word c.args.dialect)
    c.in-Some.fields.now c.in-Some.ensures (sym c.is_word-else-is_word.ensures ∙ c.if-is_word-2.true)
    (c.as_bytes-else-is_word.ensures.value ∙ c.retract_word.ensures.word) in
    subst (λ (v : Plain). IfErr c.retraction_of.result (NoneIs (IsEventOf c.args.dialect v))) (sym is)
    (c.retraction_of.ensures.bad c.args.dialect)

pub returns-then-is_word-3-clause-bad : goal.returns-then-is_word-3-clause-bad
returns-then-is_word-3-clause-bad c =
    let is : c.args.value.now ≡ labelled (message_word c.args.dialect) c.in-Some.fields.now =
    labelled_by c.args.value.now c.in-Some.word.now c.as_bytes-else-is_word-2.result.now (message_word c.args.dialect)
    c.in-Some.fields.now c.in-Some.ensures (sym c.is_word-else-is_word-2.ensures ∙ c.if-is_word-3.true)
    (c.as_bytes-else-is_word-2.ensures.value ∙ c.message_word.ensures.word) in
    subst (λ (v : Plain). IfErr c.message_of.result (NoneIs (IsEventOf c.args.dialect v))) (sym is)
    (c.message_of.ensures.bad c.args.dialect)

pub returns-then-is_word-4-clause-bad : goal.returns-then-is_word-4-clause-bad
returns-then-is_word-4-clause-bad c =
    let is : c.args.value.now ≡ labelled (sync_word c.args.dialect) c.in-Some.fields.now =
    labelled_by c.args.value.now c.in-Some.word.now c.as_bytes-else-is_word-3.result.now (sync_word c.args.dialect)
    c.in-Some.fields.now c.in-Some.ensures (sym c.is_word-else-is_word-3.ensures ∙ c.if-is_word-4.true)
    (c.as_bytes-else-is_word-3.ensures.value ∙ c.sync_word.ensures.word) in
    subst (λ (v : Plain). IfErr c.sync_of.result (NoneIs (IsEventOf c.args.dialect v))) (sym is)
    (c.sync_of.ensures.bad c.args.dialect)
