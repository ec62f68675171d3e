use Rattle.std.proofs.Common.{◌≡◌, ℕ, List, IfOk, subst, sym, ap, ◌∙◌}
use Rattle.std.specs.Prelude.{IfSome, IfNone}
use Rattle.rl_packet.specs.Packets.{Dialect, event_value}
use Rattle.rl_packet.specs.Spelled.{Begins, opened, NoEvent, label_of}
use Rattle.rl_packet.specs.declared.spelled.Kind.{Kind}
use Rattle.rl_packet.specs.declared.spelled.Kind.TheVariants.{Assertion, Retraction, Message, Sync}
use Rattle.rl_packet.proofs.Missing.{no_word, no_such_word}
use Rattle.rl_packet.proofs.spelled.event_in.Goals as goal

-- bytes that open with the label found open with that of the kind it is known to be
begun_as : (d : Dialect) (found known : Kind) (bytes word fields : List ℕ) → bytes ≡ opened word fields
    → word ≡ label_of d found → found ≡ known → bytes ≡ opened (label_of d known) fields
begun_as d found known bytes word fields opens named same =
    opens ∙ ap (λ w. opened w fields) (named ∙ ap (label_of d) same)

pub returns-in_default-clause-none : goal.returns-in_default-clause-none
returns-in_default-clause-none c = no_word c.args.dialect c.args.bytes.now c.in_default.ensures.none

pub returns-in-Some-Assertion-clause-event : goal.returns-in-Some-Assertion-clause-event
returns-in-Some-Assertion-clause-event c =
    let d = c.args.dialect in
    let is = begun_as d _ Assertion _ _ c.in-Some.fields.now
    c.in-Some.ensures.found c.in-Some-Assertion.ensures.found c.in-Some-Assertion.field-0-is in
    subst (λ b. IfOk c.assertion_in.result (λ o. IfSome o (λ x. Begins 62 b (event_value d x.0) x.1.now))) (sym is)
    (c.assertion_in.ensures.event d)

pub returns-in-Some-Assertion-clause-none : goal.returns-in-Some-Assertion-clause-none
returns-in-Some-Assertion-clause-none c =
    let d = c.args.dialect in
    let is = begun_as d _ Assertion _ _ c.in-Some.fields.now
    c.in-Some.ensures.found c.in-Some-Assertion.ensures.found c.in-Some-Assertion.field-0-is in
    subst (λ b. IfOk c.assertion_in.result (λ o. IfNone o (NoEvent d b))) (sym is) (c.assertion_in.ensures.none d)

pub returns-in-Some-Retraction-clause-none : goal.returns-in-Some-Retraction-clause-none
returns-in-Some-Retraction-clause-none c =
    let d = c.args.dialect in
    let is = begun_as d _ Retraction _ _ c.in-Some.fields.now
    c.in-Some.ensures.found c.in-Some-Retraction.ensures.found c.in-Some-Retraction.field-0-is in
    subst (λ b. IfNone c.retraction_in.result (NoEvent d b)) (sym is) (c.retraction_in.ensures.none d)

pub returns-in-Some-Message-clause-event : goal.returns-in-Some-Message-clause-event
returns-in-Some-Message-clause-event c =
    let d = c.args.dialect in
    let is = begun_as d _ Message _ _ c.in-Some.fields.now
    c.in-Some.ensures.found c.in-Some-Message.ensures.found c.in-Some-Message.field-0-is in
    subst (λ b. IfOk c.message_in.result (λ o. IfSome o (λ x. Begins 62 b (event_value d x.0) x.1.now))) (sym is)
    (c.message_in.ensures.event d)

pub returns-in-Some-Message-clause-none : goal.returns-in-Some-Message-clause-none
returns-in-Some-Message-clause-none c =
    let d = c.args.dialect in
    let is = begun_as d _ Message _ _ c.in-Some.fields.now
    c.in-Some.ensures.found c.in-Some-Message.ensures.found c.in-Some-Message.field-0-is in
    subst (λ b. IfOk c.message_in.result (λ o. IfNone o (NoEvent d b))) (sym is) (c.message_in.ensures.none d)

pub returns-in-Some-Sync-clause-event : goal.returns-in-Some-Sync-clause-event
returns-in-Some-Sync-clause-event c =
    let d = c.args.dialect in
    let is = begun_as d _ Sync _ _ c.in-Some.fields.now
    c.in-Some.ensures.found c.in-Some-Sync.ensures.found c.in-Some-Sync.field-0-is in
    subst (λ b. IfOk c.sync_in.result (λ o. IfSome o (λ x. Begins 62 b (event_value d x.0) x.1.now))) (sym is)
    (c.sync_in.ensures.event d)

pub returns-in-Some-Sync-clause-none : goal.returns-in-Some-Sync-clause-none
returns-in-Some-Sync-clause-none c =
    let d = c.args.dialect in
    let is = begun_as d _ Sync _ _ c.in-Some.fields.now
    c.in-Some.ensures.found c.in-Some-Sync.ensures.found c.in-Some-Sync.field-0-is in
    subst (λ b. IfOk c.sync_in.result (λ o. IfNone o (NoEvent d b))) (sym is) (c.sync_in.ensures.none d)

pub returns-in-None-clause-none : goal.returns-in-None-clause-none
returns-in-None-clause-none c =
    let d = c.args.dialect in
    subst (λ (b : List ℕ). NoEvent d b) (sym c.in-Some.ensures.found)
    (no_such_word d c.in-Some.fields.now c.in-Some.word.now (c.in-None.ensures.none Assertion)
    (c.in-None.ensures.none Retraction) (c.in-None.ensures.none Message) (c.in-None.ensures.none Sync))
