use Rattle.std.proofs.Common.{subst}
use Rattle.std.specs.Prelude.{IfSome, IfNone}
use Rattle.rl_packet.specs.Packets.{event_value}
use Rattle.rl_packet.specs.Spelled.{Begins, NoEvent}
use Rattle.rl_packet.proofs.Fronts.{aimed_begins}
use Rattle.rl_packet.proofs.Missing.{no_oid, no_event, no_end}
use Rattle.rl_packet.proofs.spelled.aimed_in.Goals as goal

pub returns-clause-event : goal.returns-clause-event
returns-clause-event c =
    let d = c.args.dialect in
    let more = c.in-Some-number_in.record.now in
    let found : Begins 62 more (event_value d c.in-Some-2.event) c.in-Some-2.end.now =
    subst (λ o. IfSome o (λ x. Begins 62 more (event_value d x.0) x.1.now)) c.in-Some-2.is
    c.in_ok-event.ensures.event in
    aimed_begins d c.args.bytes.now c.in-Some.aim.now more c.in-Some-2.end.now c.in-Some-behind.rest.now
    (record { oid = c.in-Some-number_in.oid; event = c.in-Some-2.event })
    c.in-Some.ensures.found c.in-Some-number_in.ensures.found.1 found c.in-Some-behind.ensures.found

pub returns-in_default-number_in-clause-none : goal.returns-in_default-number_in-clause-none
returns-in_default-number_in-clause-none c =
    let d = c.args.dialect in
    no_oid d c.args.bytes.now c.in-Some.aim.now c.in-Some.ensures.found c.in_default-number_in.ensures.none

pub returns-in_default-2-clause-none : goal.returns-in_default-2-clause-none
returns-in_default-2-clause-none c =
    let d = c.args.dialect in
    let more = c.in-Some-number_in.record.now in
    let none : NoEvent d more = subst (λ o. IfNone o (NoEvent d more)) c.in_default-2.is c.in_ok-event.ensures.none in
    no_event d c.args.bytes.now c.in-Some.aim.now c.in-Some.ensures.found c.in-Some-number_in.oid more
    c.in-Some-number_in.ensures.found.1 none

pub returns-in_default-behind-clause-none : goal.returns-in_default-behind-clause-none
returns-in_default-behind-clause-none c =
    let d = c.args.dialect in
    let more = c.in-Some-number_in.record.now in
    let found : Begins 62 more (event_value d c.in-Some-2.event) c.in-Some-2.end.now =
    subst (λ o. IfSome o (λ x. Begins 62 more (event_value d x.0) x.1.now)) c.in-Some-2.is
    c.in_ok-event.ensures.event in
    no_end d c.args.bytes.now c.in-Some.aim.now c.in-Some.ensures.found c.in-Some-number_in.oid more
    c.in-Some-number_in.ensures.found.1 (event_value d c.in-Some-2.event) c.in-Some-2.end.now found
    c.in_default-behind.ensures.none
