use Rattle.std.proofs.Common.{ℕ, List, subst, sym}
use Rattle.std.specs.Prelude.{IfSome, IfNone}
use Rattle.pv_binary.specs.Reads.{LeadsWithin}
use Rattle.rl_packet.specs.Packets.{Assert}
use Rattle.rl_packet.proofs.Fronts.{event_begins, assertion_fields}
use Rattle.pv_value.specs.Plain.{Plain}
use Rattle.rl_packet.proofs.Missing.{no_assertion, two_missing, two_uncounted, two_unended, two_unwired}
use Rattle.rl_packet.proofs.spelled.assertion_in.Goals as goal

pub returns-clause-event : goal.returns-clause-event
returns-clause-event c =
    let found : LeadsWithin 61 c.args.bytes.now c.in-Some.value c.in-Some.count.now =
    subst (λ o. IfSome o (λ x. LeadsWithin 61 c.args.bytes.now x.0 x.1.now)) c.in-Some.is c.in_ok-value.ensures.found in
    λ d.
    event_begins d (Assert c.in-Some.value c.in-Some-number_in.handle) c.args.bytes.now c.in-Some-behind.rest.now
    (assertion_fields c.args.bytes.now c.in-Some.value c.in-Some.count.now c.in-Some-number_in.handle
    c.in-Some-number_in.end.now c.in-Some-behind.rest.now found c.in-Some-number_in.ensures.found.1
    c.in-Some-behind.ensures.found)

pub returns-in_default-clause-none : goal.returns-in_default-clause-none
returns-in_default-clause-none c =
    let none : (v : Plain) (more : List ℕ) → LeadsWithin 61 c.args.bytes.now v more → ⊥ =
    subst (λ o. IfNone o ((v : Plain) (more : List ℕ) → LeadsWithin 61 c.args.bytes.now v more → ⊥)) c.in_default.is
    c.in_ok-value.ensures.none in
    λ d. no_assertion d c.args.bytes.now (two_missing c.args.bytes.now none)

pub returns-in_default-number_in-clause-none : goal.returns-in_default-number_in-clause-none
returns-in_default-number_in-clause-none c =
    let found : LeadsWithin 61 c.args.bytes.now c.in-Some.value c.in-Some.count.now =
    subst (λ o. IfSome o (λ x. LeadsWithin 61 c.args.bytes.now x.0 x.1.now)) c.in-Some.is c.in_ok-value.ensures.found in
    λ d. no_assertion d c.args.bytes.now
    (two_uncounted c.args.bytes.now c.in-Some.value c.in-Some.count.now found c.in_default-number_in.ensures.none)

pub returns-in_default-behind-clause-none : goal.returns-in_default-behind-clause-none
returns-in_default-behind-clause-none c =
    let found : LeadsWithin 61 c.args.bytes.now c.in-Some.value c.in-Some.count.now =
    subst (λ o. IfSome o (λ x. LeadsWithin 61 c.args.bytes.now x.0 x.1.now)) c.in-Some.is c.in_ok-value.ensures.found in
    λ d. no_assertion d c.args.bytes.now
    (two_unended c.args.bytes.now c.in-Some.value c.in-Some.count.now found c.in-Some-number_in.handle
    c.in-Some-number_in.end.now c.in-Some-number_in.ensures.found.1 c.in_default-behind.ensures.none)

pub returns-then-not-is_wired-clause-none : goal.returns-then-not-is_wired-clause-none
returns-then-not-is_wired-clause-none c =
    let found : LeadsWithin 61 c.args.bytes.now c.in-Some.value c.in-Some.count.now =
    subst (λ o. IfSome o (λ x. LeadsWithin 61 c.args.bytes.now x.0 x.1.now)) c.in-Some.is c.in_ok-value.ensures.found in
    λ d. no_assertion d c.args.bytes.now
    (two_unwired c.args.bytes.now c.in-Some.value c.in-Some.count.now found (sym c.if-not-is_wired.ensures))
