use Rattle.std.proofs.Common.{ℕ, List, subst}
use Rattle.std.specs.Prelude.{IfSome, IfNone}
use Rattle.pv_value.specs.Plain.{Plain}
use Rattle.pv_binary.specs.Reads.{LeadsWithin}
use Rattle.rl_packet.proofs.Fronts.{one_field}
use Rattle.rl_packet.proofs.Missing.{one_missing, one_unended}
use Rattle.rl_packet.proofs.spelled.field_in.Goals as goal

pub returns-clause-found : goal.returns-clause-found
returns-clause-found c =
    let found : LeadsWithin 61 c.args.bytes.now c.in-Some.value c.in-Some.end.now =
    subst (λ o. IfSome o (λ x. LeadsWithin 61 c.args.bytes.now x.0 x.1.now)) c.in-Some.is c.in_ok-value.ensures.found in
    one_field c.args.bytes.now c.in-Some.value c.in-Some.end.now c.in-Some-behind.rest.now found
    c.in-Some-behind.ensures.found

pub returns-in_default-clause-none : goal.returns-in_default-clause-none
returns-in_default-clause-none c =
    let none : (v : Plain) (more : List ℕ) → LeadsWithin 61 c.args.bytes.now v more → ⊥ =
    subst (λ o. IfNone o ((v : Plain) (more : List ℕ) → LeadsWithin 61 c.args.bytes.now v more → ⊥)) c.in_default.is
    c.in_ok-value.ensures.none in
    one_missing c.args.bytes.now none

pub returns-in_default-behind-clause-none : goal.returns-in_default-behind-clause-none
returns-in_default-behind-clause-none c =
    let found : LeadsWithin 61 c.args.bytes.now c.in-Some.value c.in-Some.end.now =
    subst (λ o. IfSome o (λ x. LeadsWithin 61 c.args.bytes.now x.0 x.1.now)) c.in-Some.is c.in_ok-value.ensures.found in
    one_unended c.args.bytes.now c.in-Some.value c.in-Some.end.now found c.in_default-behind.ensures.none
