use Rattle.std.proofs.Common.{◌≡◌, ℕ, List, [], ◌∷◌, true, subst, ◌∙◌}
use Rattle.std.specs.Prelude.{IfSome, IfNone}
use Rattle.pv_value.specs.Plain.{Plain}
use Rattle.rl_packet.specs.Packets.{Message}
use Rattle.rl_packet.specs.Wired.{is_wired}
use Rattle.rl_packet.specs.Spelled.{BeginsAll}
use Rattle.rl_packet.proofs.Fronts.{event_begins}
use Rattle.rl_packet.proofs.Missing.{no_message, one_unfit}
use Rattle.rl_packet.proofs.spelled.message_in.Goals as goal

pub returns-clause-event : goal.returns-clause-event
returns-clause-event c =
    let found : BeginsAll 61 c.args.bytes.now (c.in-Some.body ∷ []) c.in-Some.rest.now =
    subst (λ o. IfSome o (λ x. BeginsAll 61 c.args.bytes.now (x.0 ∷ []) x.1.now)) c.in-Some.is
    c.in_ok-body.ensures.found in
    λ d. event_begins d (Message c.in-Some.body) c.args.bytes.now c.in-Some.rest.now found

pub returns-in_default-clause-none : goal.returns-in_default-clause-none
returns-in_default-clause-none c =
    let none : (v : Plain) (rest : List ℕ) → BeginsAll 61 c.args.bytes.now (v ∷ []) rest → ⊥ =
    subst (λ o. IfNone o ((v : Plain) (rest : List ℕ) → BeginsAll 61 c.args.bytes.now (v ∷ []) rest → ⊥))
    c.in_default.is c.in_ok-body.ensures.none in
    λ d. no_message d c.args.bytes.now (λ v rest p b. none v rest b)

pub returns-then-not-is_wired-clause-none : goal.returns-then-not-is_wired-clause-none
returns-then-not-is_wired-clause-none c =
    let found : BeginsAll 61 c.args.bytes.now (c.in-Some.body ∷ []) c.in-Some.rest.now =
    subst (λ o. IfSome o (λ x. BeginsAll 61 c.args.bytes.now (x.0 ∷ []) x.1.now)) c.in-Some.is
    c.in_ok-body.ensures.found in
    λ d.
    no_message d c.args.bytes.now
    (one_unfit c.args.bytes.now (λ v. is_wired v ≡ true) c.in-Some.body c.in-Some.rest.now found
    (λ is. let unfit = c.if-not-is_wired.ensures ∙ is in cc))
