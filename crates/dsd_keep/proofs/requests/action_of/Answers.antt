use Rattle.std.proofs.Common.{◌≡◌, ℕ, List, ap, sym, subst, ◌∙◌}
use Rattle.dsd_top.specs.Minting.{IsFound}
use Rattle.dsd_top.proofs.Minted.{refuted}
use Rattle.dsd_keep.specs.Asked.{Revoking}
use Rattle.dsd_keep.specs.Requests.{IsForm, IsAction}
use Rattle.dsd_keep.specs.declared.words.Asked.{Asked}
use Rattle.dsd_keep.specs.declared.words.Asked.TheVariants as asks
use Rattle.dsd_keep.specs.declared.requests.Action.{Action}
use Rattle.dsd_keep.proofs.Requested.{no_form_no_action}
use Rattle.dsd_keep.proofs.requests.action_of.Goals as goal

pub returns-in_err-form_in-in-Revoke : goal.returns-in_err-form_in-in-Revoke
returns-in_err-form_in-in-Revoke c =
    let w : Revoking = record { oid = c.revoking.inside.oid.now } in
    let gone = c.from_residual in
    let err = c.in_err-form_in-in-Revoke in
    let Found : Asked → Type 0 = λ a. IsFound {T = Action} {A = Action} (λ d. d) (IsAction a) gone.result in
    subst Found (ap asks.Revoke c.revoking.view_is ∙ sym c.in-Revoke.is)
    (refuted {T = List ℕ} {U = Action} (λ form. form) (IsForm w.oid) (λ d. d) (IsAction (asks.Revoke w)) gone.result
    err.field-0.0 gone.ensures.1 (no_form_no_action w) err.ensures.found)
