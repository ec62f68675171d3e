-- One value, and its canonical form.
use Rattle.std.proofs.Common.{sym, ◌∙◌}
use Rattle.dsd_top.specs.Minting.{IsPlainText}
use Rattle.dsd_top.proofs.Minted.{refuted}
use Rattle.dsd_keep.specs.Requests.{IsForm}
use Rattle.dsd_keep.proofs.Spelled.{no_form, one_form}
use Rattle.dsd_keep.proofs.spelling.form_in.Goals as goal

pub returns-in_err-value-clause-found : goal.returns-in_err-value-clause-found
returns-in_err-value-clause-found c =
    let w = c.args.word.now in
    refuted (λ v. v) (IsPlainText w) (λ form. form) (IsForm w) c.from_residual.result c.in_err-value.field-0.0
    c.from_residual.ensures.1 (no_form w) c.in_err-value.ensures.found

pub returns-clause-only : goal.returns-clause-only
returns-clause-only c = λ other is.
    one_form c.args.word.now c.in_ok-value.value c.in_ok-value.ensures.only other is ∙ sym c.in_ok-form.ensures
