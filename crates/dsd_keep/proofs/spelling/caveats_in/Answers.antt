-- The sequence of the values, and its canonical form.
use Rattle.std.proofs.Common.{Vec, Global, sym, ap, ◌∙◌}
use Rattle.pv_canon.specs.Canonical.{canonical}
use Rattle.pv_value.specs.Plain.{Plain, plains, sequence}
use Rattle.dsd_top.specs.Asked.{texts}
use Rattle.dsd_top.proofs.Minted.{refuted}
use Rattle.dsd_keep.specs.Requests.{ArePlainTexts, AreCaveats}
use Rattle.dsd_keep.proofs.Spelled.{no_caveats, one_sequence}
use Rattle.dsd_keep.proofs.spelling.caveats_in.Goals as goal

pub returns-in_err-values-clause-found : goal.returns-in_err-values-clause-found
returns-in_err-values-clause-found c =
    let ws = texts c.args.words.now in
    refuted {T = Vec Plain Global} (λ vs. vs.items) (ArePlainTexts ws) (λ form. form) (AreCaveats ws)
    c.from_residual.result c.in_err-values.field-0.0 c.from_residual.ensures.1 (no_caveats ws)
    c.in_err-values.ensures.found

pub returns-clause-only : goal.returns-clause-only
returns-clause-only c = λ other is.
    one_sequence (texts c.args.words.now) c.in_ok-values.values.items c.in_ok-values.ensures.only other is
    ∙ sym (c.in_ok-form.ensures
    ∙ ap canonical (c.sequence-list.ensures ∙ ap (λ xs. sequence (plains xs)) c.in_ok-from_vec.ensures))
