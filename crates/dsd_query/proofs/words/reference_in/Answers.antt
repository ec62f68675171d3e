-- The value is a signed reference, or none.
use Rattle.dsd_top.specs.Minting.{IsPlainText}
use Rattle.dsd_top.proofs.Minted.{refuted}
use Rattle.dsd_query.specs.Queries.{IsReferenceIn}
use Rattle.dsd_query.proofs.words.reference_in.Goals as goal

pub returns-in_err-value : goal.returns-in_err-value
returns-in_err-value c =
    refuted (λ v. v) (IsPlainText c.args.word.now) (λ v. v) (IsReferenceIn c.args.word.now) c.from_residual.result
    c.in_err-value.field-0.0 c.from_residual.ensures.1 (λ none v is. none v is.0) c.in_err-value.ensures.found
