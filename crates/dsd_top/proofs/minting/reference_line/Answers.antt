use Rattle.dsd_top.specs.Minting.{IsMintedBy, IsReferenceLine}
use Rattle.dsd_top.proofs.Minted.{no_line, refuted}
use Rattle.dsd_top.proofs.minting.reference_line.Goals as goal

pub returns-in_err-reference : goal.returns-in_err-reference
returns-in_err-reference c =
    let m = c.args.minting.now in
    refuted (λ r. r) (IsMintedBy m) (λ line. line.items) (IsReferenceLine m) c.from_residual.result
    c.in_err-reference.field-0.0 c.from_residual.ensures.1 (no_line m) c.in_err-reference.ensures
