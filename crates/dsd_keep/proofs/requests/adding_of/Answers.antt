use Rattle.std.proofs.Common.{ℕ, Vec, Global}
use Rattle.dsd_top.specs.Minting.{IsReferenceLine}
use Rattle.dsd_top.proofs.Minted.{refuted}
use Rattle.dsd_keep.specs.Requests.{IsAction, minting_of}
use Rattle.dsd_keep.specs.declared.words.Asked.TheVariants as asks
use Rattle.dsd_keep.proofs.Requested.{no_line_no_action}
use Rattle.dsd_keep.proofs.requests.adding_of.Goals as goal

pub returns-in_err-line : goal.returns-in_err-line
returns-in_err-line c =
    let a = c.args.adding.now in
    let gone = c.from_residual-in_err-line in
    refuted {T = Vec ℕ Global} (λ line. line.items) (IsReferenceLine (minting_of a)) (λ d. d) (IsAction (asks.Add a))
    gone.result c.in_err-line.field-0.0 gone.ensures.1 (no_line_no_action a) c.in_err-line.ensures
