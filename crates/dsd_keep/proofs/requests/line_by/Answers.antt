use Rattle.std.proofs.Common.{ℕ, List, Vec, Global, subst}
use Rattle.dsd_top.specs.Minting.{IsFound, IsReferenceLine}
use Rattle.dsd_keep.specs.Requests.{minting_of}
use Rattle.dsd_keep.specs.Asked.{Adding}
use Rattle.dsd_keep.proofs.requests.line_by.Goals as goal

pub returns : goal.returns
returns c =
    let Found : Adding → Type 0 = λ a.
    IsFound {T = Vec ℕ Global} {A = List ℕ} (λ line. line.items) (IsReferenceLine (minting_of a))
    c.reference_line.result in
    subst Found c.adding.view_is c.reference_line.ensures
