use Rattle.std.proofs.Common.{◌<◌, arith}
use Rattle.std.proofs.lemmas.List.Elements.{All-from_get_or}
use Rattle.std.proofs.lemmas.Result.{IfOk-weaker}
use Rattle.pv_stream.proofs.One.{only_next}
use Rattle.pv_stream.proofs.nexts.first_in.Goals as goal

pub returns-clause-only : goal.returns-clause-only
returns-clause-only c =
    let left = c.args.left.now in
    let are = All-from_get_or (λ b. b < 256) left 0 (λ i within. omega (arith, c.type_inv.left i)) in
    IfOk-weaker c.decided.result _ _ (λ x is. only_next c.one_next.ensures.one left c.args.before x.next x.size are is)
    c.decided.ensures.told
