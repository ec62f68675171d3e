use Rattle.std.proofs.Common.{◌<◌, refl, arith}
use Rattle.std.proofs.lemmas.List.Elements.{All-from_get_or}
use Rattle.pv_stream.proofs.One.{more_next}
use Rattle.pv_stream.proofs.nexts.more.Goals as goal

pub returns : goal.returns
returns c =
    let left = c.args.left.now in
    let are = All-from_get_or (λ b. b < 256) left 0 (λ i within. omega (arith, c.type_inv.left i)) in
    let is = more_next c.one_next.ensures.one left c.args.before are c.requires.few c.requires.front in
    record { told = is.0; only = is.1; none = refl }
