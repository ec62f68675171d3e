use Rattle.std.proofs.Common.{rules}
use Rattle.std.proofs.lemmas.Fn.{always_returns_same}
use Rattle.std.specs.Ordering.{is_lt}
use Rattle.kp_keeper.specs.Records.{byte_order}
use Rattle.kp_keeper.proofs.Places.{tested}
use Rattle.kp_keeper.proofs.records.ascend.Goals as goal

pub returns : goal.returns
returns c =
    tested c.args.records.now c.is_sorted_by.result
    (c.is_sorted_by.ensures.cases (λ x y. is_lt (byte_order x.oid y.oid))
    (always_returns_same _ _ _ (λ a r q k. search rules)))
