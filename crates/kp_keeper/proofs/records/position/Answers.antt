use Rattle.std.proofs.Common.{rules}
use Rattle.std.proofs.lemmas.Fn.{always_returns_same}
use Rattle.kp_keeper.specs.Records.{byte_order}
use Rattle.kp_keeper.proofs.Places.{searched}
use Rattle.kp_keeper.proofs.records.position.Goals as goal

pub returns : goal.returns
returns c =
    searched c.args.oid.now c.args.records.now c.binary_search_by.result c.requires c.binary_search_by.ensures.bound
    (c.binary_search_by.ensures.position (λ r. byte_order r.oid c.args.oid.now)
    (always_returns_same _ _ _ (λ a r q k. search rules)))
