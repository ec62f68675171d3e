-- The goals of `weight_of_keys` that the check leaves.
use Rattle.std.proofs.Common.{List, map, ap, arith}
use Rattle.pv_value.specs.View.{key_and_value}
use Rattle.pv_value.specs.declared.Entry.{Entry}
use Rattle.pv_value.specs.Weight.{weight, sizes_with}
use Rattle.sr_caveat.specs.View.{keys_of}
use Rattle.sr_caveat.specs.Lemmas.Dropping.{drop_is}
use Rattle.sr_weight.proofs.labels.weight_of_keys.Goals as goal

pub loop-e-preserved : goal.loop-e-preserved
unfolding weight
loop-e-preserved c =
    let at = drop_is c.args.entries.now c.loop-e.e-index c.e-item.result (omega arith) c.e-item.is in
    let w = ap (λ (es : List Entry). sizes_with 48 (keys_of (map key_and_value es))) at in
    let sw = c.weight.ensures in
    record { light = omega arith; weight = omega arith }
