use Rattle.std.proofs.Common.{◌∙◌, arith}
use Rattle.std.specs.Int.{w32, w128}
use Rattle.std.proofs.lemmas.Int.{to_z-of_z}
use Rattle.pv_binary.proofs.Shorts.{int_value_four}
use Rattle.pv_binary.proofs.atoms.int_of_four.Goals as goal

pub returns : goal.returns
returns c =
    to_z-of_z w128 c.from.result (record { sfits = c.from.type_inv }) ∙ c.from.ensures
    ∙ to_z-of_z w32 c.from_be_bytes.result (record { sfits = c.from_be_bytes.type_inv }) ∙ c.from_be_bytes.ensures
    ∙ int_value_four c.args.first c.args.second c.args.third c.args.fourth (omega arith) (omega arith) (omega arith)
    (omega arith)
