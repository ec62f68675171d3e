use Rattle.std.proofs.Common.{◌∙◌, arith}
use Rattle.std.specs.Int.{w8, w128}
use Rattle.std.proofs.lemmas.Int.{to_z-of_z}
use Rattle.pv_binary.proofs.Shorts.{int_value_one}
use Rattle.pv_binary.proofs.atoms.int_of_one.Goals as goal

pub returns : goal.returns
returns c =
    to_z-of_z w128 c.from.result (record { sfits = c.from.type_inv }) ∙ c.from.ensures
    ∙ to_z-of_z w8 c.from_be_bytes.result (record { sfits = c.from_be_bytes.type_inv }) ∙ c.from_be_bytes.ensures
    ∙ int_value_one c.args.byte (omega arith)
