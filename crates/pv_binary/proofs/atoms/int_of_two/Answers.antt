use Rattle.std.proofs.Common.{[], ◌∷◌, ◌∙◌, arith}
use Rattle.std.specs.Int.{w128}
use Rattle.std.proofs.lemmas.Int.{to_z-of_z}
use Rattle.pv_binary.proofs.Shorts.{int_value_signed_twice}
use Rattle.pv_binary.proofs.atoms.int_of_two.Goals as goal

pub returns : goal.returns
returns c =
    let h = rw c.sign_of-sign.ensures at c.int_of_four.ensures in
    to_z-of_z w128 c.int_of_four.result (record { sfits = c.int_of_four.type_inv }) ∙ h
    ∙ int_value_signed_twice c.args.first (c.args.second ∷ []) (omega arith)
