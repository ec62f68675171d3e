use Rattle.std.proofs.Common.{◌∙◌, ap, ℕ, List}
use Rattle.std.specs.Int.{w128, from_be_bytes, cast_signed}
use Rattle.std.proofs.lemmas.Int.{to_z-of_z}
use Rattle.pv_binary.specs.Reading.{int_value}
use Rattle.pv_binary.proofs.atoms.int_of.Goals as goal

pub returns : goal.returns
unfolding int_value
returns c =
    to_z-of_z w128 c.from_be_bytes.result (record { sfits = c.from_be_bytes.type_inv }) ∙ c.from_be_bytes.ensures
    ∙ ap (λ (bs : List ℕ). cast_signed w128 (from_be_bytes w128 bs)) c.padded.ensures
