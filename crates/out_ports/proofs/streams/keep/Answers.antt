use Rattle.std.proofs.Common.{arith}
use Rattle.std.proofs.lemmas.Grind.{common_steps}
use Rattle.out_ports.proofs.Parts.{take-kept-min}
use Rattle.out_ports.proofs.streams.keep.Goals as goal

pub returns : goal.returns
returns c = λ read is. grind (arith, common_steps, take-kept-min)
