use Rattle.std.proofs.Common.{◌∙◌, arith}
use Rattle.pv_print.proofs.Encoded.{hex_is}
use Rattle.pv_print.proofs.bytes.push_hex.Goals as goal

pub returns : goal.returns
returns c =
    let e = c.as_bytes.ensures.value ∙ c.in_ok-digits.ensures
    ∙ hex_is c.args.bytes.now (λ i. let f = c.type_inv.bytes i in omega arith) in
    record { exact = rw e at c.push_bytes.ensures.all; front = c.push_bytes.ensures.front }
