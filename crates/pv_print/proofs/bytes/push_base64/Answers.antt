use Rattle.std.proofs.Common.{◌∙◌, arith}
use Rattle.pv_print.proofs.Encoded.{base64_is}
use Rattle.pv_print.proofs.bytes.push_base64.Goals as goal

pub returns : goal.returns
returns c =
    let e = c.as_bytes.ensures.value ∙ c.in_ok-digits.ensures.text
    ∙ base64_is c.args.bytes.now (λ i. let f = c.type_inv.bytes i in omega arith) in
    record { exact = rw e at c.push_bytes.ensures.all; front = c.push_bytes.ensures.front }
