use Rattle.std.proofs.Common.{true, false, ◌∙◌, eq-eqb, arith}
use Rattle.std.specs.Prelude.{vec_items}
use Rattle.std.proofs.lemmas.Bool.{ne_eqb}
use Rattle.pv_lex.proofs.Base64Decoded.{base64_decoded}
use Rattle.pv_lex.proofs.sextets.base64_bytes.Goals as goal

pub returns-then-len-eq0 : goal.returns-then-len-eq0
returns-then-len-eq0 c =
    base64_decoded vec_items true c.args.text.now c.as_slice.result.now c.decoded.result
    (c.as_slice.ensures.value ∙ c.in_ok-digits.ensures)
    (eq-eqb _ 0 (omega arith)) c.decoded.ensures.value c.decoded.ensures.exact

pub returns : goal.returns
returns c =
    base64_decoded vec_items false c.args.text.now c.as_slice-else-len-eq0.result.now c.decoded-else-len-eq0.result
    (c.as_slice-else-len-eq0.ensures.value ∙ c.in_ok-digits.ensures)
    (ne_eqb _ 0 (λ e. omega (arith, e))) c.decoded-else-len-eq0.ensures.value c.decoded-else-len-eq0.ensures.exact
