use Rattle.std.proofs.Common.{◌∙◌, sym, ap, inl, inr, rules}
use Rattle.std.specs.Result.{result_ok}
use Rattle.hex.specs.Hex.{decode_of}
use Rattle.pv_lex.proofs.HexDecoded.{hex_decoded}
use Rattle.pv_lex.proofs.hexadecimal.hex_bytes.Goals as goal

pub returns-in-Ok : goal.returns-in-Ok
returns-in-Ok c =
    ap result_ok (sym c.in-Ok.ensures.ok)
    ∙ ap (λ t. result_ok (decode_of t)) (c.as_slice.ensures.value ∙ c.in_ok-digits.ensures)
    ∙ hex_decoded c.args.text.now

pub returns : goal.returns
returns c =
    let e =
    ap (λ t. result_ok (decode_of t)) (c.as_slice.ensures.value ∙ c.in_ok-digits.ensures)
    ∙ hex_decoded c.args.text.now in
    elim c.in-Err.ensures.err [
      | inl full ↦ absurd (search rules)
      | inr bad ↦ ap result_ok (sym bad) ∙ e
    ]
