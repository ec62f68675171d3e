use Rattle.std.proofs.Common.{◌∙◌, ◌++◌, take, get_or, codes, string_bytes, sym, ap, arith}
use Rattle.row_cases.specs.Shown.{behind_first, hex_digits, digits_shown}
use Rattle.row_cases.proofs.Joining.{join_by_more, joined_step}
use Rattle.row_cases.proofs.shown.push_digits.Goals as goal

pub loop-i-preserved : goal.loop-i-preserved
loop-i-preserved c =
    let i = c.loop-i.i in
    let bytes = c.args.bytes.now in
    let old = string_bytes c.args.line.now in
    joined_step old (string_bytes c.loop-i.line) (string_bytes c.push_between.new.line) (string_bytes
    c.push_pair.new.line)
    (digits_shown (take i bytes)) (behind_first i (codes " ")) (hex_digits (get_or bytes i 0))
    c.in_ok-push_pair.ensures c.in_ok-push_between.ensures c.loop-i.invariant
    ∙ ap (λ t. old ++ t) (sym (join_by_more hex_digits (codes " ") bytes i 0 (omega arith)))
