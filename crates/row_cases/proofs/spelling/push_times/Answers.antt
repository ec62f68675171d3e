use Rattle.std.proofs.Common.{◌≡◌, ◌∙◌, ◌+◌, ◌++◌, suc, ap, sym, append_assoc, string_bytes, arith}
use Rattle.std.specs.List.{repeat}
use Rattle.row_cases.proofs.Joining.{repeated_more}
use Rattle.row_cases.proofs.spelling.push_times.Goals as goal

pub loop-preserved : goal.loop-preserved
loop-preserved c =
    let old = string_bytes c.args.out.now in
    let text = c.args.text.now in
    let n = c.loop.counter in
    let next : suc n ≡ n + 1 = omega arith in
    c.in_ok-push_str.ensures.bytes ∙ ap (λ t. t ++ text) c.loop.invariant ∙ append_assoc old (repeat n text) text
    ∙ ap (λ t. old ++ t) (sym (repeated_more n text)) ∙ ap (λ m. old ++ repeat m text) next
