use Rattle.std.proofs.Common.{◌≡◌, ◌∙◌, ◌-◌, ◌<◌, length, suc, ap, arith, rules, Ok, ◌++◌, ◌∷◌, []}
use Rattle.pv_lex.specs.Lexing.{lexeme_at, tokens_in}
use Rattle.pv_lex.proofs.Listed.{none_before, one_more}
use Rattle.pv_lex.proofs.listing.all_tokens.Goals as goal

pub loop-rest-init : goal.loop-rest-init
loop-rest-init c =
    let total = length c.args.text.now in
    let e = c.skip_blank-rest.ensures.value in (
      suc total,
      omega (arith, c.skip_blank-rest.ensures.within),
      c.skip_blank-rest.ensures.within,
      none_before total _ c.new-tokens.result c.new-tokens.ensures ∙ ap (tokens_in total (suc total)) e,
    )

pub loop-rest-preserved : goal.loop-rest-preserved
loop-rest-preserved c =
    let i = c.loop-rest.invariant in
    let total = length c.args.text.now in
    let rest = c.loop-rest.rest.now in
    let after = c.in_ok-lexeme.after.now in
    let e : lexeme_at rest ≡ Ok (c.in_ok-lexeme.lexeme, after) = search rules in
    let less : length after < length rest = search rules in
    let start = total - length rest in
    let end = total - length after in
    let grown =
    c.in_ok-push.ensures.ok
    ∙ ap (λ k. c.loop-rest.tokens ++ record { kind = k; start = start; end = end } ∷ []) c.kind_of-kind.ensures
    in
    let next = c.skip_blank-rest-in-loop-rest.ensures in
    let more = c.skip_blank-rest-in-loop-rest.result.now in
    let lexeme = c.in_ok-lexeme.lexeme in
    let o =
    one_more total i.0 rest lexeme after more c.loop-rest.tokens c.push.new.self _ i.3 i.1 e less grown next.value
    in
    (o.0, o.1, omega (arith, less, i.2, next.within), o.2)
