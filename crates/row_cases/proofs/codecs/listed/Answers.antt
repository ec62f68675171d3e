use Rattle.std.proofs.Common.{◌∙◌, [], take, get_or, codes, string_bytes, sym, arith}
use Rattle.pv_lex.specs.declared.kinds.Mark.TheVariants.{RecordOpen}
use Rattle.pv_lex.specs.declared.kinds.Token.{Token}
use Rattle.pv_lex.specs.declared.kinds.TokenKind.TheVariants.{Mark}
use Rattle.row_cases.specs.Told.{token_told, tokens_told}
use Rattle.row_cases.specs.Shown.{behind_first}
use Rattle.row_cases.proofs.Joining.{join_by_more, joined_step}
use Rattle.row_cases.proofs.codecs.listed.Goals as goal

pub loop-i-preserved : goal.loop-i-preserved
loop-i-preserved c =
    let i = c.loop-i.i in
    let tokens = c.args.tokens.now in
    let d : Token = record { kind = Mark RecordOpen; start = 0; end = 0 } in
    joined_step [] (string_bytes c.loop-i.line) (string_bytes c.push_between.new.line) (string_bytes
    c.push_token.new.line)
    (tokens_told (take i tokens)) (behind_first i (codes ", ")) (token_told (get_or tokens i d))
    c.in_ok-push_token.ensures c.in_ok-push_between.ensures c.loop-i.invariant
    ∙ sym (join_by_more token_told (codes ", ") tokens i d (omega arith))
