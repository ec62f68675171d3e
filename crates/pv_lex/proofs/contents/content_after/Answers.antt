use Rattle.std.proofs.Common.{◌≡◌, ◌<◌, Ok, sym, ◌∙◌, ap, ◌++◌, length, length-append, arith, rules}
use Rattle.pv_lex.specs.Pieces.{piece_bytes}
use Rattle.pv_lex.specs.Classes.{item_of, quote_of}
use Rattle.pv_lex.proofs.OneItem.{one_item}
use Rattle.pv_lex.proofs.contents.content_after.Goals as goal

pub loop-first-preserved : goal.loop-first-preserved
loop-first-preserved c =
    let q = c.args.quotes in
    let e : item_of q c.loop-first.rest.now ≡ Ok (piece_bytes c.in_ok-piece.piece, c.in_ok-piece.after.now) =
    search rules in
    let less : length c.in_ok-piece.after.now < length c.loop-first.rest.now = search rules in
    let grown =
    c.in_ok-extend_from_slice.ensures.items ∙ ap (λ x. x ++ c.run.result.0.now) c.in_ok-push_piece.ensures in
    let run = ap length c.run.ensures.whole ∙ length-append c.run.result.0.now c.run.result.1.now in
    let unlike = λ (h : c.in-Some.first.now ≡ quote_of q). c.if-first-quote.false (h ∙ sym c.quote.ensures) in (
      one_item q c.loop-first.out.items _ c.loop-first.rest.now _ _ _ _ _ _ _ c.loop-first.invariant.0
          c.in-Some.ensures.cases.0 unlike e (sym c.run.ensures.value) grown,
      omega (arith, c.loop-first.invariant.1, less, run),
    )
