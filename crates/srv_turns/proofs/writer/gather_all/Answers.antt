use Rattle.std.proofs.Common.{Result, Ok, Err, ◌∙◌}
use Rattle.std.specs.Prelude.{OnErr}
use Rattle.srv_turns.proofs.Writing.{gathered_front}
use Rattle.srv_turns.proofs.writer.gather_all.Goals as goal

on_err : {T E : Type 0} (r : Result T E) (P : Type 0) → P → OnErr r P
on_err {T} {E} (Ok x) P p = tt
on_err {T} {E} (Err e) P p = p

pub returns-in_err-gather_reply-clause-front : goal.returns-in_err-gather_reply-clause-front
returns-in_err-gather_reply-clause-front c =
    on_err c.from_residual.result _ (gathered_front c.args.replies.now c.loop-reply.reply-index
    c.args.gathered.now.items _ (c.in_err-gather_reply.ensures.undone ∙ c.loop-reply.invariant))
