use Rattle.std.proofs.Common.{sym}
use Rattle.pv_lex.specs.Lemmas.QuotedLaws.{plain_run}
use Rattle.pv_lex.proofs.contents.quoted_text.Goals as goal

pub returns-clause-value : goal.returns-clause-value
returns-clause-value c =
    rw (plain_run c.args.quotes c.args.bytes.now _ _ (sym c.run.ensures.value)) c.text_after.ensures.value
