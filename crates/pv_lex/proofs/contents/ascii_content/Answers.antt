use Rattle.std.proofs.Common.{sym}
use Rattle.pv_lex.specs.Lemmas.QuotedLaws.{plain_run}
use Rattle.pv_lex.specs.declared.runs.Quotes.TheVariants.{Ascii}
use Rattle.pv_lex.proofs.contents.ascii_content.Goals as goal

pub returns-clause-value : goal.returns-clause-value
returns-clause-value c =
    rw (plain_run Ascii c.args.bytes.now _ _ (sym c.run.ensures.value)) c.content_after.ensures.value
