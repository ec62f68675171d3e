use Rattle.std.proofs.Common.{rules}
use Rattle.pv_lex.specs.Lemmas.Texts.{utf8_good, utf8_bad}
use Rattle.pv_lex.proofs.contents.text_of.Goals as goal

pub returns-in_ok-from_str-in-Ok : goal.returns-in_ok-from_str-in-Ok
returns-in_ok-from_str-in-Ok c = rw (utf8_good c.args.bytes.now c.in-Ok.ensures.cases.1) (search rules)

pub returns-in-Err : goal.returns-in-Err
returns-in-Err c = rw (utf8_bad c.args.bytes.now c.in-Err.ensures.cases.0)
