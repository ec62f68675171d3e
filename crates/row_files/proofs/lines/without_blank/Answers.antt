use Rattle.std.proofs.Common.{None, lit<, sym}
use Rattle.std.proofs.lemmas.Str.Pattern.{strip_prefix_char}
use Rattle.row_files.proofs.Lining.{no_blank}
use Rattle.row_files.proofs.lines.without_blank.Goals as goal

pub returns-in-None : goal.returns-in-None
returns-in-None c =
    sym (no_blank c.args.text.now (strip_prefix_char 32 c.args.text.now None c.in-None.ensures.cases (lit< tt)))
