use Rattle.std.proofs.Common.{sym, ◌∙◌, lit<}
use Rattle.std.proofs.lemmas.Str.Pattern.{strip_prefix_char}
use Rattle.ps_read.proofs.Parses.{no_equals}
use Rattle.ps_read.proofs.names.equals_pattern.Goals as goal

pub returns-in_default : goal.returns-in_default
returns-in_default c =
    let m = strip_prefix_char 61 c.as_str.result.now c.strip_prefix.result c.strip_prefix.ensures.cases (lit< tt) in
    let n = rw c.in_default.is at m in
    sym (no_equals c.args.text.now (λ rest e. n rest (c.as_str.ensures.same ∙ e)))
