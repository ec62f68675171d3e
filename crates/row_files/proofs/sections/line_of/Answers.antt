use Rattle.std.proofs.Common.{◌≡◌, false, None, lit<}
use Rattle.std.proofs.lemmas.Str.Pattern.{strip_prefix_char}
use Rattle.row_files.specs.Lines.{is_left_out}
use Rattle.row_files.proofs.Lining.{no_bar}
use Rattle.row_files.proofs.sections.line_of.Goals as goal

pub returns : goal.returns
returns c =
    let line = c.args.line.now in
    let left : is_left_out line ≡ false = cc in (
      left,
      no_bar line (strip_prefix_char 124 line None c.in_default.ensures.cases (lit< tt)),
      c.word_and_rest.ensures.word,
      c.word_and_rest.ensures.rest,
    )
