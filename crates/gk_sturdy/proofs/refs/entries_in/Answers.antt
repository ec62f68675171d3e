use Rattle.std.proofs.Common.{ap, sym, ◌∙◌}
use Rattle.gk_sturdy.specs.Refs.{ref_of}
use Rattle.gk_sturdy.proofs.Reading.{other_word, not_one}
use Rattle.gk_sturdy.proofs.refs.entries_in.Goals as goal
use Rattle.gk_sturdy.proofs.refs.entries_in.Goals.{then-not-is_word-via-then-not-is_word}
use Rattle.gk_sturdy.proofs.refs.entries_in.Goals.{then-not-is_word-via-else-not-is_word+then-fields-ne1}

pub returns-then-not-is_word : goal.returns-then-not-is_word
returns-then-not-is_word c =
    ap ref_of c.in_ok-word.ensures
    ∙ elim c.then-not-is_word.branch [
      | then-not-is_word-via-then-not-is_word w ↦ other_word c.in_ok-word.word.now c.in_ok-word.fields.now
          (sym w.if-not-is_word.ensures)
      | then-not-is_word-via-else-not-is_word+then-fields-ne1 w ↦
          not_one c.in_ok-word.word.now c.in_ok-word.fields.now w.if-fields-ne1.true
    ]
