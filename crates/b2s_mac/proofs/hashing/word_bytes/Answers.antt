use Rattle.std.proofs.Common.{rules, arith, ◌∙◌, refl}
use Rattle.std.proofs.lemmas.Slice.{overwrites}
use Rattle.b2s_mac.specs.Blake2s.{word_bytes}
use Rattle.b2s_mac.proofs.Absorbing.{word_bytes_more}
use Rattle.b2s_mac.proofs.hashing.word_bytes.Goals as goal

pub words-init : goal.words-init
unfolding word_bytes
words-init c = (refl, refl)

pub words-preserved : goal.words-preserved
words-preserved c = (
  search (rules, overwrites),
  word_bytes_more c.words.out c.args.state.now _ c.words.i _ c.words.invariant.1 (omega arith) (omega arith)
      (c.copy_from_slice.ensures.after ∙ c.to_le_bytes.ensures),
)
