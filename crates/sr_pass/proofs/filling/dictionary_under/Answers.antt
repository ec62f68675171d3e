-- The goals of `dictionary_under` that the check leaves.
use Rattle.std.proofs.Common.{Some, ap, ◌∙◌, arith}
use Rattle.sr_pass.proofs.Filled.{dictionary_there, dictionary_not}
use Rattle.sr_pass.proofs.filling.dictionary_under.Goals as goal

pub returns-then-len-values : goal.returns-then-len-values
returns-then-len-values c = dictionary_not c.args.keys.now c.args.values.now (λ e. omega arith)

pub returns : goal.returns
returns c =
    ap Some c.in_ok-dictionary_with.ensures ∙ dictionary_there c.args.keys.now c.args.values.now (omega arith)
