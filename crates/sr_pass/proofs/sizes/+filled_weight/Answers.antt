-- The goals of `filled_weight` that the check leaves.
use Rattle.std.proofs.Common.{arith}
use Rattle.sr_caveat.specs.Lemmas.Falls.{template_at}
use Rattle.sr_pass.proofs.sizes.+filled_weight.Goals as goal

pub with_filled_weights-filled_weight-total-requires : goal.with_filled_weights-filled_weight-total-requires
with_filled_weights-filled_weight-total-requires t c = (
  omega (
    arith,
    template_at c.args.templates.now c.loop-template.template-index c.template-item.result (omega arith)
        c.template-item.is,
  ),
  tt,
)
