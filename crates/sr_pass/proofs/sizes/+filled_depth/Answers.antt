-- The goals of `filled_depth` that the check leaves.
use Rattle.std.proofs.Common.{arith}
use Rattle.sr_caveat.specs.Lemmas.Falls.{template_at}
use Rattle.sr_pass.proofs.sizes.+filled_depth.Goals as goal

pub filled_depths-filled_depth-requires : goal.filled_depths-filled_depth-requires
filled_depths-filled_depth-requires t c = (
  omega (
    arith,
    template_at c.args.templates.now c.loop-template.template-index c.template-item.result (omega arith)
        c.template-item.is,
  ),
  tt,
)
