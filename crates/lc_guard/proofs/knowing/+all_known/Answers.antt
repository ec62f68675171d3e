-- The goals of `all_known` that the check leaves.
use Rattle.std.proofs.Common.{arith}
use Rattle.sr_caveat.specs.Lemmas.Falls.{caveat_at, rewrite_at, template_at}
use Rattle.lc_guard.proofs.knowing.+all_known.Goals as goal

pub all_known-known-requires : goal.all_known-known-requires
all_known-known-requires g t c κs within = (
  omega (
    arith,
    caveat_at c.args.list.now c.loop-caveat.caveat-index c.caveat-item.result (omega arith) c.caveat-item.is,
  ),
  within,
)

pub rewrites_known-template_known-requires : goal.rewrites_known-template_known-requires
rewrites_known-template_known-requires g t c κs within = (
  omega (
    arith,
    rewrite_at c.args.rewrites.now c.loop-rewrite.rewrite-index c.rewrite-item.result (omega arith)
        c.rewrite-item.is,
  ),
  within,
)

pub templates_known-template_known-requires : goal.templates_known-template_known-requires
templates_known-template_known-requires g t c κs within = (
  omega (
    arith,
    template_at c.args.templates.now c.loop-template.template-index c.template-item.result (omega arith)
        c.template-item.is,
  ),
  within,
)
