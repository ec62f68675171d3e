use Rattle.std.proofs.Common.{take, ap, ◌∙◌}
use Rattle.gk_sturdy.specs.Chain.{link}
use Rattle.gk_sturdy.proofs.links.link.Goals as goal

pub returns : goal.returns
unfolding link
returns c = c.copy_from_slice.ensures.after ∙ ap (take 16) c.hmac-code.ensures
