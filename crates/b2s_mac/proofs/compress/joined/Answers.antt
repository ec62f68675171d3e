use Rattle.std.proofs.Common.{refl}
use Rattle.b2s_mac.specs.Blake2s.{joined}
use Rattle.b2s_mac.proofs.compress.joined.Goals as goal

pub returns : goal.returns
unfolding joined
returns c = refl
