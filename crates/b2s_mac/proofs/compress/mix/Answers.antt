use Rattle.std.proofs.Common.{refl}
use Rattle.b2s_mac.specs.Blake2s.{mix}
use Rattle.b2s_mac.proofs.compress.mix.Goals as goal

pub returns : goal.returns
unfolding mix
returns c = rw (c.half_mix-2.ensures, c.half_mix.ensures) refl
