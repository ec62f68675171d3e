use Rattle.std.proofs.Common.{refl}
use Rattle.b2s_mac.specs.Blake2s.{half_mix}
use Rattle.b2s_mac.proofs.compress.half_mix.Goals as goal

pub returns : goal.returns
unfolding half_mix
returns c = rw (c.rotate_right-2.ensures, c.rotate_right.ensures) refl
