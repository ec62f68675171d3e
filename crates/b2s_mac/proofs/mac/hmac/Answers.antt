use Rattle.std.proofs.Common.{refl}
use Rattle.b2s_mac.specs.Hmac.{hmac}
use Rattle.b2s_mac.proofs.mac.hmac.Goals as goal

pub returns : goal.returns
unfolding hmac
returns c =
    rw (
      c.digest_of_two.ensures,
      c.digest_of_two-inner.ensures,
      c.xored.ensures,
      c.xored-2.ensures,
      c.key_block-block.ensures,
    ) refl
