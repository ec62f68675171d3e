use Rattle.std.proofs.Common.{take}
use Rattle.b2s_mac.proofs.Absorbing.{before_zeros}
use Rattle.b2s_mac.proofs.hashing.cut.Goals as goal

pub returns : goal.returns
returns c = before_zeros 32 c.args.len c.copy_from_slice.new.self
    (take c.args.len c.args.bytes.now) c.copy_from_slice.ensures.after
