use Rattle.std.proofs.Common.{length}
use Rattle.b2s_mac.proofs.Absorbing.{before_zeros}
use Rattle.b2s_mac.proofs.hashing.padded.Goals as goal

pub returns : goal.returns
returns c = before_zeros 64 (length c.args.bytes.now) c.copy_from_slice.new.self c.args.bytes.now
    c.copy_from_slice.ensures.after
