use Rattle.std.proofs.Common.{◌+◌, ◌*◌, arith, refl}
use Rattle.b2s_mac.proofs.Absorbing.{HoldsAfter-buffer, HoldsAfter_count}
use Rattle.b2s_mac.proofs.hashing.Blake2s.take_buffer.Goals as goal

pub returns-clause-holds : goal.returns-clause-holds
returns-clause-holds c = λ h d k old.
    HoldsAfter-buffer h c.args.self.now _ d k old c.requires (omega arith) refl refl
    (c.compress.ensures ((k + 1) * 64) (HoldsAfter_count h c.args.self.now d k old))
