use Rattle.std.proofs.Common.{◌+◌, ◌*◌, refl}
use Rattle.b2s_mac.proofs.Absorbing.{HoldsAfter-block, HoldsAfter_count}
use Rattle.b2s_mac.proofs.hashing.Blake2s.take_block.Goals as goal

pub returns-clause-holds : goal.returns-clause-holds
returns-clause-holds c = λ h d k old.
    HoldsAfter-block h c.args.self.now _ d c.args.block.now k old c.requires.none c.requires.whole c.requires.none refl
    (c.compress.ensures ((k + 1) * 64) (HoldsAfter_count h c.args.self.now d k old))
