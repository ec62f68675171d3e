use Rattle.std.proofs.Common.{arith, refl}
use Rattle.b2s_mac.proofs.Absorbing.{HoldsAfter-hold}
use Rattle.b2s_mac.proofs.hashing.Blake2s.hold.Goals as goal

pub returns-clause-holds : goal.returns-clause-holds
returns-clause-holds c = λ h d k old.
    HoldsAfter-hold h c.args.self.now _ d c.args.bytes.now _ k _ old
    (omega arith) c.copy_from_slice.ensures.after refl refl refl refl
