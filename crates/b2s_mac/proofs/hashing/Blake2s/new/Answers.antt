use Rattle.std.proofs.Common.{◌≡◌, ◌<◌, length, arith, refl}
use Rattle.b2s_mac.proofs.Absorbing.{Holds-new}
use Rattle.b2s_mac.proofs.hashing.Blake2s.new.Goals as goal
use Rattle.b2s_mac.proofs.hashing.Blake2s.new.Goals.{then-key_len-eq0, else-key_len-eq0}

pub returns : goal.returns
returns c =
    let none : length c.args.key.now ≡ 0 → c.if-key_len-eq0.held ≡ 0 =
    λ e. elim c.if-key_len-eq0.branch [ then-key_len-eq0 w ↦ w.held-is | else-key_len-eq0 w ↦ absurd (omega arith) ] in
    let some : 0 < length c.args.key.now → c.if-key_len-eq0.held ≡ 64 =
    λ e. elim c.if-key_len-eq0.branch [ then-key_len-eq0 w ↦ absurd (omega arith) | else-key_len-eq0 w ↦ w.held-is ] in
    Holds-new _ c.args.key.now c.args.out_len refl refl c.first_state.ensures c.padded.ensures c.requires.key none some
