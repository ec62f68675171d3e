use Rattle.std.proofs.Common.{◌≡◌, length, take, map, bit_xor}
use Rattle.b2s_mac.proofs.mac.xored.Given as goal

abbrev pub invariant-bytes : goal.invariant-bytes
invariant-bytes l = (length l.out ≡ 64) × (take l.i l.out ≡ map (λ b. bit_xor b l.pad) (take l.i l.block))
