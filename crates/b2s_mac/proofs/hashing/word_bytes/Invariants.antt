use Rattle.std.proofs.Common.{◌≡◌, ◌*◌, length, take}
use Rattle.b2s_mac.specs.Blake2s.{word_bytes}
use Rattle.b2s_mac.proofs.hashing.word_bytes.Given as goal

abbrev pub invariant-words : goal.invariant-words
invariant-words l = (length l.out ≡ 32) × (take (4 * l.i) l.out ≡ word_bytes (take l.i l.state))
