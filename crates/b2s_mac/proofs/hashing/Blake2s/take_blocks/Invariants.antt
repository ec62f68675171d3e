use Rattle.std.proofs.Common.{◌≡◌, ℕ, ◌+◌, ◌*◌, List, ◌++◌, take}
use Rattle.b2s_mac.specs.Hashing.{HoldsAfter}
use Rattle.b2s_mac.proofs.hashing.Blake2s.take_blocks.Given as goal

abbrev pub invariant-blocks-2 : goal.invariant-blocks-2
invariant-blocks-2 l =
    (l.self.held ≡ 0) × (l.self.out_len ≡ l.fn.self.out_len)
    × ((h d : List ℕ) (k : ℕ) → HoldsAfter h l.fn.self d k
    → HoldsAfter h l.self (d ++ take (64 * l.i) l.blocks) (k + l.i))
