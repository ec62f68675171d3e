-- What a contract knows of a hash in progress: the key, the length of the digest and the message so far. The blocks
-- that its state has taken in are whole ones, none of which can be the last: the bytes after them are held back.
use Rattle.std.specs.Prelude.{◌≡◌, ℕ, ◌+◌, ◌*◌, ◌%◌, ◌^◌, List, length, take, drop}
use Rattle.b2s_mac.specs.Blake2s.{after_blocks, first_state, keyed}
use Rattle.b2s_mac.specs.declared.hashing.Blake2s.{Blake2s}

-- s has taken in the first k blocks of d, from the state h, and holds the bytes of d after those
unfoldable pub HoldsAfter : List ℕ → Blake2s → List ℕ → ℕ → Type 0
HoldsAfter h s d k =
    (length d ≡ k * 64 + s.held)
    × (s.taken ≡ k * 64 % 2 ^ 64)
    × (s.state ≡ after_blocks h d k)
    × (take s.held s.buffer ≡ drop (k * 64) d)

-- s hashes the message m, so far, under a key and with a digest of n bytes: it holds some bytes once there are any
unfoldable pub Holds : Blake2s → List ℕ → ℕ → List ℕ → Type 0
Holds s key n m =
    (s.out_len ≡ n)
    × (s.held ≡ 0 → length (keyed key m) ≡ 0)
    × ((k : ℕ) × HoldsAfter (first_state (length key) n) s (keyed key m) k)
