-- HMAC (RFC 2104, section 2) over unkeyed BLAKE2s with digests of 32 bytes, whose blocks have 64 bytes.
use Rattle.std.specs.Prelude.{ℕ, List, [], ◌++◌, length, map, bit_xor, nat_lt, if◌then◌else◌}
use Rattle.b2s_mac.specs.Blake2s.{blake2s, padded}

-- the key as a block: a longer one is hashed first, and zeros follow
unfoldable pub key_block : List ℕ → List ℕ
key_block key = padded (if nat_lt 64 (length key) then blake2s [] 32 key else key)

-- H (K xor opad, H (K xor ipad, text))
unfoldable pub hmac : List ℕ → List ℕ → List ℕ
hmac key m =
    let inner = blake2s [] 32 (map (λ b. bit_xor b 0x36) (key_block key) ++ m) in
    blake2s [] 32 (map (λ b. bit_xor b 0x5C) (key_block key) ++ inner)
