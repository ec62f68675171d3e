-- Digests that others computed, so that a wrong constant or step of the definition does not check: that of RFC 7693,
-- appendix B, and two of Python's.
use Rattle.std.proofs.Common.{◌≡◌, [], ◌∷◌, codes, refl}
use Rattle.b2s_mac.specs.Blake2s.{half_mix, mix, round, rounds, words, work_vector, joined, compress, keyed}
use Rattle.b2s_mac.specs.Blake2s.{after_blocks, final_state, word_bytes, blake2s}
use Rattle.b2s_mac.specs.Hmac.{hmac, key_block}

pub digest_of_abc : blake2s [] 32 (codes "abc")
    ≡ 0x50 ∷ 0x8C ∷ 0x5E ∷ 0x8C ∷ 0x32 ∷ 0x7C ∷ 0x14 ∷ 0xE2 ∷ 0xE1 ∷ 0xA7 ∷ 0x2B ∷ 0xA3 ∷ 0x4E ∷ 0xEB ∷ 0x45 ∷ 0x2F
    ∷ 0x37 ∷ 0x45 ∷ 0x8B ∷ 0x20 ∷ 0x9E ∷ 0xD6 ∷ 0x3A ∷ 0x29 ∷ 0x4D ∷ 0x99 ∷ 0x9B ∷ 0x4C ∷ 0x86 ∷ 0x67 ∷ 0x59 ∷ 0x82
    ∷ []
unfolding half_mix mix round rounds words work_vector joined compress keyed after_blocks final_state word_bytes blake2s
digest_of_abc = refl

-- 65 bytes in two blocks, behind the block of the key
pub digest_under_a_key : blake2s (codes "key") 20
    (codes "ABCDEFGHIJKLMNOPQRSTUVWXYZabcdefghijklmnopqrstuvwxyz0123456789+/=")
    ≡ 72 ∷ 251 ∷ 147 ∷ 59 ∷ 58 ∷ 206 ∷ 159 ∷ 244 ∷ 53 ∷ 96 ∷ 68 ∷ 45 ∷ 23 ∷ 129 ∷ 102 ∷ 238 ∷ 139 ∷ 239 ∷ 2 ∷ 77 ∷ []
unfolding half_mix mix round rounds words work_vector joined compress keyed after_blocks final_state word_bytes blake2s
digest_under_a_key = refl

pub code_of_abc : hmac (codes "key") (codes "abc")
    ≡ 0 ∷ 24 ∷ 191 ∷ 221 ∷ 192 ∷ 200 ∷ 120 ∷ 179 ∷ 226 ∷ 112 ∷ 198 ∷ 229 ∷ 155 ∷ 53 ∷ 175 ∷ 1 ∷ 225 ∷ 100 ∷ 164 ∷ 45
    ∷ 137 ∷ 73 ∷ 156 ∷ 148 ∷ 71 ∷ 169 ∷ 11 ∷ 88 ∷ 164 ∷ 214 ∷ 14 ∷ 179 ∷ []
unfolding half_mix mix round rounds words work_vector joined compress keyed after_blocks final_state word_bytes blake2s
    key_block hmac
code_of_abc = refl
