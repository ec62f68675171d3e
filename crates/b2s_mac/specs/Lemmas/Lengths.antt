-- How long digests are.
use Rattle.std.specs.Prelude.{◌≡◌, ℕ, ◌*◌, ◌≤◌, Bool, List, [], ◌∷◌, length, refl}
use Rattle.std.proofs.Common.{arith, length-append}
use Rattle.std.proofs.lemmas.List.{length-take-le}
use Rattle.std.specs.Int.{w32, to_le_bytes}
use Rattle.b2s_mac.specs.Blake2s.{word_bytes, joined, compress, final_state, first_state, keyed, blake2s}
use Rattle.b2s_mac.specs.Hmac.{hmac}

pub length-word_bytes : (ws : List ℕ) → length (word_bytes ws) ≡ 4 * length ws
unfolding word_bytes
length-word_bytes [] = refl
length-word_bytes (w ∷ ws) =
    let here : length (to_le_bytes w32 w) ≡ 4 = refl in
    omega (arith, length-append (to_le_bytes w32 w) (word_bytes ws), here, length-word_bytes ws)

length-compress : (h b : List ℕ) (t : ℕ) (last : Bool) → length (compress h b t last) ≡ 8
unfolding compress joined
length-compress h b t last = refl

length-final_state : (h d : List ℕ) → length (final_state h d) ≡ 8
unfolding final_state
length-final_state h d = length-compress _ _ _ _

-- a digest has the length that was asked for
pub length-blake2s : (key : List ℕ) (n : ℕ) (m : List ℕ) → n ≤ 32 → length (blake2s key n m) ≡ n
unfolding blake2s
length-blake2s key n m fits =
    let state : List ℕ = final_state (first_state (length key) n) (keyed key m) in
    length-take-le n (word_bytes state) (omega (
      arith,
      length-word_bytes state,
      length-final_state (first_state (length key) n) (keyed key m),
    ))

-- a code has 32 bytes
pub length-hmac : (key m : List ℕ) → length (hmac key m) ≡ 32
unfolding hmac
length-hmac key m = length-blake2s [] 32 _ (omega arith)
