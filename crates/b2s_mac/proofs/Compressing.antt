-- A block's words in the order of the schedule, and the count of bytes as the compression reads it.
use Rattle.std.proofs.Common.{◌≡◌, ℕ, ◌/◌, ◌%◌, ◌^◌, Bool, List, [], ◌∷◌, length, map, slice_index, arith, refl}
use Rattle.b2s_mac.specs.Blake2s.{compress, work_vector}

-- sixteen elements, one by one
pub map_sixteen : (m places : List ℕ) → length places ≡ 16
    → slice_index m (slice_index places 0) ∷ slice_index m (slice_index places 1) ∷ slice_index m (slice_index places 2)
    ∷ slice_index m (slice_index places 3)
    ∷ slice_index m (slice_index places 4) ∷ slice_index m (slice_index places 5) ∷ slice_index m (slice_index places 6)
    ∷ slice_index m (slice_index places 7)
    ∷ slice_index m (slice_index places 8) ∷ slice_index m (slice_index places 9)
    ∷ slice_index m (slice_index places 10)
    ∷ slice_index m (slice_index places 11)
    ∷ slice_index m (slice_index places 12) ∷ slice_index m (slice_index places 13)
    ∷ slice_index m (slice_index places 14)
    ∷ slice_index m (slice_index places 15) ∷ []
    ≡ map (λ k. slice_index m k) places
map_sixteen m (a ∷ b ∷ c ∷ d ∷ e ∷ f ∷ g ∷ h ∷ i ∷ j ∷ k ∷ l ∷ n ∷ o ∷ p ∷ q ∷ []) len = refl
map_sixteen m _ len = absurd (omega arith)

-- the compression reads the count modulo 2 ^ 64
pub compress_count : (h b : List ℕ) (count t : ℕ) (last : Bool) → count ≡ t % 2 ^ 64
    → compress h b count last ≡ compress h b t last
unfolding compress work_vector
compress_count h b count t last e =
    let low : count % 2 ^ 32 ≡ t % 2 ^ 32 = omega arith in
    let high : count / 2 ^ 32 % 2 ^ 32 ≡ t / 2 ^ 32 % 2 ^ 32 = omega arith in
    rw (low, high) refl
