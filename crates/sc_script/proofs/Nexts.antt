-- What is next in a stream is what a decider tells.
use Rattle.std.proofs.Common.{◌≡◌, ℕ, zero, suc, ◌<◌, length, refl, ap, arith}
use Rattle.rl_stream.specs.Nexts.{Decider}
use Rattle.rl_stream.specs.Streams.{StreamState, read_off}
use Rattle.rl_stream.specs.declared.nexts.Next.{Next}
use Rattle.sc_script.specs.Runs.{Running, with_next, all_read}

pub read_first : (N : Decider) (k most : ℕ) (st : StreamState) (r : Running) (x : Next) → length st.rest < most
    → N st.rest st.place ≡ x
    → (m : ℕ) × (most ≡ suc m)
    × (all_read N k most st r ≡ with_next k x st (λ size. all_read N k m (read_off size st)) r)
read_first N k zero st r x l is = absurd (omega (arith, l))
read_first N k (suc m) st r x l is =
    (m, refl, ap (λ y. with_next k y st (λ size. all_read N k m (read_off size st)) r) is)
