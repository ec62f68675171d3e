use Rattle.std.proofs.Common.{◌≡◌, length, refl}
use Rattle.b2s_mac.specs.Blake2s.{blake2s, final_state, first_state, keyed}
use Rattle.b2s_mac.proofs.Absorbing.{Holds-final, Holds-out_len}
use Rattle.b2s_mac.proofs.hashing.Blake2s.finish.Goals as goal

pub returns : goal.returns
unfolding blake2s
returns c = λ key m n held.
    let s = c.args.self in
    let state : c.compress.new.h ≡ final_state (first_state (length key) n) (keyed key m) =
    Holds-final s key m c.padded-last.result c.compress.new.h n held s.held_fits c.padded-last.ensures
    c.compress.ensures in
    let out : s.out_len ≡ n = Holds-out_len s key m n held in
    rw (c.cut.ensures, c.word_bytes.ensures, state, out) refl
