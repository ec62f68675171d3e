-- A packet that is next has a byte at least, and no more than are left.
use Rattle.std.proofs.Common.{◌≡◌, ℕ, suc, ◌<◌, ◌≤◌, List, length, drop, arith, length-drop}
use Rattle.pv_binary.specs.Lemmas.Begins.{begins_some}
use Rattle.pv_stream.specs.Lemmas.Longer.{value_fits}
use Rattle.rl_packet.specs.declared.packets.Packet.{Packet}
use Rattle.rl_stream.specs.Nexts.{IsNext, front_of}
use Rattle.rl_stream.specs.declared.nexts.Next.TheVariants.{Whole}

pub whole_fits : (rest : List ℕ) (place size : ℕ) (p : Packet) → IsNext rest place (Whole p size)
    → (1 ≤ size) × (size ≤ length rest)
whole_fits rest place size p h = (begins_some (front_of rest) size h.0 h.1, value_fits rest size h.0 h.1)

-- what is left behind it is shorter
pub less_left : (rest : List ℕ) (place size most m : ℕ) (p : Packet) → IsNext rest place (Whole p size)
    → length rest < most → most ≡ suc m → length (drop size rest) < m
less_left rest place size most m p h l is =
    let fits = whole_fits rest place size p h in
    omega (arith, fits.0, fits.1, l, is, length-drop size rest)
