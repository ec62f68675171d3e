-- A packet that is noted, and a step that is made: what is kept of either, by its parts.
use Rattle.std.proofs.Common.{◌≡◌, ℕ, ◌+◌, ◌≤◌, min, Option, arith}
use Rattle.rl_packet.specs.declared.packets.Packet.{Packet}
use Rattle.hub_machine.specs.Machine.{step}
use Rattle.hub_machine.specs.declared.steps.Step.{Step}
use Rattle.hub_outs.specs.Outs.{kept}
use Rattle.sc_script.specs.Limits.{most_sent}
use Rattle.sc_script.specs.Keeping.{RunState, noted, made, size_of}

pub noted_by : (a : Option ℕ) (p : Packet) (s now : RunState) → now.state ≡ s.state → now.outs ≡ kept a p s.outs
    → now.size ≡ s.size + size_of p → now.streams ≡ s.streams → now ≡ noted a p s
noted_by a p s now by_state by_outs by_size by_streams =
    λ i. record { state = by_state i; outs = by_outs i; size = by_size i; streams = by_streams i }

pub made_by : (e : Step) (s now : RunState) → now.state ≡ (step s.state e).state → now.outs ≡ s.outs
    → now.size ≡ s.size → now.streams ≡ s.streams → now ≡ made e s
made_by e s now by_state by_outs by_size by_streams =
    λ i. record { state = by_state i; outs = by_outs i; size = by_size i; streams = by_streams i }

pub sum_of : {a b m sum : ℕ} (n : ℕ) → a ≡ b → m ≡ min n 18446744073709551615 → sum ≡ min (a + m) 18446744073709551615
    → sum ≤ most_sent → sum ≡ b + n
sum_of n before one is few = omega arith
