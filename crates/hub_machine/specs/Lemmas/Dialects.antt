-- What holds of a packet that is refused for its dialect, and of its events' admission, holds of its admission.
use Rattle.std.proofs.Common.{ℕ, Bool, true, false}
use Rattle.ac_world.specs.Worlds.{WorldState}
use Rattle.rl_packet.specs.declared.packets.Turn.{Turn}
use Rattle.rl_ports.specs.Ports.{PortsState, speaking}
use Rattle.hub_machine.specs.Faults.{BadPacket, where_it_is}
use Rattle.hub_machine.specs.Admission.{Admitted, refused, unless, admission, differ, turn_admission}

pub by_dialect : (P : Admitted → Type 0) (k : ℕ) (ports : PortsState) (w : WorldState) (t : Turn)
    → P (refused BadPacket) → P (admission k (speaking t.dialect ports) w t.events) → P (turn_admission k ports w t)
by_dialect P k ports w t other alike = by (differ t.dialect ports.dialect)
  where
    by : (b : Bool)
        → P (unless (where_it_is b BadPacket) (admission k (speaking t.dialect ports) w t.events))
    by true = other
    by false = alike
