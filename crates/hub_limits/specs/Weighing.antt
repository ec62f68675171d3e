-- Within a packet: what the limits sum after some of its events is what the rows would weigh that stood then.
use Rattle.std.specs.Prelude.{◌≡◌, ℕ, ◌≤◌, List, Option, Some}
use Rattle.ac_world.specs.Sums.{row_weight}
use Rattle.ac_world.specs.Worlds.{WorldState, actor_of, sent}
use Rattle.rl_packet.specs.declared.packets.Dialect.{Dialect}
use Rattle.rl_packet.specs.declared.packets.TurnEvent.{TurnEvent}
use Rattle.rl_ports.specs.Ports.{PortsState, speaking}
use Rattle.hub_machine.specs.State.{ports_of}
use Rattle.hub_machine.specs.Admission.{Admitting, before_all}
use Rattle.hub_machine.specs.Causes.{after_all, NoneAgainst}
use Rattle.hub_laws.specs.Laws.{AfterAll}

-- in the world w, where connection k does what x says so far; no sum ends at the greatest 64-bit number
pub record AreWeighed (k : ℕ) (w : WorldState) (x : Admitting) : Type 0 where
  pub rows : x.rows ≡ row_weight (actor_of k) (sent (actor_of k) x.acts w)
  pub few : x.rows ≤ 4194304

-- these are the first events of a packet of this dialect, or all, and no cause is against any of them
abbrev pub RowsAreWeighed : Type 0
RowsAreWeighed =
    AfterAll (λ s. (k : ℕ) (ports : PortsState) (d : Option Dialect) (es : List TurnEvent) → ports_of k s ≡ Some ports
    → NoneAgainst k s.world es (before_all k (speaking d ports) s.world)
    → AreWeighed k s.world (after_all k s.world es (before_all k (speaking d ports) s.world)))
