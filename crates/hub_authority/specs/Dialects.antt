-- In which dialect a connection speaks: the first turn that is taken and has events fixes it, it stays so while the
-- connection lives, and a packet that is refused fixes none.
use Rattle.std.specs.Prelude.{◌≡◌, ℕ, List, Some, None}
use Rattle.ps_schema.specs.declared.Definition.{Definition}
use Rattle.rl_packet.specs.declared.packets.Dialect.{Dialect}
use Rattle.rl_packet.specs.declared.packets.Turn.{Turn}
use Rattle.rl_ports.specs.Ports.{PortsState}
use Rattle.hub_machine.specs.declared.faults.Fault.{Fault}
use Rattle.hub_machine.specs.State.{State, ports_of}
use Rattle.hub_machine.specs.Machine.{step}
use Rattle.hub_machine.specs.Replays.{run_from, replay}
use Rattle.hub_machine.specs.declared.steps.Step.{Step}
use Rattle.hub_machine.specs.declared.steps.Step.TheVariants.{Packet}
use Rattle.hub_machine.specs.declared.steps.Reply.TheVariants.{Taken, Refused}

-- whatever is done later, a connection that is still live has the dialect that it had
abbrev pub DialectsStay : Type 0
DialectsStay =
    (ds : List Definition) (steps later : List Step) (k : ℕ) (ports after : PortsState) (d : Dialect)
    → ports_of k (replay ds steps) ≡ Some ports → ports.dialect ≡ Some d
    → ports_of k (run_from (replay ds steps) later) ≡ Some after → after.dialect ≡ Some d

-- from any state: a connection that had none has that of the turn
abbrev pub TakenTurnsFix : Type 0
TakenTurnsFix =
    (s : State) (k : ℕ) (t : Turn) (ports after : PortsState) (d : Dialect) → ports_of k s ≡ Some ports
    → ports.dialect ≡ None → t.dialect ≡ Some d → (step s (Packet k t)).reply ≡ Taken
    → ports_of k (step s (Packet k t)).state ≡ Some after → after.dialect ≡ Some d

-- from any state: the connection has ended, and names nothing any more
abbrev pub RefusedFixNone : Type 0
RefusedFixNone =
    (s : State) (k : ℕ) (t : Turn) (f : Fault) → (step s (Packet k t)).reply ≡ Refused f
    → ports_of k (step s (Packet k t)).state ≡ None
