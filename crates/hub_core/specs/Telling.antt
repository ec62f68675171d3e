-- What a turn takes, and what becomes of the batch.
use Rattle.std.specs.Prelude.{ℕ, ◌^◌, ◌≤◌, [], Option, Some, None}
use Rattle.ac_table.specs.declared.batches.Batch.{Batch}
use Rattle.ac_world.specs.declared.turns.Turned.{Turned}
use Rattle.ac_world.specs.declared.turns.Turned.TheVariants.{Ran, Taken, Idle, Gone}
use Rattle.rl_ports.specs.Ports.{PortsState}
use Rattle.hub_machine.specs.declared.faults.Fault.{Fault}
use Rattle.hub_machine.specs.State.{State}
use Rattle.hub_machine.specs.Endings.{departed_for}
use Rattle.hub_machine.specs.Machine.{After, ends, exporting, exports_after, packet_to}
use Rattle.hub_machine.specs.declared.steps.Reply.TheVariants.{Refused}
use Rattle.hub_valid.specs.Validity.{lived, IsValidBatch}

-- a batch that a turn took holds references, and its handles can stand in a packet
abbrev pub IsToldSoundly : Turned → State → Type 0
IsToldSoundly (Taken b) s =
    (s.world.table.next ≤ 2 ^ 63) × IsValidBatch (lived s.world) s.world.table.next b
IsToldSoundly (Ran xs) s = Unit {0}
IsToldSoundly Idle s = Unit {0}
IsToldSoundly Gone s = Unit {0}

-- what becomes of a batch in a state without the connection's names
abbrev pub told_by : Option Fault → ℕ → PortsState → Batch → State → After
told_by (Some f) k ports b s = ends [] (departed_for k f s) (Refused f)
told_by None k ports b s = ends [] (exporting k b ports s) (packet_to (exports_after k b ports) ports.dialect k b)
