-- What the code answers where a packet isn't taken, or a batch not told.
use Rattle.std.specs.Prelude.{◌≡◌, Option, Some}
use Rattle.rl_ports.specs.declared.ports.PortsFault.{PortsFault}
use Rattle.rl_ports.specs.declared.ports.PortsFault.TheVariants as ports
use Rattle.rl_wire.specs.declared.faults.WireFault.{WireFault}
use Rattle.rl_wire.specs.declared.faults.WireFault.TheVariants as wire
use Rattle.hub_machine.specs.declared.faults.Fault.{Fault}
use Rattle.hub_machine.specs.declared.faults.Fault.TheVariants.{UnknownOid, Limit, Overrun}
use Rattle.hub_machine.specs.Admission.{Admitted, refused}
pub use Rattle.hub_packets.specs.declared.refusals.Refusal.{Refusal}
pub use Rattle.hub_packets.specs.declared.refusals.Refusal.TheVariants.{Cause, NoMemory}

abbrev pub of_wire : WireFault → Refusal
of_wire (wire.UnknownOid n) = Cause (UnknownOid n)
of_wire (wire.Limit which n) = Cause (Limit which n)
of_wire wire.NoMemory = NoMemory

abbrev pub of_ports : PortsFault → Refusal
of_ports (ports.Exports n) = Cause (Overrun 3 n)
of_ports (ports.Weight n) = Cause (Overrun 4 n)
of_ports ports.NoMemory = NoMemory

-- what holds of the cause; where memory ran out, nothing is said
abbrev pub IfCause : Refusal → (Fault → Type 0) → Type 0
IfCause (Cause f) P = P f
IfCause NoMemory P = Unit {0}

-- it is for a cause, of which this holds
abbrev pub IsCauseAnd : Refusal → (Fault → Type 0) → Type 0
IsCauseAnd (Cause f) P = P f
IsCauseAnd NoMemory P = ⊥

abbrev pub IsWhyRefused : Option Fault → Refusal → Type 0
IsWhyRefused why r = IfCause r (λ f. why ≡ Some f)

abbrev pub IsRefusedFor : Admitted → Refusal → Type 0
IsRefusedFor x r = IfCause r (λ f. x ≡ refused f)
