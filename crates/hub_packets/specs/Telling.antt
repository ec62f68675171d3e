-- Why references can't all be exported.
use Rattle.std.specs.Prelude.{List, Option, option_and_then}
use Rattle.pv_value.specs.Plain.{Plain}
use Rattle.rl_ports.specs.Ports.{PortsState}
use Rattle.rl_wire.specs.Crossing.{fault_out}
use Rattle.hub_machine.specs.declared.faults.Fault.{Fault}
use Rattle.hub_machine.specs.Machine.{overrun_by}

abbrev pub export_cause : List Plain → PortsState → Option Fault
export_cause rs ports = option_and_then overrun_by (fault_out ports.exports rs)
