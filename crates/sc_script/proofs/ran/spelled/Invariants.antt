use Rattle.std.proofs.Common.{◌≡◌, take}
use Rattle.sc_script.specs.Runs.{spelled}
use Rattle.sc_script.proofs.ran.spelled.Given as goal

abbrev pub invariant-loop-packet : goal.invariant-loop-packet
invariant-loop-packet l = l.bytes.items ≡ spelled (take l.packet-index l.packets)
