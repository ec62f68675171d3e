use Rattle.std.proofs.Common.{length}
use Rattle.sc_script.specs.Runs.{packets_read}
use Rattle.sc_script.proofs.PacketsRead.{ReadsAs}
use Rattle.sc_script.proofs.runs.Run.read_packets.Given as goal

-- the course goes on with the packets that are left
abbrev pub invariant-loop-run : goal.invariant-loop-run
invariant-loop-run g l =
    ReadsAs l.fn.self (λ N. packets_read N l.connection l.fn.stream) l.connection l.stream l.run

abbrev pub decreases-loop-run : goal.decreases-loop-run
decreases-loop-run g l = length l.stream.rest
