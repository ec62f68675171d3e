use Rattle.std.proofs.Common.{length, take, ◌-◌, ◌≡◌, ◌≤◌}
use Rattle.out_ports.specs.Ports.{Appends}
use Rattle.out_ports.proofs.streams.write_all.Given as goal

-- the front of the bytes is written
abbrev pub invariant-loop-at : goal.invariant-loop-at
invariant-loop-at g l = record {
  in_range : l.at ≤ length l.bytes;
  written : Appends (g.O.Sink.held l.initial.sink) (g.O.Sink.held l.sink) (take l.at l.bytes);
  lasting : g.O.Sink.faults l.initial.sink ≤ g.O.Sink.faults l.sink;
  unfinished : g.O.Sink.finishes l.sink ≡ g.O.Sink.finishes l.initial.sink;
}

abbrev pub decreases-loop-at : goal.decreases-loop-at
decreases-loop-at g l = length l.bytes - l.at
