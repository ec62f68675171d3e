use Rattle.std.proofs.Common.{◌≡◌, ◌≤◌}
use Rattle.out_real.proofs.links.TcpSinkSink.put.Given as goal

-- no offer so far was taken
abbrev pub invariant-loop : goal.invariant-loop
invariant-loop g l = record {
  finishes : l.self.finishes ≡ l.initial.self.finishes;
  faults : l.initial.self.faults ≤ l.self.faults;
}
