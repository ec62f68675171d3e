use Rattle.std.proofs.Common.{◌≡◌, ◌≤◌}
use Rattle.srv_loop.proofs.accepting.next_answer.Given as goal

-- nobody came so far
abbrev pub invariant-loop : goal.invariant-loop
invariant-loop g l = record {
  links : g.Li.Listen.gave l.listener ≡ g.Li.Listen.gave l.initial.listener;
  ends : g.Li.Listen.stops l.listener ≡ g.Li.Listen.stops l.initial.listener;
  place : g.Li.Listen.address l.listener ≡ g.Li.Listen.address l.initial.listener;
  same_files : g.Li.Listen.files l.listener ≡ g.Li.Listen.files l.initial.listener;
  same_file_faults : g.Li.Listen.file_faults l.listener ≡ g.Li.Listen.file_faults l.initial.listener;
  same_port_faults : g.Li.Listen.port_faults l.listener ≡ g.Li.Listen.port_faults l.initial.listener;
  same_link : g.Li.Listen.link l.listener ≡ g.Li.Listen.link l.initial.listener;
  lasting : g.Li.Listen.faults l.initial.listener ≤ g.Li.Listen.faults l.listener;
}
