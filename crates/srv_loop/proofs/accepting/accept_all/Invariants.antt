use Rattle.std.proofs.Common.{◌≡◌, ◌≤◌, List, true}
use Rattle.out_ports.specs.Ports.{raised, RoseBy}
use Rattle.srv_loop.specs.Links.{Opened, AreLed, AreTaken, jobs_of}
use Rattle.srv_loop.specs.Tallies.{links_of, accepts_of, Counts}
use Rattle.srv_loop.proofs.accepting.accept_all.Given as goal

-- the tally counts what the accepts gave so far, none of which was a stop
abbrev pub invariant-loop : goal.invariant-loop
invariant-loop g l = record {
  accepts : accepts_of l.tally ≡ l.counter;
  stops : g.Li.Listen.stops l.listener ≡ g.Li.Listen.stops l.initial.listener;
  links : RoseBy (links_of l.tally) (g.Li.Listen.gave l.initial.listener) (g.Li.Listen.gave l.listener);
  failed : raised l.tally.failed (g.Li.Listen.faults l.initial.listener) ≤ g.Li.Listen.faults l.listener;
  full : RoseBy l.tally.full (g.D.Desk.deeds l.initial.desk).full (g.D.Desk.deeds l.desk).full;
  unserved : raised l.tally.unserved (g.Sp.Spawner.faults l.initial.spawner) ≤ g.Sp.Spawner.faults l.spawner;
  opened : ((links : List (Opened _)) × Counts links l.tally
      × AreLed g.D.Desk.is_first g.D.Desk.is_second links (g.D.Desk.deeds l.initial.desk) (g.D.Desk.deeds l.desk)
      × AreTaken (jobs_of links) (g.Sp.Spawner.jobs l.initial.spawner) (g.Sp.Spawner.jobs l.spawner)
      (g.Sp.Spawner.took l.initial.spawner) (g.Sp.Spawner.took l.spawner));
  spent : (g.D.Desk.deeds l.initial.desk).spent ≡ true → (g.D.Desk.deeds l.desk).spent ≡ true;
  can_start : (job : g.row.D-Job.Denot) → g.Sp.Spawner.can_start l.spawner job;
  lasting : g.Li.Listen.faults l.initial.listener ≤ g.Li.Listen.faults l.listener;
  spawner_lasting : g.Sp.Spawner.faults l.initial.spawner ≤ g.Sp.Spawner.faults l.spawner;
  place : g.Li.Listen.address l.listener ≡ g.Li.Listen.address l.initial.listener;
  same_files : g.Li.Listen.files l.listener ≡ g.Li.Listen.files l.initial.listener;
  same_file_faults : g.Li.Listen.file_faults l.listener ≡ g.Li.Listen.file_faults l.initial.listener;
  same_port_faults : g.Li.Listen.port_faults l.listener ≡ g.Li.Listen.port_faults l.initial.listener;
  same_link : g.Li.Listen.link l.listener ≡ g.Li.Listen.link l.initial.listener;
}
