use Rattle.std.proofs.Common.{length, take, ◌-◌, ◌≡◌, ◌≤◌}
use Rattle.out_ports.specs.Ports.{Appends}
use Rattle.out_ports.specs.Dialled.{IsDialled, ToldLink, OnlySaying}
use Rattle.out_ports.proofs.streams.say_all.Given as goal

-- the front of the bytes is said, and all else stands
abbrev pub invariant-loop-at : goal.invariant-loop-at
invariant-loop-at g l =
    let before : ToldLink = g.H.Listen.link l.initial.host in
    let now : ToldLink = g.H.Listen.link l.host in
    record {
      in_range : l.at ≤ length l.bytes;
      written : Appends before.said.held now.said.held (take l.at l.bytes);
      lasting : before.said.faults ≤ now.said.faults;
      dialled : IsDialled now;
      rest : OnlySaying before now;
      same_files : g.H.Listen.files l.host ≡ g.H.Listen.files l.initial.host;
      place : g.H.Listen.address l.host ≡ g.H.Listen.address l.initial.host;
      same_closed : g.H.Listen.closed l.host ≡ g.H.Listen.closed l.initial.host;
      links : g.H.Listen.gave l.host ≡ g.H.Listen.gave l.initial.host;
      ends : g.H.Listen.stops l.host ≡ g.H.Listen.stops l.initial.host;
      file_lasting : g.H.Listen.file_faults l.initial.host ≤ g.H.Listen.file_faults l.host;
      port_lasting : g.H.Listen.port_faults l.initial.host ≤ g.H.Listen.port_faults l.host;
      accept_lasting : g.H.Listen.faults l.initial.host ≤ g.H.Listen.faults l.host;
    }

abbrev pub decreases-loop-at : goal.decreases-loop-at
decreases-loop-at g l = length l.bytes - l.at
