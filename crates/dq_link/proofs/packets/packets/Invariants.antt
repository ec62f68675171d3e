use Rattle.std.proofs.Common.{◌≡◌, ◌≤◌, length}
use Rattle.out_ports.specs.Dialled.{IsDialled, ToldLink}
use Rattle.dq_link.specs.Asked.{RestStays, rest_of}
use Rattle.dq_link.specs.Going.{IsGoing, OnlySaid}
use Rattle.dq_link.proofs.packets.packets.Given as goal

-- some packets were taken
abbrev pub invariant-loop-next : goal.invariant-loop-next
invariant-loop-next g l =
    let before : ToldLink = g.H.Listen.link l.initial.host in
    let now : ToldLink = g.H.Listen.link l.host in
    record {
      goes : IsGoing l.initial.asker l.initial.received.stream l.asker l.received.stream
          (g.O.Sink.held l.initial.out) (g.O.Sink.held l.out) before.said.held now.said.held;
      count : l.received.count ≡ l.initial.received.count;
      dialled : IsDialled now;
      only : OnlySaid before now;
      lasting : g.O.Sink.faults l.initial.out ≤ g.O.Sink.faults l.out;
      unfinished : g.O.Sink.finishes l.out ≡ g.O.Sink.finishes l.initial.out;
      rest : RestStays
          (rest_of (g.H.Listen.files l.initial.host) (g.H.Listen.address l.initial.host)
          (g.H.Listen.closed l.initial.host) (g.H.Listen.gave l.initial.host) (g.H.Listen.stops l.initial.host)
          (g.H.Listen.file_faults l.initial.host) (g.H.Listen.port_faults l.initial.host)
          (g.H.Listen.faults l.initial.host))
          (rest_of (g.H.Listen.files l.host) (g.H.Listen.address l.host) (g.H.Listen.closed l.host)
          (g.H.Listen.gave l.host) (g.H.Listen.stops l.host) (g.H.Listen.file_faults l.host)
          (g.H.Listen.port_faults l.host) (g.H.Listen.faults l.host));
    }

abbrev pub decreases-loop-next : goal.decreases-loop-next
decreases-loop-next g l = length l.received.stream.rest
