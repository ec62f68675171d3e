use Rattle.std.proofs.Common.{◌≡◌, ◌≤◌, List}
use Rattle.out_ports.specs.Ports.{Appends}
use Rattle.hub_machine.specs.declared.steps.Reply.{Reply}
use Rattle.srv_turns.specs.Writing.{AreForMoreTurns, AreTurned, spelled_in}
use Rattle.srv_turns.proofs.writer.put_turns.Given as goal

-- turns were made, and all that they sent is put
abbrev pub invariant-loop : goal.invariant-loop
invariant-loop g l = record {
  can : (goal.iterator-loop g).can_next l.iterator';
  finite : (goal.iterator-loop g).is_finite l.iterator';
  done : (rs : List Reply) × AreForMoreTurns rs
      × AreTurned l.connection rs (g.T.Turns.pairs l.initial.turns) (g.T.Turns.pairs l.turns)
      × Appends (g.W.Sink.held l.initial.link) (g.W.Sink.held l.link) (spelled_in rs);
  lasting : g.W.Sink.faults l.initial.link ≤ g.W.Sink.faults l.link;
  unfinished : g.W.Sink.finishes l.link ≡ g.W.Sink.finishes l.initial.link;
}
