use Rattle.std.proofs.Common.{◌≡◌, ◌≤◌, length, take}
use Rattle.out_ports.specs.Ports.{Appends}
use Rattle.srv_turns.specs.Gathering.{IsLooked}
use Rattle.srv_turns.proofs.writer.put_all.Given as goal

-- the front of the bytes is put
abbrev pub invariant-loop : goal.invariant-loop
invariant-loop g l = record {
  can : (goal.iterator-loop g).can_next l.iterator';
  finite : (goal.iterator-loop g).is_finite l.iterator';
  in_range : l.at ≤ length l.bytes;
  put : Appends (g.W.Sink.held l.initial.link) (g.W.Sink.held l.link) (take l.at l.bytes);
  lasting : g.W.Sink.faults l.initial.link ≤ g.W.Sink.faults l.link;
  unfinished : g.W.Sink.finishes l.link ≡ g.W.Sink.finishes l.initial.link;
  looked : IsLooked (g.T.Turns.pairs l.initial.turns) (g.T.Turns.pairs l.turns) (g.T.Turns.spent l.initial.turns)
      (g.T.Turns.spent l.turns);
}
