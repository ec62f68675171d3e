use Rattle.std.proofs.Common.{◌≡◌, ◌≤◌, ℕ, List, length}
use Rattle.srv_turns.specs.Reading.{AreTaken}
use Rattle.srv_turns.specs.Keeping.{IsReading}
use Rattle.srv_turns.proofs.reader.serve_reader.Given as goal

-- some bytes were taken, and packets of them were read
abbrev pub invariant-loop : goal.invariant-loop
invariant-loop g l = record {
  can : (goal.iterator-loop g).can_next l.iterator';
  finite : (goal.iterator-loop g).is_finite l.iterator';
  reading : (b : List ℕ)
      × AreTaken b (g.R.Source.left l.initial.link) (g.R.Source.left l.link) (g.R.Source.given l.initial.link)
      (g.R.Source.given l.link)
      × (length b ≡ l.received.taken)
      × IsReading l.connection b l.received.stream (g.T.Turns.pairs l.initial.turns) (g.T.Turns.pairs l.turns);
  lasting : g.R.Source.faults l.initial.link ≤ g.R.Source.faults l.link;
}
