use Rattle.std.proofs.Common.{◌≡◌, List}
use Rattle.hub_machine.specs.declared.steps.Reply.{Reply}
use Rattle.srv_turns.specs.Writing.{AreForMoreTurns, AreTurned, spelled_in}
use Rattle.srv_turns.proofs.writer.make_turns.Given as goal

-- turns were made, and all that they sent is gathered
abbrev pub invariant-loop : goal.invariant-loop
invariant-loop g l = record {
  can : (goal.iterator-loop g).can_next l.iterator';
  finite : (goal.iterator-loop g).is_finite l.iterator';
  done : (rs : List Reply) × AreForMoreTurns rs × (l.gathered.items ≡ spelled_in rs)
      × AreTurned l.connection rs (g.T.Turns.pairs l.initial.turns) (g.T.Turns.pairs l.turns);
}
