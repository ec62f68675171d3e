use Rattle.std.proofs.Common.{◌≡◌, List, ◌++◌}
use Rattle.hub_machine.specs.declared.steps.Reply.{Reply}
use Rattle.srv_turns.specs.Rounds.{worked}
use Rattle.srv_turns.specs.Working.{AreForMoreWork}
use Rattle.srv_turns.proofs.worker.work.Given as goal

-- work was done, behind each reply of which a worker goes on
abbrev pub invariant-loop : goal.invariant-loop
invariant-loop g l = record {
  can : (goal.iterator-loop g).can_next l.iterator';
  finite : (goal.iterator-loop g).is_finite l.iterator';
  done : (rs : List Reply) × AreForMoreWork rs
      × (g.T.Turns.pairs l.turns ≡ g.T.Turns.pairs l.initial.turns ++ worked rs);
}
