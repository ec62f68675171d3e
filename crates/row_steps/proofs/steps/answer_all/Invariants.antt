use Rattle.std.proofs.Common.{◌≡◌, None}
use Rattle.row_steps.specs.Hands.{hand_of}
use Rattle.row_steps.specs.Rows.{AnswersSo}
use Rattle.row_steps.proofs.steps.answer_all.Given as goal

-- so often it is answered so, where nothing differs
abbrev pub invariant-loop : goal.invariant-loop
invariant-loop l =
    l.first ≡ None → AnswersSo l.counter l.case.asked l.case.wanted (hand_of l.initial.machine) (hand_of l.machine)
