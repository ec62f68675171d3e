use Rattle.std.proofs.Common.{List, [], ◌∷◌, ◌++◌, ap, ◌∙◌, ℕ}
use Rattle.turn_gate.specs.declared.view.Joined.{Joined}
use Rattle.turn_gate.specs.Gates.{view}
use Rattle.turn_gate.specs.Passes.{caller}
use Rattle.gate_tests.proofs.Families.{one_other}
use Rattle.gate_tests.proofs.together.closed.Goals as goal

pub close-requires-clause-first : goal.close-requires-clause-first
close-requires-clause-first c = let u = c.join.ensures.both in let a = c.seen.ensures.same.0.same in
    let b = c.seen-2.ensures.same.0.same in let r = c.requires.first in
    let w : Joined ℕ ℕ = caller (view c.seen-2.new.pass) in (
      u.name ∙ a.name ∙ r.0,
      one_other (view c.join.new.pass) w (u.kids ∙ a.kids ∙ r.1) (u.joined
          ∙ ap (λ (l : List (Joined ℕ ℕ)). l ++ w ∷ []) (a.joined ∙ r.2)) (b.name ∙ c.requires.second),
    )
