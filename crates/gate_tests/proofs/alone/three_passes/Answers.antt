use Rattle.std.proofs.Common.{◌+◌, ℕ, List, [], ◌∷◌, ◌++◌, ap, ◌∙◌}
use Rattle.turn_gate.specs.declared.view.Joined.{Joined}
use Rattle.turn_gate.specs.Gates.{view}
use Rattle.turn_gate.specs.Passes.{caller}
use Rattle.gate_tests.proofs.Families.{two_others}
use Rattle.gate_tests.proofs.alone.three_passes.Goals as goal

pub close-requires-clause-first : goal.close-requires-clause-first
close-requires-clause-first g c = let u = c.join-2.ensures.both in let t = c.join.ensures.both in
    let third = c.answer.ensures.same in let first = c.answer-2.ensures.same in
    let second = c.answer-3.ensures.same in
    let f = c.in-Ok.ensures.first in let one = c.split.ensures.same in let two = c.split-2.ensures.same in
    let a : Joined ℕ ℕ = caller (view c.answer.new.pass) in let b : Joined ℕ ℕ = caller (view c.answer-3.new.pass) in
    let none = ap (λ (n : ℕ). n + 1) f.kids in let once = ap (λ (n : ℕ). n + 1) (one.kids ∙ none) in (
      u.name ∙ t.name ∙ first.name ∙ two.name ∙ one.name ∙ f.name,
      two_others (view c.join-2.new.pass) a b (u.kids ∙ t.kids ∙ first.kids ∙ two.kids ∙ once)
          (u.joined ∙ ap (λ (l : List (Joined ℕ ℕ)). l ++ b ∷ []) (t.joined
          ∙ ap (λ (l : List (Joined ℕ ℕ)). l ++ a ∷ []) (first.joined ∙ two.joined ∙ one.joined ∙ f.joined)))
          (third.name ∙ c.in-Ok-split-2.ensures.new.name ∙ once) (second.name ∙ c.in-Ok-split.ensures.new.name ∙ none),
    )
