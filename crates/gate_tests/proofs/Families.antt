-- A first pass into which one other was joined, or two.
use Rattle.std.proofs.Common.{◌≡◌, [], ◌∷◌, ap, ◌∙◌, sym, arith}
use mathlib.Core.Logic.{dite}
use native.Mathlib.Decide.{ℕ_discrete}
use lib.ListN.{get_elem?}
use Rattle.turn_gate.specs.declared.view.Joined.{Joined}
use Rattle.turn_gate.specs.declared.view.View.{View}
use Rattle.turn_gate.specs.Passes.{HasAll}

module _ {T S R : Type 0} where
  pub one_other : (v : View T S R) (j : Joined S R) → v.kids ≡ 1 → v.joined ≡ j ∷ [] → j.name ≡ 1 → HasAll v
  one_other v j k e n m pos le = let kk : v.kids ≡ 1 = k in (0, j, ap (λ l. get_elem? l 0) e, n ∙ (omega arith))

  pub two_others : (v : View T S R) (a b : Joined S R) → v.kids ≡ 2 → v.joined ≡ a ∷ b ∷ [] → a.name ≡ 2 → b.name ≡ 1
      → HasAll v
  two_others v a b k e na nb m pos le = let kk : v.kids ≡ 2 = k in dite (ℕ_discrete m 1)
      (λ one. (1, b, ap (λ l. get_elem? l 1) e, nb ∙ sym one))
      (λ two. (0, a, ap (λ l. get_elem? l 0) e, na ∙ (omega arith)))
