-- A pass that was split off has done nothing.
use Rattle.std.proofs.Common.{◌≡◌, ℕ, suc, ◌==◌, Bool, true, false, List, [], ◌∷◌, cond, refl, sym, ◌∙◌}
use Rattle.turn_gate.specs.declared.view.Entry.{Entry}
use Rattle.turn_gate.specs.declared.view.View.{View}
use Rattle.turn_gate.specs.History.{places_from, pairs_of}
use Rattle.turn_gate.specs.Passes.{own_pairs, IsChild}

module _ {S R : Type 0} where
  none_by : (n : ℕ) (e : Entry S R) (es : List (Entry S R)) (k : ℕ) (b : Bool)
      → cond b (k ∷ places_from n es (suc k)) (places_from n es (suc k)) ≡ []
      → (places_from n es (suc k) ≡ [] → pairs_of n es ≡ [])
      → cond b ((e.step, e.reply) ∷ pairs_of n es) (pairs_of n es) ≡ []
  none_by n e es k true is then = absurd (cc is)
  none_by n e es k false is then = then is

  none : (n : ℕ) (es : List (Entry S R)) (k : ℕ) → places_from n es k ≡ [] → pairs_of n es ≡ []
  none n [] k is = refl
  none n (e ∷ es) k is = none_by n e es k (e.name == n) is (none n es (suc k))

pub nothing_yet : {T S R : Type 0} (v w : View T S R) → IsChild v w → own_pairs w ≡ []
nothing_yet v w child = none w.name w.seen 0 (sym child.own ∙ child.mine)
