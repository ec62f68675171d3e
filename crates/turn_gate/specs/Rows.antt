-- A row: the steps that one caller does in one hold of the value, one behind another.
-- Each but the first is the further step of the reply before it.
use Rattle.std.specs.Prelude.{◌≡◌, ℕ, zero, suc, Option, Some, None, Result, MatchResult, List, [], ◌∷◌}
use Rattle.turn_gate.specs.declared.view.View.{View}
use Rattle.turn_gate.specs.declared.gate.GateFault.{GateFault}
use Rattle.turn_gate.specs.Passes.{Failed, Committed}

module _ {S R : Type 0} (further : R → Option S) where
  -- the pairs of a row that goes on to its end, where so many steps may be done and this one comes next: it ends
  -- where no further step comes, or where there is no room for one
  abbrev pub GoesOn : ℕ → Option S → List (S × R) → Type 0
  GoesOn n None ps = ps ≡ []
  GoesOn zero (Some s) ps = ps ≡ []
  GoesOn (suc n) (Some s) [] = ⊥
  GoesOn (suc n) (Some s) (p ∷ ps) = (p.0 ≡ s) × GoesOn n (further p.1) ps

  -- the pairs of a row that stops before a step that was to come
  abbrev pub StopsIn : ℕ → Option S → List (S × R) → Type 0
  StopsIn n None ps = ⊥
  StopsIn zero (Some s) ps = ⊥
  StopsIn (suc n) (Some s) [] = Unit {0}
  StopsIn (suc n) (Some s) (p ∷ ps) = (p.0 ≡ s) × StopsIn n (further p.1) ps

  -- the pairs of a row that begins with this step and has room for so many
  abbrev pub IsRow : ℕ → S → List (S × R) → Type 0
  IsRow n s ps = GoesOn n (Some s) ps

  -- the pairs of a front of such a row, behind which one more step was to come
  abbrev pub IsCutRow : ℕ → S → List (S × R) → Type 0
  IsCutRow n s ps = StopsIn n (Some s) ps

module _ {T S R : Type 0} (next : T → S → T × R) (t : T) where
  -- the pairs were added at the end of a legal history, one after another
  abbrev pub AreCommitted : View T S R → List (S × R) → View T S R → Type 0
  AreCommitted v [] w = w ≡ v
  AreCommitted v (p ∷ ps) w = (u : View T S R) × Committed next t v p.0 p.1 u × AreCommitted u ps w

  -- the pairs were added, and the step behind them wasn't done
  abbrev pub AreCutShort : View T S R → List (S × R) → GateFault → View T S R → Type 0
  AreCutShort v ps e w = (u : View T S R) × AreCommitted v ps u × Failed u e w

  module _ (further : R → Option S) where
    -- these are the pairs of a row with room for so many, or of a front of it behind which a step wasn't done
    abbrev pub HasDone : {X : Type 0} → ℕ → View T S R → S → Result X GateFault → List (S × R) → View T S R → Type 0
    HasDone n v s result ps w = MatchResult result (λ _. IsRow further n s ps × AreCommitted v ps w)
        (λ e. IsCutRow further n s ps × AreCutShort v ps e w)
