-- The first pass of a gate and those that were split from it and aren't joined yet.
use Rattle.std.specs.Prelude.{◌≡◌, ◌≢◌, ◌⊎◌, ℕ, ◌<◌, ◌≤◌, List, [], ◌∷◌}
use mathlib.Core.Option.{some}
use lib.ListN.{get_elem?}
use Rattle.turn_gate.specs.declared.replayed.Replayed.{Ghosts}
use Rattle.turn_gate.specs.declared.view.Joined.{Joined}
use Rattle.turn_gate.specs.declared.view.View.{View}
use Rattle.turn_gate.specs.declared.gate.Gate.{Gate}
use Rattle.turn_gate.specs.declared.gate.Pass.{Pass}
use Rattle.turn_gate.specs.Gates.{view, IsPassOf}

-- a pass of this name was joined into the first
abbrev pub WasJoined : {T S R : Type 0} → ℕ → View T S R → Type 0
WasJoined {T} {S} {R} n v = (q : ℕ) × (j : Joined S R) × (get_elem? v.joined q ≡ some j) × (j.name ≡ n)

module _ {T S R : Type 0} {g : Ghosts T S R} where
  -- they are passes of the gate, and none of them is its first one
  abbrev pub AreOthers : Gate T S R → List (Pass T S R g) → Type 0
  AreOthers gate [] = Unit {0}
  AreOthers gate (p ∷ ps) = IsPassOf gate p × ((view p).name ≢ 0) × AreOthers gate ps

  pub record AreOf (gate : Gate T S R) (p : Pass T S R g) (ps : List (Pass T S R g)) : Type 0 where
    pub first : IsPassOf gate p
    pub name : (view p).name ≡ 0
    pub others : AreOthers gate ps

  -- a pass of this name is among them
  abbrev pub IsAmong : ℕ → List (Pass T S R g) → Type 0
  IsAmong n [] = ⊥
  IsAmong n (p ∷ ps) = ((view p).name ≡ n) ⊎ IsAmong n ps

  -- each pass that was split from the first one is among the others, or was joined into it
  abbrev pub NoneIsLost : View T S R → List (Pass T S R g) → Type 0
  NoneIsLost v others = (n : ℕ) → 0 < n → n ≤ v.kids → IsAmong n others ⊎ WasJoined n v
