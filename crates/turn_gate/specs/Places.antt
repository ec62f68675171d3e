-- What the calls beneath the public ones say of a pass as the table sees it. For proofs alone.
use Rattle.std.specs.Prelude.{◌≡◌, ◌⊎◌, ◌≤◌, true, false, [], ◌∷◌, length, Some}
use mathlib.Core.List.{IsPrefix}
use Rattle.atomic_table.specs.declared.shared.Seat.{Seat}
use Rattle.turn_gate.specs.declared.view.View.{View}
use Rattle.turn_gate.specs.declared.view.Has.TheVariants.{Nothing, Value, Mark}
use Rattle.turn_gate.specs.declared.view.Held.{Held}
use Rattle.turn_gate.specs.declared.view.Held.TheVariants as held
use Rattle.turn_gate.specs.declared.gate.GateFault.TheVariants as fault
use Rattle.turn_gate.specs.declared.gate.Noted.{Noted}
use Rattle.turn_gate.specs.declared.gate.Noted.TheVariants as noted
use Rattle.turn_gate.specs.History.{after}
use Rattle.turn_gate.specs.Passes.{Stood, Failed, Committed}
use Rattle.turn_gate.specs.Table.{Us}

module _ {T S R : Type 0} where
  abbrev pub place_view : Seat (Held T S) (View T S R) → View T S R
  place_view p = p.me.0

  -- the pass has nothing of the slot, and a name, and was opened with this value
  pub record IsFreeAt (t : T) (p : Seat (Held T S) (View T S R)) : Type 0 where
    pub empty : p.me.1 ≡ []
    pub idle : p.me.0.has ≡ Nothing
    pub named : p.me.0.named ≡ true
    pub opened : p.me.0.opening ≡ Some t

module _ {T S R : Type 0} (next : T → S → T × R) (t : T) where
  -- the pass has the slot, which holds the mark now, and this is the value
  pub record HasOut (m : Us T S R) (x : T) : Type 0 where
    pub has : m.0.has ≡ Value
    pub slot : m.1 ≡ (0, held.Mark) ∷ []
    pub value : x ≡ after next t m.0.base
    pub named : m.0.named ≡ true
    pub opened : m.0.opening ≡ Some t
    pub begins : IsPrefix m.0.seen m.0.base
    pub low : m.0.floor ≤ length m.0.base
    pub kept : m.0.lost ≡ false

  -- and this step is to be done
  pub record Holds (m : Us T S R) (x : T) (s : S) : Type 0 where
    pub out : HasOut m x
    pub ask : m.0.ask ≡ Some s

  -- the pass has the slot, and the value was given up
  pub record HasMark (m : Us T S R) : Type 0 where
    pub has : (m.0.has ≡ Value) ⊎ (m.0.has ≡ Mark)
    pub slot : m.1 ≡ (0, held.Mark) ∷ []
    pub named : m.0.named ≡ true
    pub opened : m.0.opening ≡ Some t

  -- what became of the step: it was noted, and so many steps stand with it, as many steps stand as a gate takes, or it
  -- found no memory
  abbrev pub HasNoted : Us T S R → S → Noted T R → Us T S R → Type 0
  HasNoted m s (noted.Done x r n) m' = Committed next t m.0 s r m'.0 × HasOut m' x × (n ≡ length m'.0.seen)
  HasNoted m s (noted.Full x) m' = Failed m.0 fault.Spent m'.0 × HasOut m' x
  HasNoted m s noted.Lost m' = Stood m.0 m'.0 × (m.0.floor ≤ m'.0.floor) × HasMark m'
