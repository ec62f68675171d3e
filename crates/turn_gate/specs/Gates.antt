-- A gate and its passes, as callers see them.
use Rattle.std.specs.Prelude.{◌≡◌, Some}
use Rattle.turn_gate.specs.declared.replayed.Replayed.{Ghosts}
use Rattle.turn_gate.specs.declared.view.View.{View}
use Rattle.turn_gate.specs.declared.gate.Gate.{Gate}
use Rattle.turn_gate.specs.declared.gate.Pass.{Pass}

-- the value that the gate was opened with
abbrev pub opening_of : {T S R : Type 0} → Gate T S R → T
opening_of gate = gate.table.shared.key.value

module _ {T S R : Type 0} {g : Ghosts T S R} where
  -- what the pass has seen and done
  abbrev pub view : Pass T S R g → View T S R
  view p = p.seat.me.0

  -- the pass is one of this gate
  pub record IsPassOf (gate : Gate T S R) (p : Pass T S R g) : Type 0 where
    pub place : p.seat.table_id ≡ gate.table.shared.table_id
    pub opened : p.seat.me.0.opening ≡ Some gate.table.shared.key.value
