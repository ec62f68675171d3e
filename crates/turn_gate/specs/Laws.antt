-- Laws of gates over any stepped value.
use Rattle.std.specs.Prelude.{◌≡◌, ℕ, List}
use mathlib.Core.Option.{some}
use lib.ListN.{get_elem?}
use Rattle.atomic_table.specs.Table.{State}
use Rattle.turn_gate.specs.declared.view.Entry.{Entry}
use Rattle.turn_gate.specs.declared.view.Joined.{Joined}
use Rattle.turn_gate.specs.declared.view.View.{View}
use Rattle.turn_gate.specs.declared.view.Held.{Held}
use Rattle.turn_gate.specs.History.{after, IsLegal, one_thread, steps_of, replies_of}
use Rattle.turn_gate.specs.Passes.{callers, IsWhole}
use Rattle.turn_gate.specs.Rule.{IsRuled}
use Rattle.turn_gate.specs.Table.{Kept}

module _ {T S R : Type 0} (next : T → S → T × R) where
  -- what a legal list leaves, and its replies, are what one thread gets that does its steps in their order
  abbrev pub IsOneThreads : Type 0
  IsOneThreads = (t : T) (es : List (Entry S R)) → IsLegal next t es
      → (after next t es, replies_of es) ≡ one_thread next t (steps_of es)

  -- in what a closing pass has seen each entry is at one place of one caller's `mine`, and at no other caller's
  abbrev pub EachStandsOnce : Type 0
  EachStandsOnce = (v : View T S R) → IsWhole v → (p : ℕ) (e : Entry S R) → get_elem? v.seen p ≡ some e
      → (q : ℕ) × (c : Joined S R) × (m : ℕ) × (get_elem? (callers v) q ≡ some c) × (get_elem? c.mine m ≡ some p)
      × ((r : ℕ) (d : Joined S R) (k : ℕ) → get_elem? (callers v) r ≡ some d → get_elem? d.mine k ≡ some p → (q ≡ r)
      × (m ≡ k))

  -- what the table of a gate keeps has the six parts of the rule
  abbrev pub RuleStands : Type 0
  RuleStands = (t : T) (s : State (Held T S) (View T S R)) → Kept next t s → IsRuled next t s
