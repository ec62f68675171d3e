-- The rule of a gate in six parts: what holds of its table between any two steps on it.
-- Word 0 counts the steps and word 8 is the lock. Slot 0 holds the value, or the mark that the value was given up.
-- The other words serve to wake callers, and the rule says nothing of them.
use Rattle.std.specs.Prelude.{◌≡◌, ◌≢◌, ◌⊎◌, ℕ, ◌≤◌, true, false, List, [], ◌∷◌, length}
use mathlib.Core.Option.{none, some}
use mathlib.Core.List.{IsPrefix}
use lib.ListN.{get_elem?}
use Rattle.atomic_table.specs.Table.{State}
use Rattle.turn_gate.specs.declared.view.Entry.{Entry}
use Rattle.turn_gate.specs.declared.view.Joined.{Joined}
use Rattle.turn_gate.specs.declared.view.View.{View}
use Rattle.turn_gate.specs.declared.view.Has.TheVariants.{Nothing, Value}
use Rattle.turn_gate.specs.declared.view.Held.{Held}
use Rattle.turn_gate.specs.declared.view.Held.TheVariants as held
use Rattle.turn_gate.specs.History.{after, IsLegal}
use Rattle.turn_gate.specs.Passes.{caller}

-- where a caller stands: as a view with a name, or at a place among the passes joined into such a view
pub data Spot : Type 0 where
  as_view : ℕ → Spot
  as_joined : ℕ → ℕ → Spot

module _ {T S R : Type 0} where
  abbrev pub StandsAt : List (View T S R) → Spot → Joined S R → Type 0
  StandsAt views (as_view i) c = (u : View T S R) × (get_elem? views i ≡ some u) × (u.named ≡ true) × (caller u ≡ c)
  StandsAt views (as_joined i q) c = (u : View T S R) × (get_elem? views i ≡ some u) × (u.named ≡ true)
      × (get_elem? u.joined q ≡ some c)

  -- the view with this number has a name, the name 0
  abbrev pub IsFirstAt : List (View T S R) → ℕ → View T S R → Type 0
  IsFirstAt views i v = (get_elem? views i ≡ some v) × (v.named ≡ true) × (v.name ≡ 0)

  -- word 8 is 1 where exactly one view has something of the slot, and 0 where none has. The slot is at home exactly
  -- where word 8 is 0
  pub record IsInCustody (s : State (Held T S) (View T S R)) : Type 0 where
    pub lock : (get_elem? s.words 8 ≡ some 0) ⊎ (get_elem? s.words 8 ≡ some 1)
    pub taken : get_elem? s.words 8 ≡ some 1 → (i : ℕ) × (v : View T S R) × (get_elem? s.views i ≡ some v)
        × (v.has ≢ Nothing)
    pub by_one : (i : ℕ) (v : View T S R) → get_elem? s.views i ≡ some v → v.has ≢ Nothing
        → (get_elem? s.words 8 ≡ some 1) × ((j : ℕ) (u : View T S R) → get_elem? s.views j ≡ some u → u.has ≢ Nothing
        → j ≡ i)
    pub home : get_elem? s.words 8 ≡ some 0 → (x : Held T S) × (s.homes ≡ some x ∷ [])
    pub away : get_elem? s.words 8 ≡ some 1 → s.homes ≡ none ∷ []

  -- one view has the name 0, and of those with a name it alone has kids or joined passes. Each name from 0 to its
  -- kids stands at one
  -- spot, and no other name stands anywhere
  pub record AreNamed (views : List (View T S R)) : Type 0 where
    pub place : ℕ
    pub first : View T S R
    pub is : IsFirstAt views place first
    pub alone : (i : ℕ) (v : View T S R) → get_elem? views i ≡ some v → v.named ≡ true → i ≢ place → (v.kids ≡ 0)
        × (v.joined ≡ [])
    pub each : (n : ℕ) → n ≤ first.kids → (w : Spot) × (c : Joined S R) × StandsAt views w c × (c.name ≡ n)
    pub once : (w x : Spot) (c d : Joined S R) → StandsAt views w c → StandsAt views x d → c.name ≡ d.name → w ≡ x
    pub no_other : (w : Spot) (c : Joined S R) → StandsAt views w c → c.name ≤ first.kids

module _ {T S R : Type 0} (next : T → S → T × R) (t : T) (log : List (Entry S R)) where
  -- word 0 is the length of the longest list that a view has seen, which is legal. Every other one begins it. Each of
  -- its places
  -- stands in the `mine` of exactly one caller, whose name the entry there bears
  pub record IsCounted (s : State (Held T S) (View T S R)) : Type 0 where
    pub word : get_elem? s.words 0 ≡ some (length log)
    pub longest : (i : ℕ) × (v : View T S R) × (get_elem? s.views i ≡ some v) × (v.seen ≡ log)
    pub begins : (i : ℕ) (v : View T S R) → get_elem? s.views i ≡ some v → IsPrefix v.seen log
    pub legal : IsLegal next t log
    pub bears : (w : Spot) (c : Joined S R) (m p : ℕ) → StandsAt s.views w c → get_elem? c.mine m ≡ some p
        → (e : Entry S R) × (get_elem? log p ≡ some e) × (e.name ≡ c.name)
    pub one : (p : ℕ) (e : Entry S R) → get_elem? log p ≡ some e → (w : Spot) × (c : Joined S R) × (m : ℕ)
        × StandsAt s.views w c × (get_elem? c.mine m ≡ some p)
        × ((x : Spot) (d : Joined S R) (k : ℕ) → StandsAt s.views x d → get_elem? d.mine k ≡ some p → w ≡ x)

  -- the slot at home holds the mark where some view is lost, and else the value that the longest list leaves
  pub record IsAtHome (s : State (Held T S) (View T S R)) : Type 0 where
    pub mark : (x : Held T S) → s.homes ≡ some x ∷ [] → (i : ℕ) (v : View T S R) → get_elem? s.views i ≡ some v
        → v.lost ≡ true → x ≡ held.Mark
    pub value : (x : Held T S) → s.homes ≡ some x ∷ [] → ((i : ℕ) (v : View T S R) → get_elem? s.views i ≡ some v
        → v.lost ≡ false) → x ≡ held.Value (after next t log)

  -- where a view has the value, its base is the longest list and no view is lost
  abbrev pub HoldersKnow : List (View T S R) → Type 0
  HoldersKnow views = (i : ℕ) (v : View T S R) → get_elem? views i ≡ some v → v.has ≡ Value → (v.base ≡ log)
      × ((j : ℕ) (u : View T S R) → get_elem? views j ≡ some u → u.lost ≡ false)

  -- each floor is at most word 0
  abbrev pub FloorsHold : List (View T S R) → Type 0
  FloorsHold views = (i : ℕ) (v : View T S R) → get_elem? views i ≡ some v → v.floor ≤ length log

-- the six parts, of a gate that was opened with t
pub record IsRuled {T S R : Type 0} (next : T → S → T × R) (t : T) (s : State (Held T S) (View T S R)) : Type 0 where
  pub log : List (Entry S R)
  pub counting : IsCounted next t log s
  pub custody : IsInCustody s
  pub home : IsAtHome next t log s
  pub holder : HoldersKnow next t log s.views
  pub floors : FloorsHold next t log s.views
  pub names : AreNamed s.views
