-- What a clause says of a pass, by its view before a call and after it.
use Rattle.std.specs.Prelude.{◌≡◌, ◌⊎◌, ℕ, ◌+◌, ◌<◌, ◌≤◌, Bool, true, false, ◌||◌, List, [], ◌∷◌, ◌++◌, length, max}
use mathlib.Core.List.{IsPrefix}
use mathlib.Core.Option.{some}
use lib.ListN.{get_elem?}
use Rattle.turn_gate.specs.Limits.{most_steps}
use Rattle.turn_gate.specs.declared.view.Entry.{Entry}
use Rattle.turn_gate.specs.declared.view.Joined.{Joined}
use Rattle.turn_gate.specs.declared.view.View.{View}
use Rattle.turn_gate.specs.declared.gate.GateFault.{GateFault}
use Rattle.turn_gate.specs.declared.gate.GateFault.TheVariants as fault
use Rattle.turn_gate.specs.History.{after, IsLegal, places, pairs_of}

module _ {T S R : Type 0} where
  -- the caller's own steps and their replies, in order
  abbrev pub own_pairs : View T S R → List (S × R)
  own_pairs v = pairs_of v.name v.seen

  -- the pass as a caller: its name, the places of its entries, and its own steps with their replies
  abbrev pub caller : View T S R → Joined S R
  caller v = record { name = v.name; mine = v.mine; pairs = own_pairs v }

  -- the pass that `begin` gives
  pub record IsFirst (v : View T S R) : Type 0 where
    pub name : v.name ≡ 0
    pub seen : v.seen ≡ []
    pub mine : v.mine ≡ []
    pub floor : v.floor ≡ 0
    pub lost : v.lost ≡ false
    pub kids : v.kids ≡ 0
    pub joined : v.joined ≡ []

  -- its name stands, and who was split from it and joined into it
  pub record IsSame (v w : View T S R) : Type 0 where
    pub name : w.name ≡ v.name
    pub kids : w.kids ≡ v.kids
    pub joined : w.joined ≡ v.joined

  -- no step was added to what it has seen
  pub record Stood (v w : View T S R) : Type 0 where
    pub same : IsSame v w
    pub seen : w.seen ≡ v.seen
    pub mine : w.mine ≡ v.mine

  -- why no step was done: as many stand as a gate takes, or there was no memory, at this step or an earlier one
  abbrev pub FaultFits : View T S R → View T S R → GateFault → Type 0
  FaultFits v w fault.Spent = (w.floor ≡ most_steps) × (v.lost ≡ false) × (w.lost ≡ false)
  FaultFits v w fault.NoMemory = (v.floor ≤ w.floor) × (w.lost ≡ true)

  -- no step was done
  pub record Failed (v : View T S R) (e : GateFault) (w : View T S R) : Type 0 where
    pub stood : Stood v w
    pub why : FaultFits v w e

  -- one pass more was split from it, and all else of it stands
  pub record HasOneMore (v w : View T S R) : Type 0 where
    pub kids : w.kids ≡ v.kids + 1
    pub name : w.name ≡ v.name
    pub seen : w.seen ≡ v.seen
    pub mine : w.mine ≡ v.mine
    pub floor : w.floor ≡ v.floor
    pub lost : w.lost ≡ v.lost
    pub joined : w.joined ≡ v.joined

  -- a new pass, which has seen as much
  pub record IsChild (v : View T S R) (w : View T S R) : Type 0 where
    pub name : w.name ≡ v.kids + 1
    pub seen : w.seen ≡ v.seen
    pub floor : w.floor ≡ v.floor
    pub lost : w.lost ≡ v.lost
    pub mine : w.mine ≡ []
    pub kids : w.kids ≡ 0
    pub joined : w.joined ≡ []
    pub own : w.mine ≡ places w.name w.seen

  -- the longer of the two lists was kept, and the other pass is among those joined. Both callers' entries stand in it
  -- at their places
  pub record IsUnion (v : View T S R) (w : View T S R) (u : View T S R) : Type 0 where
    pub seen : ((u.seen ≡ w.seen) × IsPrefix v.seen w.seen) ⊎ ((u.seen ≡ v.seen) × IsPrefix w.seen v.seen)
    pub floor : u.floor ≡ max v.floor w.floor
    pub name : u.name ≡ v.name
    pub kids : u.kids ≡ v.kids
    pub mine : u.mine ≡ v.mine
    pub lost : u.lost ≡ (v.lost || w.lost)
    pub joined : u.joined ≡ v.joined ++ caller w ∷ []
    pub own : u.mine ≡ places u.name u.seen
    pub other : w.mine ≡ places w.name u.seen

  -- each pass that was split from it was joined into it
  abbrev pub HasAll : View T S R → Type 0
  HasAll v = (n : ℕ) → 0 < n → n ≤ v.kids → (q : ℕ) × (j : Joined S R) × (get_elem? v.joined q ≡ some j) × (j.name ≡ n)

  -- the pass and those joined into it
  abbrev pub callers : View T S R → List (Joined S R)
  callers v = caller v ∷ v.joined

  -- what it has seen is made of the steps of its callers: each caller has a name of its own, its entries are those of
  -- this name,
  -- its steps with their replies are those that it got, in its order, and each entry is some caller's
  pub record IsWhole (v : View T S R) : Type 0 where
    pub once : (q r : ℕ) (c d : Joined S R) → get_elem? (callers v) q ≡ some c → get_elem? (callers v) r ≡ some d
        → c.name ≡ d.name → q ≡ r
    pub mine : (q : ℕ) (c : Joined S R) → get_elem? (callers v) q ≡ some c → c.mine ≡ places c.name v.seen
    pub pairs : (q : ℕ) (c : Joined S R) → get_elem? (callers v) q ≡ some c → c.pairs ≡ pairs_of c.name v.seen
    pub all : (p : ℕ) (e : Entry S R) → get_elem? v.seen p ≡ some e → (q : ℕ) × (c : Joined S R)
        × (get_elem? (callers v) q ≡ some c) × (c.name ≡ e.name)

module _ {T S R : Type 0} (next : T → S → T × R) (t : T) where
  -- the step was added at the end of a legal history, with its reply
  pub record Committed (v : View T S R) (s : S) (r : R) (w : View T S R) : Type 0 where
    pub same : IsSame v w
    pub before : List (Entry S R)
    pub begins : IsPrefix v.seen before
    pub beyond : v.floor ≤ length before
    pub ends : w.seen ≡ before ++ record { name = v.name; step = s; reply = r } ∷ []
    pub added : w.mine ≡ v.mine ++ length before ∷ []
    pub mine : w.mine ≡ places v.name w.seen
    pub legal : IsLegal next t w.seen
    pub floor : w.floor ≡ length w.seen
    pub short : w.floor ≤ most_steps
    pub kept : (v.lost ≡ false) × (w.lost ≡ false)

  -- no step was added to what it has seen. Where the value wasn't given up, the answer is that of the value which some
  -- legal history leaves that begins with what it has seen
  pub record IsAsked (over : T → ℕ → Bool) (v : View T S R) (about : ℕ) (answer : Bool) (w : View T S R) : Type 0 where
    pub stood : Stood v w
    pub floor : w.floor ≡ v.floor
    pub told : ((w.lost ≡ true) × (answer ≡ true))
        ⊎ ((v.lost ≡ false) × (w.lost ≡ false) × ((es : List (Entry S R)) × IsPrefix v.seen es
        × (v.floor ≤ length es) × IsLegal next t es × (answer ≡ over (after next t es) about)))
