-- The rule of a gate as its proof carries it, and what each of its steps tells. For proofs alone.
-- Word 0 is the length of the history and word 8 the lock. Slot 0 is at home where the lock is free.
-- Of the other words, by which callers wake one another, the rule says nothing.
use Rattle.std.specs.Prelude.{◌≡◌, ◌≢◌, ◌⊎◌, ℕ, ◌+◌, ◌<◌, ◌≤◌, Bool, true, false, ◌||◌, List, [], ◌∷◌, ◌++◌}
use Rattle.std.specs.Prelude.{length, drop, Option, Some, None, max}
use mathlib.Core.Option.{none, some}
use mathlib.Core.Option as maybe
use mathlib.Core.List.{IsPrefix}
use lib.ListN.{get_elem?}
use Rattle.atomic_table.specs.Table.{State, Me, Step}
use Rattle.turn_gate.specs.Limits.{most_steps}
use Rattle.turn_gate.specs.declared.view.Entry.{Entry}
use Rattle.turn_gate.specs.declared.view.Joined.{Joined}
use Rattle.turn_gate.specs.declared.view.View.{View}
use Rattle.turn_gate.specs.declared.view.Has.{Has}
use Rattle.turn_gate.specs.declared.view.Has.TheVariants.{Nothing, Value, Mark}
use Rattle.turn_gate.specs.declared.view.Held.{Held}
use Rattle.turn_gate.specs.declared.view.Held.TheVariants as held
use Rattle.turn_gate.specs.History.{after, IsLegal, places, pairs_of}

-- who has the slot
pub data Lock : Type 0 where
  free : Lock
  by : ℕ → Lock

abbrev pub lock_word : Lock → ℕ
lock_word free = 0
lock_word (by j) = 1

-- the words: the length of the history and the lock each begin a line of the processor's memory, and what fills the
-- first line up is never touched
abbrev pub words_of : ℕ → ℕ → List ℕ → List ℕ
words_of n lock others = n ∷ 0 ∷ 0 ∷ 0 ∷ 0 ∷ 0 ∷ 0 ∷ 0 ∷ lock ∷ others

-- where a name stands: as the name of the view with this number, or at this place among the joined
pub data Owner : Type 0 where
  nowhere : Owner
  own : ℕ → Owner
  joined_as : ℕ → Owner

-- the longer of two lists of which one begins the other
abbrev pub longer : {A : Type 0} → List A → List A → List A
longer xs ys = xs ++ drop (length xs) ys

-- some view has this property
abbrev pub Among : {V : Type 0} → List V → (V → Type 0) → Type 0
Among {V} views P = (i : ℕ) × (u : V) × (get_elem? views i ≡ some u) × P u

module _ {S R : Type 0} where
  -- what a view that has something knows
  abbrev pub HasFits : List (Entry S R) → Lock → Bool → ℕ → List (Entry S R) → Has → Type 0
  HasFits log lock gone i base Nothing = Unit {0}
  HasFits log lock gone i base Value = (lock ≡ by i) × (base ≡ log) × (gone ≡ false)
  HasFits log lock gone i base Mark = (lock ≡ by i) × (gone ≡ true)

  -- the view number i has this name, and these places are all of its entries. The pass with the name 0 alone has kids
  -- and joined passes
  pub record Named {T : Type 0} (t : T) (log : List (Entry S R)) (owner : ℕ
      → Owner) (kids : ℕ) (joined : List (Joined S R)) (i : ℕ) (opening : Option T) (name : ℕ)
      (seen : List (Entry S R)) (mine : List ℕ) (its_kids : ℕ) (its_joined : List (Joined S R)) : Type 0 where
    pub opened : opening ≡ Some t
    pub owned : owner name ≡ own i
    pub all_mine : mine ≡ places name log
    pub own_seen : mine ≡ places name seen
    pub known : name ≤ kids
    pub first : name ≡ 0 → (its_kids ≡ kids) × (its_joined ≡ joined)
    pub later : name ≢ 0 → (its_kids ≡ 0) × (its_joined ≡ [])

  pub record TookIn (log : List (Entry S R)) (owner : ℕ → Owner) (kids : ℕ) (k : ℕ) (j : Joined S R) : Type 0 where
    pub owned : owner j.name ≡ joined_as k
    pub all_mine : j.mine ≡ places j.name log
    pub all_pairs : j.pairs ≡ pairs_of j.name log
    pub later : 0 < j.name
    pub known : j.name ≤ kids

module _ {T S R : Type 0} where
  abbrev pub first_view : T → View T S R
  first_view t = record {
    opening = Some t;
    named = true;
    name = 0;
    seen = [];
    mine = [];
    floor = 0;
    lost = false;
    kids = 0;
    joined = [];
    has = Nothing;
    base = [];
    ask = None;
  }

  pub record Fits (t : T) (log : List (Entry S R)) (lock : Lock) (gone : Bool) (owner : ℕ
      → Owner) (kids : ℕ) (joined : List (Joined S R)) (i : ℕ) (v : View T S R) : Type 0 where
    pub begins : IsPrefix v.seen log
    pub based : IsPrefix v.base log
    pub low : v.floor ≤ length log
    pub told : v.lost ≡ true → gone ≡ true
    pub hand : HasFits log lock gone i v.base v.has
    pub named : v.named ≡ true → Named t log owner kids joined i v.opening v.name v.seen v.mine v.kids v.joined
    pub spent : v.named ≡ false → (v.seen ≡ []) × (v.lost ≡ false) × (v.has ≡ Nothing)

module _ {T S R : Type 0} where
  -- the name stands in one place: as a view's own, or among the joined
  abbrev pub Stands : List (View T S R) → (ℕ → Owner) → List (Joined S R) → ℕ → Type 0
  Stands views owner joined n = ((i : ℕ) × (u : View T S R) × (owner n ≡ own i) × (get_elem? views i ≡ some u)
      × (u.named ≡ true) × (u.name ≡ n))
      ⊎ ((q : ℕ) × (j : Joined S R) × (owner n ≡ joined_as q) × (get_elem? joined q ≡ some j) × (j.name ≡ n))

module _ {T S R : Type 0} (next : T → S → T × R) where
  abbrev pub resting : T → List (Entry S R) → Bool → Held T S
  resting t log true = held.Mark
  resting t log false = held.Value (after next t log)

  abbrev pub homes_of : T → List (Entry S R) → Bool → Lock → List (maybe.Option (Held T S))
  homes_of t log gone free = some (resting t log gone) ∷ []
  homes_of t log gone (by j) = none ∷ []

  pub record Kept (t : T) (s : State (Held T S) (View T S R)) : Type 0 where
    pub log : List (Entry S R)
    pub lock : Lock
    pub gone : Bool
    pub owner : ℕ → Owner
    pub kids : ℕ
    pub joined : List (Joined S R)
    pub others : List ℕ
    pub words : s.words ≡ words_of (length log) (lock_word lock) others
    pub homes : s.homes ≡ homes_of t log gone lock
    pub short : length log ≤ most_steps
    pub legal : IsLegal next t log
    pub each : (i : ℕ) (v : View T S R) → get_elem? s.views i ≡ some v → Fits t log lock gone owner kids joined i v
    pub names : (p : ℕ) (e : Entry S R) → get_elem? log p ≡ some e → e.name ≤ kids
    pub took_in : (k : ℕ) (j : Joined S R) → get_elem? joined k ≡ some j → TookIn log owner kids k j
    pub placed : (n : ℕ) → n ≤ kids → Stands s.views owner joined n
    pub longest : Among s.views (λ u. u.seen ≡ log)
    pub why : gone ≡ true → Among s.views (λ u. u.lost ≡ true)
    pub holder : (j : ℕ) → lock ≡ by j → (u : View T S R) × (get_elem? s.views j ≡ some u) × (u.has ≢ Nothing)

abbrev pub Us : Type 0 → Type 0 → Type 0 → Type 0
Us T S R = Me (Held T S) (View T S R)

module _ {T S : Type 0} where
  abbrev pub asked : maybe.Option (Held T S) → Option S
  asked none = None
  asked (some (held.Value t)) = None
  asked (some held.Mark) = None
  asked (some (held.Ask s)) = Some s

  abbrev pub lost_after : Held T S → Bool → Bool
  lost_after (held.Value t) b = b
  lost_after held.Mark b = true
  lost_after (held.Ask s) b = b

module _ {T S R : Type 0} where
  abbrev pub taking : View T S R → Has → List (Entry S R) → Option S → View T S R
  taking v has base ask = record v { has = has; base = base; ask = ask }

  abbrev pub asking : View T S R → Option S → View T S R
  asking v ask = record v { ask = ask }

  abbrev pub giving : View T S R → Bool → View T S R
  giving v lost = record v { has = Nothing; lost = lost; base = []; ask = None }

  abbrev pub seeing : View T S R → ℕ → View T S R
  seeing v n = record v { floor = n }

  -- a view is cut in two: the first pass, and a new one
  abbrev pub parent : View T S R → View T S R
  parent v = record v { kids = v.kids + 1 }

  abbrev pub child : View T S R → View T S R
  child v = record {
    opening = v.opening;
    named = true;
    name = v.kids + 1;
    seen = v.seen;
    mine = [];
    floor = v.floor;
    lost = v.lost;
    kids = 0;
    joined = [];
    has = Nothing;
    base = [];
    ask = None;
  }

  -- two views are made one. What the other had seen is kept as the base, for a look to compare
  abbrev pub together : View T S R → View T S R → View T S R
  together v w = record v {
    seen = longer v.seen w.seen;
    floor = max v.floor w.floor;
    lost = v.lost || w.lost;
    joined = v.joined ++ record { name = w.name; mine = w.mine; pairs = pairs_of w.name w.seen } ∷ [];
    base = w.seen;
  }

  abbrev pub nobody : View T S R
  nobody = record {
    opening = None;
    named = false;
    name = 0;
    seen = [];
    mine = [];
    floor = 0;
    lost = false;
    kids = 0;
    joined = [];
    has = Nothing;
    base = [];
    ask = None;
  }

  -- the slot was given back
  abbrev pub gave : Us T S R → Us T S R → Type 0
  gave m m' = (x : Held T S) → m.1 ≡ (0, x) ∷ [] → m' ≡ (giving m.0 (lost_after x m.0.lost), [])

  -- another step is to be done
  abbrev pub again : Step (Held T S) → Us T S R → Us T S R → Type 0
  again st m m' = m' ≡ (asking m.0 (asked st.said), m.1)

  -- so many steps stand
  abbrev pub looked : Us T S R → ℕ → Us T S R → Type 0
  looked m n m' = (m' ≡ (seeing m.0 n, m.1)) × (m.0.floor ≤ n) × (length m.0.seen ≤ n) × (n ≤ most_steps)
      × (m.0.has ≡ Value → n ≡ length m.0.base)

  -- what was seen and the base begin one list, all own entries were seen, and no joined pass has further entries
  abbrev pub compared : Us T S R → Us T S R → Type 0
  compared m m' = (m' ≡ m) × ((log : List (Entry S R)) × IsPrefix m.0.seen log × IsPrefix m.0.base log
      × ((q : ℕ) (j : Joined S R) → m.0.named ≡ true → m.0.name ≡ 0 → get_elem? m.0.joined q ≡ some j
      → j.mine ≡ places j.name log)) × (m.0.named ≡ true → m.0.mine ≡ places m.0.name m.0.seen)

module _ {T S R : Type 0} (next : T → S → T × R) where
  -- the entries are legal, and the value is what they leave of the value that the gate was opened with
  abbrev pub IsAfter : Option T → List (Entry S R) → T → Type 0
  IsAfter opening es y = (t : T) → opening ≡ Some t → (y ≡ after next t es) × IsLegal next t es

  -- the slot was taken, with what it held
  abbrev pub Took : Us T S R → maybe.Option (Held T S) → Us T S R → Type 0
  Took m said m' = (base : List (Entry S R)) × IsPrefix m.0.seen base × (m.0.floor ≤ length base)
      × (((y : T) × (m' ≡ (taking m.0 Value base (asked said), (0, held.Value y) ∷ [])) × IsAfter m.0.opening base y
      × (m.0.lost ≡ false))
      ⊎ (m' ≡ (taking m.0 Mark base (asked said), (0, held.Mark) ∷ [])))

  abbrev pub took : Step (Held T S) → Us T S R → ℕ → Us T S R → Type 0
  took st m r m' = (r ≡ 0 → Took m st.said m') × (r ≢ 0 → m' ≡ m)

  abbrev pub entry_of : T → View T S R → S → Entry S R
  entry_of t v a = record { name = v.name; step = a; reply = (next (after next t v.base) a).1 }

  abbrev pub noting : T → View T S R → S → View T S R
  noting t v a = let es : List (Entry S R) = v.base ++ entry_of t v a ∷ [] in
      record v { seen = es; mine = v.mine ++ length v.base ∷ []; floor = length es; base = es }

  -- the step was noted, at the end of all
  abbrev pub noted : Us T S R → Us T S R → Type 0
  noted m m' = (t : T) (a : S) → m.0.opening ≡ Some t → m.0.ask ≡ Some a → (m' ≡ (noting t m.0 a, m.1))
      × IsLegal next t m'.0.seen × (m'.0.mine ≡ places m.0.name m'.0.seen)

  -- what may be given back
  abbrev pub Ready : T → View T S R → Held T S → Type 0
  Ready t v x = ((v.has ≡ Value) × (x ≡ held.Value (after next t v.base)))
      ⊎ (((v.has ≡ Value) ⊎ (v.has ≡ Mark)) × (x ≡ held.Mark))
