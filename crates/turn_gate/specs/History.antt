-- The history of a gate: a list of entries, each with the name of the pass that made it, its step and its reply.
-- What the list leaves of the value that the gate was opened with, when it is legal, and what one caller has in it.
use Rattle.std.specs.Prelude.{◌≡◌, ℕ, suc, ◌==◌, List, [], ◌∷◌, map, cond}
use Rattle.turn_gate.specs.declared.view.Entry.{Entry}

module _ {T S R : Type 0} (next : T → S → T × R) where
  -- the value that the entries leave
  abbrev pub after : T → List (Entry S R) → T
  after t [] = t
  after t (e ∷ es) = after (next t e.step).0 es

  -- each reply is what its step gives at that point
  abbrev pub IsLegal : T → List (Entry S R) → Type 0
  IsLegal t [] = Unit {0}
  IsLegal t (e ∷ es) = (e.reply ≡ (next t e.step).1) × IsLegal (next t e.step).0 es

  -- what one thread gets that does these steps one after another: the value in the end, and the replies
  abbrev pub one_thread : T → List S → T × List R
  one_thread t [] = (t, [])
  one_thread t (s ∷ ss) = ((one_thread (next t s).0 ss).0, (next t s).1 ∷ (one_thread (next t s).0 ss).1)

module _ {S R : Type 0} where
  abbrev pub steps_of : List (Entry S R) → List S
  steps_of es = map (λ (e : Entry S R). e.step) es

  abbrev pub replies_of : List (Entry S R) → List R
  replies_of es = map (λ (e : Entry S R). e.reply) es

  -- the places of the entries with this name, where the first entry has the place k
  abbrev pub places_from : ℕ → List (Entry S R) → ℕ → List ℕ
  places_from n [] k = []
  places_from n (e ∷ es) k = cond (e.name == n) (k ∷ places_from n es (suc k)) (places_from n es (suc k))

  -- the places of the entries with this name
  abbrev pub places : ℕ → List (Entry S R) → List ℕ
  places n es = places_from n es 0

  -- the steps with this name and their replies, in order
  abbrev pub pairs_of : ℕ → List (Entry S R) → List (S × R)
  pairs_of n [] = []
  pairs_of n (e ∷ es) = cond (e.name == n) ((e.step, e.reply) ∷ pairs_of n es) (pairs_of n es)
