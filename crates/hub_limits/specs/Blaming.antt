-- Whom an event of a system actor's turn ends, since more would be wanted or sent than may be. The limit is this
-- server's own.
use Rattle.std.specs.Prelude.{◌≡◌, ◌≢◌, ◌⊎◌, ℕ, ◌<◌, ◌≤◌, true, false, List, [], ◌∷◌, ◌++◌}
use Rattle.std.specs.List.{AllByRecursion}
use Rattle.std.specs.Map.{values_of}
use Rattle.ds_space.specs.Spaces.{has_row}
use Rattle.ac_table.specs.declared.batches.Event.{Event}
use Rattle.ac_table.specs.declared.batches.Event.TheVariants.{Assert, Retract, Message, Sync}
use Rattle.ac_table.specs.Tables.{is_live}
use Rattle.ac_world.specs.declared.spreads.Spread.{Spread}
use Rattle.ac_world.specs.Behaviours.{Behaviour, fanned_weight}
use Rattle.ac_world.specs.Turns.{Turning, turned_by}
use Rattle.ac_world.specs.Worlds.{with_entry}

-- c is to blame for an assertion at actor a in a batch that `from` made: a connection that made it; or else the watcher
-- at which it is; or else, at a dataspace, the watcher that made it
pub data IsToBlame (a from c : ℕ) : Type 0 where
  connection : 17 ≤ from → c ≡ from → IsToBlame a from c
  at_watcher : from < 17 → 9 ≤ a → a < 17 → c ≡ a → IsToBlame a from c
  of_watcher : 9 ≤ from → from < 17 → a < 9 → c ≡ from → IsToBlame a from c

-- an event, with which more than 33,554,432 would be wanted or sent, namely w; and c is to blame. A retraction and a
-- sync are nobody's fault, and for a message only a connection is to blame, never a system actor.
abbrev pub Blames : Behaviour → ℕ → ℕ → Event → Turning → ℕ → ℕ → Type 0
Blames y a from (Assert h entity v) t c w =
    (has_row h t.resident.got ≡ false) × (w ≡ y.weight (values_of (with_entry h v t.resident.got)))
    × (33554432 < w) × IsToBlame a from c
Blames y a from (Retract h entity) t c w = ⊥
Blames y a from (Message entity v) t c w =
    (w ≡ fanned_weight (y.fan (values_of t.resident.got) v)) × (33554432 < w) × (17 ≤ from) × (c ≡ from)
Blames y a from (Sync entity peer) t c w = ⊥

-- c is live, and isn't to end already
abbrev pub MayEnd : ℕ → Turning → Type 0
MayEnd c t = (is_live c t.plan.table ≡ true) × AllByRecursion (λ x. x.actor ≢ c) t.spreads

-- with the event c is to end, by w
abbrev pub Ends : Behaviour → ℕ → ℕ → Event → Turning → ℕ → ℕ → Type 0
Ends y a from e t c w = Blames y a from e t c w × MayEnd c t

-- the event ends nobody
abbrev pub EndsNobody : Behaviour → ℕ → ℕ → Event → Turning → Type 0
EndsNobody y a from e t = (c w : ℕ) → Ends y a from e t c w → ⊥

-- whoever is to end stays so, with its first weight; one comes at most
pub record SpreadsSo (y : Behaviour) (a from : ℕ) (e : Event) (t : Turning) : Type 0 where
  pub one : (c w : ℕ) → Ends y a from e t c w
      → (turned_by y a from e t).spreads ≡ t.spreads ++ record { actor = c; weight = w } ∷ []
  pub none : EndsNobody y a from e t → (turned_by y a from e t).spreads ≡ t.spreads

-- each event in order ends nobody, or the next of xs
abbrev pub AreOfEvents : Behaviour → ℕ → ℕ → List Event → Turning → List Spread → Type 0
AreOfEvents y a from [] t xs = xs ≡ []
AreOfEvents y a from (e ∷ es) t xs =
    (EndsNobody y a from e t × AreOfEvents y a from es (turned_by y a from e t) xs)
    ⊎ ((x : Spread) × (rest : List Spread) × (xs ≡ x ∷ rest) × Ends y a from e t x.actor x.weight
    × AreOfEvents y a from es (turned_by y a from e t) rest)
