-- What a turn takes and posts: one batch out of its actor's inbox, and at most one to each, behind those that wait; and
-- what is left behind by those who end at the end of its step. Syndicate Protocol, "turns".
use Rattle.std.specs.Prelude.{◌≡◌, ◌≢◌, ℕ, true, false, List, [], ◌∷◌, ◌++◌, map, Option, Some, None, option_map}
use Rattle.std.specs.Prelude.{if◌then◌else◌}
use Rattle.std.specs.List.{AllByRecursion}
use Rattle.ac_table.specs.declared.batches.Event.{Event}
use Rattle.ac_table.specs.declared.batches.Batch.{Batch}
use Rattle.ac_table.specs.Tables.{TableState, Actor, find_actor, is_live, popped}
use Rattle.ac_world.specs.Behaviours.{Behaviour, behaviour_of}
use Rattle.ac_world.specs.Allocating.{AreApart}
use Rattle.ac_world.specs.Outboxes.{told_to}
use Rattle.ac_world.specs.Turns.{Turning, begin_turn, all_turned}
use Rattle.ac_world.specs.Worlds.{WorldState, is_system}
use Rattle.hub_cascade.specs.Sparing.{TakesBack}

-- the batches that wait for an actor, the earliest first, where it is live
abbrev pub inbox_at : ℕ → TableState → Option (List Batch)
inbox_at a t = option_map (λ (x : Actor). x.inbox) (find_actor a t.actors)

-- ---- a turn

-- the world without an actor's first batch
abbrev pub less : ℕ → WorldState → WorldState
less a w = record w { table = popped a w.table }

abbrev pub behaving : ℕ → WorldState → Behaviour
behaving a w = behaviour_of w.schema w.bindings w.watches a

-- a system actor over its first batch d
abbrev pub turning_over : ℕ → Batch → WorldState → Turning
turning_over a d w = all_turned (behaving a w) a d.from d.events (begin_turn a (less a w))

-- what actor b is told in the turn of actor a over its first batch d, in order; by a connection nobody is told anything
abbrev pub told_by : ℕ → Batch → WorldState → ℕ → List Event
told_by a d w b = if is_system a then told_to b (turning_over a d w).plan.out else []

-- an inbox to which these events came: they are one batch, behind those that wait
abbrev pub told_once : ℕ → List Event → List Batch → List Batch
told_once from [] bs = bs
told_once from (e ∷ es) bs = bs ++ record { from = from; events = e ∷ es } ∷ []

-- from w to u actor a has taken d, behind which these batches waited
pub record HasTaken (a : ℕ) (d : Batch) (rest : List Batch) (w u : WorldState) : Type 0 where
  pub own : inbox_at a u.table ≡ Some (told_once a (told_by a d w a) rest)
  -- of nobody else is a batch taken
  pub others : (b : ℕ) → b ≢ a
      → inbox_at b u.table ≡ option_map (told_once a (told_by a d w b)) (inbox_at b w.table)

-- one that isn't live, or for which nothing waits, does nothing
abbrev pub IsTurnOver : ℕ → Option (List Batch) → WorldState → WorldState → Type 0
IsTurnOver a None w u = u ≡ w
IsTurnOver a (Some []) w u = u ≡ w
IsTurnOver a (Some (d ∷ rest)) w u = HasTaken a d rest w u

-- ---- the end of its step

-- a batch of retractions alone, of an actor that was live in w and isn't in u
pub record IsLeft (w u : WorldState) (d : Batch) : Type 0 where
  pub was_live : is_live d.from w.table ≡ true
  pub ended : is_live d.from u.table ≡ false
  pub back : TakesBack d

-- who made each of these batches
abbrev pub makers : List Batch → List ℕ
makers bs = map (λ (d : Batch). d.from) bs

-- in w actor b had the inbox bs but for batches at its end that were left by those who ended, at most one by each
pub record HadBefore (w u : WorldState) (b : ℕ) (bs : List Batch) : Type 0 where
  pub old : List Batch
  pub had : inbox_at b w.table ≡ Some old
  pub came : List Batch
  pub behind : bs ≡ old ++ came
  pub left : AllByRecursion (IsLeft w u) came
  pub once : AreApart (makers came)

-- from w to u nothing becomes of the inboxes of those who are still live but by endings
abbrev pub OnlyEnds : WorldState → WorldState → Type 0
OnlyEnds w u = (b : ℕ) (bs : List Batch) → inbox_at b u.table ≡ Some bs → HadBefore w u b bs
