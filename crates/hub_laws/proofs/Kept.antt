-- What the proofs of the laws keep of a state, and of a turn in the making.
use Rattle.std.proofs.Common.{◌≡◌, ◌≢◌, ℕ, ◌+◌, ◌<◌, ◌≤◌, List, [], ◌∷◌, ◌++◌, Bool, true, false, Option, Some, None}
use Rattle.std.proofs.Common.{◌⊎◌, ◌==◌}
use Rattle.std.specs.List.{AllByRecursion, list_any}
use Rattle.std.specs.List.Sorted.{IsStrictlySortedBy}
use Rattle.std.specs.Map.{keys_of}
use Rattle.std.specs.Ordering.{nat_cmp}
use Rattle.pv_value.specs.Plain.{Plain}
use Rattle.pv_value.specs.WellFormed.{Ascend}
use Rattle.ds_space.specs.Spaces.{Rows}
use Rattle.ds_space.specs.Changes.{among}
use Rattle.ac_table.specs.declared.batches.Row.{Row}
use Rattle.ac_table.specs.declared.batches.Event.{Event}
use Rattle.ac_table.specs.declared.batches.Event.TheVariants.{Assert, Retract, Message, Sync}
use Rattle.ac_table.specs.declared.batches.Batch.{Batch}
use Rattle.ac_table.specs.Tables.{TableState, Actor, IsTable, find_actor, find_row, is_live}
use Rattle.ac_world.specs.declared.spreads.Spread.{Spread}
use Rattle.ac_world.specs.Outboxes.{Plan, told_to}
use Rattle.ac_world.specs.Behaviours.{Behaviour, behaviour_of}
use Rattle.ac_world.specs.Turns.{Turning}
use Rattle.ac_world.specs.declared.watched.Watched.{Watched}
use Rattle.ac_world.specs.Watchers.{next_watcher, watcher_of}
use Rattle.ac_world.specs.Worlds.{WorldState, resident_of, held_by, entry_of, is_system, actor_of}
use Rattle.ac_world.specs.Lemmas.Entries.{KeysAscend}
use Rattle.ac_world.specs.declared.aims.Aim.{Aim}
use Rattle.hub_machine.specs.State.{State}
use Rattle.rl_ports.specs.Ports.{PortsState}
use Rattle.hub_laws.specs.Standing.{stands, took_all, events_of, value_alone, at_object}
use Rattle.hub_laws.specs.Wanting.{IsMet}

-- ---- lists by handle

-- the handles of the assertions among events, in order
abbrev pub made_by : Event → List ℕ
made_by (Assert h entity v) = h ∷ []
made_by (Retract h entity) = []
made_by (Message entity v) = []
made_by (Sync entity peer) = []

abbrev pub made_in : List Event → List ℕ
made_in [] = []
made_in (e ∷ es) = made_by e ++ made_in es

-- the handles that an actor has got, and then those of its inbox, ascend, and are below the next one
abbrev pub IsLog : ℕ → List ℕ → List Batch → Type 0
IsLog next got inbox =
    IsStrictlySortedBy nat_cmp (got ++ made_in (events_of inbox))
    × AllByRecursion (λ h. h < next) (got ++ made_in (events_of inbox))

-- ---- what may be missing of what stands

abbrev pub is_in : List ℕ → ℕ → Bool
is_in ends a = list_any (λ b. b == a) ends

-- the row has gone, or its owner is to end
abbrev pub IsExcused : List ℕ → Option Row → Type 0
IsExcused ends None = Unit {0}
IsExcused ends (Some r) = is_in ends r.owner ≡ true

-- what is kept is what should be, but for handles that are excused
pub record IsNear {X : Type 0} (ends : List ℕ) (rows : List Row) (should kept : List (ℕ × X)) : Type 0 where
  pub should_ascends : KeysAscend should
  pub kept_ascends : KeysAscend kept
  pub near : (h : ℕ) → (entry_of h kept ≡ entry_of h should) ⊎
      ((entry_of h kept ≡ None) × IsExcused ends (find_row h rows))

-- ---- whom rows and events reach

-- the gatekeeper and the dataspaces make no row at one of them, and watchers make theirs at dataspaces
pub record Reaches (a b : ℕ) : Type 0 where
  pub far : a < 9 → 9 ≤ b
  pub near : 9 ≤ a → a < 17 → (1 ≤ b) × (b < 9)

abbrev pub IsGood : Row → Type 0
IsGood r = Reaches r.owner r.target

-- where the row of an assertion that waits for actor a still stands, who made the batch owns it, and a is its target
abbrev pub IsOwnedBy : ℕ → ℕ → Option Row → Type 0
IsOwnedBy from a None = Unit {0}
IsOwnedBy from a (Some r) = (r.owner ≡ from) × (r.target ≡ a)

-- of rows of the system's actors the gatekeeper isn't told
abbrev pub Spares : ℕ → ℕ → Type 0
Spares from a = from < 17 → 1 ≤ a

abbrev pub FitsEvent : List Row → ℕ → ℕ → Event → Type 0
FitsEvent rows a from (Assert h entity v) = IsOwnedBy from a (find_row h rows) × Spares from a
FitsEvent rows a from (Retract h entity) = Spares from a
FitsEvent rows a from (Message entity v) = Unit {0}
FitsEvent rows a from (Sync entity peer) = Unit {0}

abbrev pub FitsBatch : List Row → ℕ → Batch → Type 0
FitsBatch rows a b = AllByRecursion (FitsEvent rows a b.from) b.events

-- an event that tells of a row
abbrev pub IsOfRow : Event → Type 0
IsOfRow (Assert h entity v) = Unit {0}
IsOfRow (Retract h entity) = Unit {0}
IsOfRow (Message entity v) = ⊥
IsOfRow (Sync entity peer) = ⊥

-- ---- what is known of each behaviour

-- actor a may make a row for what the key wants, where it gets through
abbrev pub IsAimed : Behaviour → ℕ → Plain → Type 0
IsAimed y a k = (aim : Aim) → y.aim k ≡ Some aim → Reaches a aim.at.actor

-- the keys ascend, there are none of nothing, and actor a may make a row for each
pub record IsLawful (y : Behaviour) (a : ℕ) : Type 0 where
  pub ascend : (vs : List Plain) → Ascend (y.keys vs)
  pub nothing : y.keys [] ≡ []
  pub aimed : (vs : List Plain) (k : Plain) → among k (y.keys vs) ≡ true → IsAimed y a k

-- ---- a turn in the making: the plan of actor a, begun over the table t

pub record Moves (a : ℕ) (t : TableState) (p : Plan) : Type 1 where
  pub table : IsTable p.table
  pub actors : p.table.actors ≡ t.actors
  pub later : t.next ≤ p.table.next
  -- rows of others stay, and what is new is the actor's own
  pub stay : (h : ℕ) (r : Row) → find_row h t.rows ≡ Some r → r.owner ≢ a → find_row h p.table.rows ≡ Some r
  pub old : (h : ℕ) (r : Row) → find_row h p.table.rows ≡ Some r
      → (find_row h t.rows ≡ Some r) ⊎ ((t.next ≤ h) × (r.owner ≡ a))
  pub out_ascends : KeysAscend p.out
  -- what each target is told leads from what stood at it to what stands at it
  pub moved : {X : Type 0} (f : ℕ → Plain → X) (b : ℕ)
      → took_all f (told_to b p.out) (stands f b t.rows) ≡ stands f b p.table.rows
  -- the assertions that a target is told ascend, from the old next handle to the new one
  pub made_ascend : (b : ℕ) → IsStrictlySortedBy nat_cmp (made_in (told_to b p.out))
  pub made_new : (b : ℕ) → AllByRecursion (λ h. (t.next ≤ h) × (h < p.table.next)) (made_in (told_to b p.out))

-- each row is good, and each event that is told fits
pub record AreGood (a : ℕ) (p : Plan) : Type 0 where
  pub rows : AllByRecursion IsGood p.table.rows
  pub told : (b : ℕ) → AllByRecursion (FitsEvent p.table.rows b a) (told_to b p.out)

-- ---- a system actor's turn so far: full is what it would have got if nothing were passed over

abbrev pub actors_in : List Spread → List ℕ
actors_in [] = []
actors_in (x ∷ xs) = x.actor ∷ actors_in xs

pub record Runs (y : Behaviour) (o : Option Watched) (a : ℕ) (t : TableState) (full : Rows) (u : Turning) : Type 1
  where
    pub moves : Moves a t u.plan
    pub good : AreGood a u.plan
    pub met : IsMet y o a u.resident u.plan.table.rows
    pub near : is_in (actors_in u.spreads) a ≡ false → IsNear (actors_in u.spreads) t.rows full u.resident.got
    pub ends : AllByRecursion (λ c. (9 ≤ c) × (is_live c t ≡ true)) (actors_in u.spreads)

-- ---- a state; ends are the actors that are still to end in this step

-- what the actor a has got, followed by its inbox, is near what stands at it
pub record IsServedBy {X : Type 0} (f : ℕ → Plain → X) (ends : List ℕ) (rows : List Row) (next a : ℕ)
    (got : List (ℕ × X)) (inbox : List Batch) : Type 0 where
  pub near : is_in ends a ≡ false → IsNear ends rows (stands f a rows) (took_all f (events_of inbox) got)
  pub log : IsLog next (keys_of got) inbox
  pub fits : AllByRecursion (FitsBatch rows a) inbox

abbrev pub IsServed : List ℕ → ℕ → List Batch → WorldState → Bool → Type 0
IsServed ends a inbox w true =
    IsServedBy value_alone ends w.table.rows w.table.next a (resident_of a w).got inbox
IsServed ends a inbox w false =
    IsServedBy at_object ends w.table.rows w.table.next a (held_by a w) inbox

-- what a watcher watches and asserts at are dataspaces
pub record IsWatch (x : Watched) : Type 0 where
  pub from : (1 ≤ x.from) × (x.from < 9)
  pub to : (1 ≤ x.to) × (x.to < 9)

-- nothing waits for the gatekeeper, and all that waits tells of rows
pub record AreQuiet (actors : List Actor) : Type 0 where
  pub none : (x : Actor) → find_actor 0 actors ≡ Some x → events_of x.inbox ≡ []
  pub of_rows : (a : ℕ) (x : Actor) → find_actor a actors ≡ Some x → AllByRecursion IsOfRow (events_of x.inbox)

-- before the first connection comes the gatekeeper has got nothing either
pub record IsFresh (w : WorldState) : Type 0 where
  pub got : (resident_of 0 w).got ≡ []
  pub inboxes : AreQuiet w.table.actors

-- the wants of actor a are met over these rows
abbrev pub IsMetIn : WorldState → List Row → ℕ → Type 0
IsMetIn w rows a = IsMet (behaviour_of w.schema w.bindings w.watches a) (watcher_of a w.watches) a (resident_of a w) rows

pub record IsSound (ends : List ℕ) (w : WorldState) : Type 0 where
  pub table : IsTable w.table
  pub always : (a : ℕ) → a < 9 → is_live a w.table ≡ true
  pub watchers : (a : ℕ) → a < 17 → is_live a w.table ≡ true → a < next_watcher w.watches
  pub watches : AllByRecursion IsWatch w.watches
  pub numbers : (a : ℕ) → is_live a w.table ≡ true → a ≤ 16 + w.opened
  pub rows : AllByRecursion IsGood w.table.rows
  pub served : (a : ℕ) (x : Actor) → find_actor a w.table.actors ≡ Some x → IsServed ends a x.inbox w (is_system a)
  pub met : (a : ℕ) → a < 17 → is_live a w.table ≡ true → IsMetIn w w.table.rows a
  pub fresh : w.opened ≡ 0 → IsFresh w
  -- nothing is kept of who isn't live, and nothing was delivered to it, nor to a system actor
  pub residents_ascend : KeysAscend w.residents
  pub unkept : (a : ℕ) → is_live a w.table ≡ false → entry_of a w.residents ≡ None
  pub held_ascends : KeysAscend w.held
  pub unheld : (a : ℕ) → is_live a w.table ≡ false → entry_of a w.held ≡ None
  pub system_unheld : (a : ℕ) → a < 17 → entry_of a w.held ≡ None

-- and the hub: it knows the names of exactly the live connections, whose numbers begin at 1
pub record IsHub (ends : List ℕ) (s : State) : Type 0 where
  pub sound : IsSound ends s.world
  pub named : (k : ℕ) → 1 ≤ k → is_live (actor_of k) s.world.table ≡ true
      → (p : PortsState) × (entry_of k s.connections ≡ Some p)
  pub nameless : (k : ℕ) → is_live (actor_of k) s.world.table ≡ false → entry_of k s.connections ≡ None
  pub first : entry_of 0 s.connections ≡ None
  pub names_ascend : KeysAscend s.connections
