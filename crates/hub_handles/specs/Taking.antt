-- What an actor has got once it has taken its turn, all of its first batch in order, and what still waits for it.
use Rattle.std.specs.Prelude.{◌≡◌, ℕ, Bool, true, false, nat_lt, List, [], ◌∷◌, ◌++◌, drop, Some, if◌then◌else◌}
use Rattle.std.specs.Map.{values_of}
use Rattle.ds_space.specs.Limits.{most_wanted_weight}
use Rattle.ds_space.specs.Spaces.{Rows}
use Rattle.ac_table.specs.declared.batches.Batch.{Batch}
use Rattle.ac_table.specs.declared.batches.Event.{Event}
use Rattle.ac_table.specs.declared.batches.Event.TheVariants.{Assert, Retract, Message, Sync}
use Rattle.ac_table.specs.Tables.{Actor, find_actor, is_live, lowest}
use Rattle.ac_world.specs.Behaviours.{Behaviour, behaviour_of}
use Rattle.ac_world.specs.Worlds.{WorldState, resident_of, held_by, is_system, with_entry, without_entry}
use Rattle.ac_world.specs.Worlds.{all_delivered}
use Rattle.hub_machine.specs.State.{State}
use Rattle.hub_machine.specs.Machine.{step}
use Rattle.hub_machine.specs.declared.steps.Step.TheVariants.{Turn, Work}

-- more would be wanted than may be
abbrev pub is_too_much : Behaviour → Rows → Bool
is_too_much y rows = nat_lt most_wanted_weight (y.weight (values_of rows))

-- what a system actor has got after an event more; an assertion with which it would want too much is passed over
abbrev pub got_with : Behaviour → Event → Rows → Rows
got_with y (Assert h entity v) got = if is_too_much y (with_entry h v got) then got else with_entry h v got
got_with y (Retract h entity) got = without_entry h got
got_with y (Message entity v) got = got
got_with y (Sync entity peer) got = got

abbrev pub got_with_all : Behaviour → List Event → Rows → Rows
got_with_all y [] got = got
got_with_all y (e ∷ es) got = got_with_all y es (got_with y e got)

-- what actor a has got in u is what it had in w, and then all of batch b
abbrev pub HasGot : Bool → ℕ → Batch → WorldState → WorldState → Type 0
HasGot true a b w u =
    (resident_of a u).got
    ≡ got_with_all (behaviour_of w.schema w.bindings w.watches a) b.events (resident_of a w).got
HasGot false a b w u = held_by a u ≡ all_delivered b.events (held_by a w)

-- from s to t actor a, where it is still live, has taken its first batch b
pub record HasTaken (a : ℕ) (b : Batch) (s t : State) : Type 0 where
  pub got : is_live a t.world.table ≡ true → HasGot (is_system a) a b s.world t.world
  -- the others wait as they did, and what came since is behind them
  pub rest : (x y : Actor) → find_actor a s.world.table.actors ≡ Some x → find_actor a t.world.table.actors ≡ Some y
      → (came : List Batch) × (y.inbox ≡ drop 1 x.inbox ++ came)

-- in s actor a, whose first batch b is, takes its turn, by itself or as work
pub record TakesAll (a : ℕ) (b : Batch) (s : State) : Type 0 where
  pub turn : HasTaken a b s (step s (Turn a)).state
  pub work : is_system a ≡ true → lowest s.world.table ≡ Some a → HasTaken a b s (step s Work).state
