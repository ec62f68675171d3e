-- The state that a server begins with whose bindings are kept.
use Rattle.std.specs.Prelude.{◌≡◌, List, [], ◌∷◌, map}
use Rattle.ac_world.specs.Worlds.{beginning}
use Rattle.hub_machine.specs.State.{State, opening}
use Rattle.hub_machine.specs.Machine.{step}
use Rattle.hub_machine.specs.Replays.{replay}
use Rattle.hub_machine.specs.declared.steps.Step.{Step}
use Rattle.hub_machine.specs.declared.steps.Step.TheVariants.{Bind}
use Rattle.hub_machine.specs.declared.steps.Reply.TheVariants.{Taken}
use Rattle.hub_laws.specs.Laws.{AreAllowed}
use Rattle.gk_sturdy.specs.declared.bound.Binding.{Binding}
use Rattle.kp_keeper.specs.declared.records.Record.{Record}
use Rattle.kp_bound.specs.Bound.{AreBindingsOf}

-- each of them is bound, in order
abbrev pub steps_of : List Binding → List Step
steps_of bs = map Bind bs

-- the hub takes each step
abbrev pub AreTaken : State → List Step → Type 0
AreTaken s [] = Unit {0}
AreTaken s (e ∷ es) = ((step s e).reply ≡ Taken) × AreTaken (step s e).state es

-- the state without a schema at its beginning, but that these references are bound
abbrev pub bound_with : List Binding → State
bound_with bs = record (opening []) { world = record (beginning []) { bindings = bs } }

-- from the state without a schema on, each record's binding is bound, in order, by steps that met their condition and
-- were taken; and nothing else has changed
pub record IsConfiguredBy (rs : List Record) (s : State) : Type 0 where
  pub bindings : List Binding
  pub of_records : AreBindingsOf rs bindings
  pub allowed : AreAllowed (opening []) (steps_of bindings)
  pub taken : AreTaken (opening []) (steps_of bindings)
  pub replayed : s ≡ replay [] (steps_of bindings)
  pub exactly : s ≡ bound_with bindings
