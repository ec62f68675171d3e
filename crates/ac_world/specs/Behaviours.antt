-- What a system actor does by what it has got: what it wants, and to whom messages go. There are three kinds of system
-- actors. A dataspace is told of by `ds_space`, and a watcher by `ac_watch`; the gatekeeper answers those who resolve
-- signed references. Syndicate Protocol, "dataspaces" and "gatekeeper".
use Rattle.std.specs.Prelude.{ℕ, zero, suc, ◌-◌, ◌^◌, min, List, [], Bool, false, ◌&&◌, Option, Some, None, codes}
use Rattle.std.specs.Prelude.{option_map}
use Rattle.std.specs.List.{filter}
use Rattle.pv_value.specs.Plain.{Plain, symbol, record_of, no_more, then_more}
use Rattle.pv_value.specs.Order.{order}
use Rattle.pv_value.specs.Sets.{ascending_by}
use Rattle.pv_words.specs.Words.{is_word}
use Rattle.ps_schema.specs.declared.Definition.{Definition}
use Rattle.ds_space.specs.Wants.{wants, wanted_weight, is_observer}
use Rattle.ds_space.specs.declared.space.Fanned.{Fanned}
use Rattle.ds_space.specs.Fans.{fan_of, weight_of_fanned}
use Rattle.gk_sturdy.specs.declared.bound.Binding.{Binding}
use Rattle.gk_sturdy.specs.Answers.{reply_to}
use Rattle.ac_watch.specs.Watching.{watcher_keys, watcher_weight, value_at}
use Rattle.ac_world.specs.Aims.{Aim, aim_for, aim_of, observation_of}
use Rattle.ac_world.specs.Watchers.{Watched, Task, task_at}

-- for the values that an actor has got
pub record Behaviour : Type 0 where
  -- what guards judge by in the references through which it sends
  pub schema : List Definition
  -- the keys of what it wants, ascending, each once
  pub keys : List Plain → List Plain
  -- the group of a key, for which its row has a facet of its own; none where it stands in facet 0
  pub group : Plain → Option Plain
  -- what arrives of what a key wants, and at which object
  pub aim : Plain → Option Aim
  -- what all that it wants weighs, as far as that is limited
  pub weight : List Plain → ℕ
  -- to whom a message goes
  pub fan : List Plain → Plain → List Fanned

-- what goes to all of them weighs so much; the sum ends at the greatest 64-bit number
abbrev pub fanned_weight : List Fanned → ℕ
fanned_weight fs = min (weight_of_fanned fs) (2 ^ 64 - 1)

-- ---- a dataspace

abbrev pub dataspace : List Definition → Behaviour
dataspace ds = record {
  schema = ds;
  keys = wants;
  group = observation_of;
  aim = aim_of ds;
  weight = wanted_weight;
  fan = fan_of;
}

-- ---- the gatekeeper

-- `<resolve s #:r>`, where r names an actor numbered 9 or more
abbrev pub asks : Plain → Bool
asks (record_of (symbol l) (then_more s (then_more r no_more))) = is_word l (codes "resolve") && is_observer r
asks v = false

-- the reply to s, for the object that r names
abbrev pub answer_for : List Definition → List Binding → Plain → Option Aim
answer_for ds bs (record_of l (then_more s rest)) = aim_for ds (reply_to bs s) (record_of l (then_more s rest))
answer_for ds bs v = None

-- each distinct value that asks is a key; what is wanted isn't limited, and messages are dropped
abbrev pub gatekeeper : List Definition → List Binding → Behaviour
gatekeeper ds bs = record {
  schema = ds;
  keys = λ vs. ascending_by order (filter asks vs);
  group = λ k. None;
  aim = answer_for ds bs;
  weight = λ vs. 0;
  fan = λ vs m. [];
}

-- ---- a watcher

-- what is wanted under a key is asserted at a dataspace itself
abbrev pub aim_in : Task → Plain → Option Aim
aim_in task k =
    option_map (λ v. record { at = record { actor = task.to; entity = 0 }; value = v }) (value_at task.name k)

-- a key `[c i]` is of the group of the captures c; messages are dropped
abbrev pub watcher : List Definition → Task → Behaviour
watcher ds task = record {
  schema = ds;
  keys = watcher_keys task.name;
  group = observation_of;
  aim = aim_in task;
  weight = watcher_weight task.name;
  fan = λ vs m. [];
}

-- ---- the actors

-- one with a task is a watcher, and one without is a dataspace
abbrev pub other : List Definition → Option Task → Behaviour
other ds None = dataspace ds
other ds (Some task) = watcher ds task

-- where guards judge by this schema, these references are bound, and these watchers were made: actor 0 is the gatekeeper
abbrev pub behaviour_of : List Definition → List Binding → List Watched → ℕ → Behaviour
behaviour_of ds bs ws zero = gatekeeper ds bs
behaviour_of ds bs ws (suc a) = other ds (task_at (suc a) ws)
