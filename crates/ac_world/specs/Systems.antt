-- What becomes of an event at a system actor, however it keeps what it has got.
use Rattle.std.specs.Prelude.{◌≡◌, ℕ, ◌<◌, ◌≤◌, List}
use Rattle.pv_value.specs.Plain.{Plain}
use Rattle.ds_space.specs.Limits.{most_wanted_weight}
use Rattle.ds_space.specs.Spaces.{Rows, IsAppliedWith}
use Rattle.ds_space.specs.Changes.{changes}
use Rattle.ds_space.specs.declared.space.SpaceEvent.{SpaceEvent}
use Rattle.ds_space.specs.declared.space.Applied.{Applied}
use Rattle.ds_space.specs.declared.space.Fan.{Fan}
use Rattle.ds_space.specs.declared.space.Fan.TheVariants as fan
use Rattle.ac_world.specs.Behaviours.{Behaviour, fanned_weight}

-- the behaviour stays
abbrev pub IsAppliedBy : {S : Type 0} → (S → Rows) → (S → Behaviour) → Behaviour → Rows → SpaceEvent → Applied S
    → Type 0
IsAppliedBy rows_of behaviour y old e applied =
    IsAppliedWith rows_of (λ s. behaviour s ≡ y) (λ before after cs. cs ≡ changes (y.keys before) (y.keys after)) y.weight
    old e applied

-- to whom a message goes over these values, or that it would weigh more than may be
abbrev pub IsFanBy : Behaviour → List Plain → Plain → Fan → Type 0
IsFanBy y vs m (fan.Each list) = (list.items ≡ y.fan vs m) × (fanned_weight (y.fan vs m) ≤ most_wanted_weight)
IsFanBy y vs m (fan.Over w) = (most_wanted_weight < w) × (w ≡ fanned_weight (y.fan vs m))
