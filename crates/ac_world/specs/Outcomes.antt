-- What became of an event at a system actor that stays where it is.
use Rattle.ds_space.specs.declared.space.Applied.{Applied}
use Rattle.ds_space.specs.declared.space.Applied.TheVariants as applied
use Rattle.ac_world.specs.declared.systems.Outcome.{Outcome}
use Rattle.ac_world.specs.declared.systems.Outcome.TheVariants.{Done, Over}

-- the same of one that goes by value
abbrev pub outcome_at : {S : Type 0} → S → Outcome → Applied S
outcome_at s (Done changes) = applied.Done s changes
outcome_at s (Over weight) = applied.Over s weight
