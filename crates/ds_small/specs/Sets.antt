-- How a set is kept.
use Rattle.std.specs.Prelude.{List, [], ◌∷◌}
use Rattle.std.specs.BTreeSet.{BTreeSet}
use Rattle.pv_value.specs.Plain.{Plain}
pub use Rattle.ds_small.specs.declared.set.Keys.{Keys}
pub use Rattle.ds_small.specs.declared.set.Keys.TheVariants as kept
pub use Rattle.ds_small.specs.declared.set.Held.{Held}
pub use Rattle.ds_small.specs.declared.set.Held.TheVariants as held

-- the keys as a set
abbrev pub set_of : Keys → BTreeSet Plain
set_of kept.Nothing = record { keys = [] }
set_of (kept.One v) = record { keys = v ∷ [] }
set_of (kept.Many t) = t

-- the keys as they are shown
abbrev pub held_keys : Held → List Plain
held_keys held.Nothing = []
held_keys (held.One v) = v.now ∷ []
held_keys (held.Many t) = t.now.keys
