-- A value that is counted already, and is to enter the index.
use Rattle.std.specs.Prelude.{◌≡◌, ◌+◌, Bool, false, List, if◌then◌else◌}
use Rattle.std.specs.BTreeMap as tree
use Rattle.pv_value.specs.Plain.{Plain}
use Rattle.ds_space.specs.Changes.{among}
use Rattle.ds_facts.specs.Keeping.{AreFacts}
use Rattle.ds_skeleton.specs.Places.{count}
use Rattle.ds_skeleton.specs.Indexes.{Index, IsIndex}

-- the index is of the values `others`, which its facts find, and has v counted beside them
pub record Awaits (v : Plain) (others : List Plain) (it : Index) : Type 0 where
  pub more : (f : Plain → Bool) → count f (tree.keys it.values) ≡ count f others + (if f v then 1 else 0)
  pub gone : among v others ≡ false
  pub index : IsIndex others it.shapes.items
  pub facts : AreFacts others it.facts
