-- Groups of keys.
use Rattle.std.proofs.Common.{◌≡◌, Option, Some, None}
use Rattle.pv_value.specs.Plain.{Plain}
use Rattle.ac_world.specs.Aims.{observation_of}

-- where no key has a group
pub ungrouped : (k g : Plain) → ◌≡◌ {A = Option Plain} None (Some g) → observation_of k ≡ Some g
ungrouped k g e = absurd cc
