-- The facet that is told with a key's handle.
use Rattle.std.proofs.Common.{◌≡◌, ℕ, Option, Some, None, option_and_then, refl, ap, ◌∙◌}
use Rattle.std.specs.BTreeMap.{is_at}
use Rattle.std.specs.Map.{lookup}
use Rattle.pv_value.specs.Plain.{Plain, sequence, then_more}
use Rattle.pv_value.specs.Order.{order}
use Rattle.ac_groups.specs.Groups.{group_of}
use Rattle.ac_world.specs.Aims.{observation_of}
use Rattle.ac_world.specs.Allocating.{Facets}
use Rattle.ac_world.specs.Keeping.{IsToldBy}

first_item : (k : Plain) → group_of k ≡ observation_of k
first_item (sequence (then_more o rest)) = refl
first_item k = refl

-- it is that of its group
pub told_by : (x : Option Plain) (k : Plain) (fs : Facets) (f : Option ℕ)
    → ((g : Plain) → x ≡ Some g → observation_of k ≡ Some g)
    → f ≡ option_and_then (λ o. lookup (is_at (order o)) fs) (group_of k) → IsToldBy x fs f
told_by None k fs f first is = tt
told_by (Some g) k fs f first is =
    is ∙ ap (option_and_then (λ o. lookup (is_at (order o)) fs)) (first_item k ∙ first g refl)
