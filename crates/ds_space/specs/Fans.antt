-- To whom a message goes. Syndicate Protocol, "dataspaces".
use Rattle.std.specs.Prelude.{ℕ, ◌+◌, ◌-◌, ◌^◌, min, List, [], ◌∷◌, Option, Some, None}
use Rattle.std.specs.List.{flat_map}
use Rattle.pv_value.specs.Plain.{Plain, sequence, plains}
use Rattle.pv_value.specs.Order.{order}
use Rattle.pv_value.specs.Sets.{ascending_by}
use Rattle.pv_value.specs.Weight.{weight}
use Rattle.ds_space.specs.Wants.{captured}
pub use Rattle.ds_space.specs.declared.space.Fanned.{Fanned}

abbrev pub fan_for : Plain → Option (List Plain) → List Fanned
fan_for o None = []
fan_for o (Some cs) = record { observe = o; captures = cs } ∷ []

-- each observation among the values that the message matches, ascending, with its captures
abbrev pub fan_of : List Plain → Plain → List Fanned
fan_of vs m = flat_map (λ o. fan_for o (captured o m)) (ascending_by order vs)

abbrev pub weight_of_fanned : List Fanned → ℕ
weight_of_fanned [] = 0
weight_of_fanned (f ∷ fs) = weight (sequence (plains f.captures)) + weight_of_fanned fs

-- the sum ends at the greatest 64-bit number
abbrev pub fan_weight : List Plain → Plain → ℕ
fan_weight vs m = min (weight_of_fanned (fan_of vs m)) (2 ^ 64 - 1)
