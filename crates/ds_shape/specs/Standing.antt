-- What an outline and constants say of a value.
use Rattle.std.specs.Prelude.{◌≡◌, Bool, true, false, ◌&&◌, List, Option, Some, None, if◌then◌else◌}
use Rattle.std.specs.List.{list_all}
use Rattle.pv_value.specs.Plain.{Plain, sequence, plains}
use Rattle.pv_words.specs.Parts.{same}
use Rattle.ds_shape.specs.Paths.{parts_at, sequence_at}
use Rattle.ds_shape.specs.Outlines.{Outline, passes}

-- whether this is what was found
abbrev pub is_found : Plain → Option Plain → Bool
is_found k (Some x) = same k x
is_found k None = false

-- what stands at the capture paths, of a value that passes the tests and has the constants
abbrev pub captured_by : Outline → Plain → Plain → Option (List Plain)
captured_by o k v =
    if list_all (passes v) o.tests && is_found k (sequence_at o.constants v) then parts_at o.captures v else None

-- the value passes the tests, has the constants at their paths, and has these captures at the capture paths, in order
pub record Says (o : Outline) (k v : Plain) (cs : List Plain) : Type 0 where
  pub tests : list_all (passes v) o.tests ≡ true
  pub constants : sequence_at o.constants v ≡ Some k
  pub captures : sequence_at o.captures v ≡ Some (sequence (plains cs))
