-- References that were read, each kept by its value.
use Rattle.std.specs.Prelude.{◌≡◌, ◌<◌, List, length, Option, Some}
use Rattle.std.specs.Map.{lookup}
use Rattle.std.specs.BTreeMap.{is_at}
use Rattle.pv_value.specs.Plain.{Plain}
use Rattle.pv_value.specs.Order.{order}
use Rattle.sr_caveat.specs.Caps.{Cap, cap_of}
use Rattle.ac_world.specs.Limits.{most_readings}

-- each is what its value is read as
abbrev pub AreRead : List (Plain × Option Cap) → Type 0
AreRead es = (v : Plain) (c : Option Cap) → lookup (is_at (order v)) es ≡ Some c → c ≡ cap_of v

-- there is room for one more
abbrev pub HaveRoom : List (Plain × Option Cap) → Type 0
HaveRoom es = (length es < most_readings) × AreRead es
