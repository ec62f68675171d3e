-- The limit on a load.
use Rattle.std.specs.Prelude.{ℕ}

-- the most items of a load
abbrev pub most_items : ℕ
most_items = 20000
