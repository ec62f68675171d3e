-- The limit on how deep a value nests that is read.
use Rattle.std.specs.Prelude.{ℕ}

-- the most levels, in a text those of annotations too
abbrev pub read_depth : ℕ
read_depth = 64
