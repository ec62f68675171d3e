-- The limit on what a space wants.
use Rattle.std.specs.Prelude.{ℕ}

-- the most that is wanted over a space, and that a message fans out to, by weight
abbrev pub most_wanted_weight : ℕ
most_wanted_weight = 33554432
