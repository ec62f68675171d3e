-- The limit on what `query` takes.
use Rattle.std.specs.Prelude.{ℕ}

-- the most lines that are asked for
abbrev pub most_lines : ℕ
most_lines = 1000000
