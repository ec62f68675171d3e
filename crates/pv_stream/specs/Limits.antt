-- The limit on values that are read from a stream.
use Rattle.std.specs.Prelude.{ℕ}

-- the most bytes of a value in a stream
abbrev pub most_bytes : ℕ
most_bytes = 262144
