-- The limit on what a host gives of a file.
use Rattle.std.specs.Prelude.{ℕ}

-- one byte more than a file may have, so that a longer one is seen to be longer
abbrev pub most_read : ℕ
most_read = 1048577
