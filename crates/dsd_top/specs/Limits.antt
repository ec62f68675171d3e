-- The limits on what words ask for, and on files.
use Rattle.std.specs.Prelude.{ℕ}

-- the most bytes of a file
abbrev pub most_file : ℕ
most_file = 1048576

-- the most bytes of a key
abbrev pub most_key : ℕ
most_key = 64

-- the most caveats that `mint` takes
abbrev pub most_caveats : ℕ
most_caveats = 32
