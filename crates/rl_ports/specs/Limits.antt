-- The limits on what a connection was told of.
use Rattle.std.specs.Prelude.{ℕ}

-- the most exports of a connection, export 0 among them
abbrev pub most_exports : ℕ
most_exports = 4096

-- the most that these weigh together
abbrev pub most_exports_weight : ℕ
most_exports_weight = 4194304
