-- The limit on what a run sends.
use Rattle.std.specs.Prelude.{ℕ}

-- the most bytes of all packets that a script's run sends
abbrev pub most_sent : ℕ
most_sent = 268435456
