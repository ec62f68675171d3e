-- The limits on what a script holds.
use Rattle.std.specs.Prelude.{ℕ}

-- the most bytes of an input
abbrev pub most_input : ℕ
most_input = 67108864

-- the most turns of one drain
abbrev pub most_drain : ℕ
most_drain = 1000000
