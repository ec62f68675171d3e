-- The limit on how many steps a gate takes.
use Rattle.std.specs.Prelude.{ℕ, ◌^◌}

-- the most steps
abbrev pub most_steps : ℕ
most_steps = 2 ^ 62
