-- The limits on watchers, and on what a system actor keeps of what it has read.
use Rattle.std.specs.Prelude.{ℕ}

-- the most references with caveats; where one more is read, all are forgotten
abbrev pub most_readings : ℕ
most_readings = 64

-- the most watchers
abbrev pub most_watchers : ℕ
most_watchers = 8
