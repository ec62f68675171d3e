-- The limits on what `serve` takes.
use Rattle.std.specs.Prelude.{ℕ}

-- the most workers
abbrev pub most_workers : ℕ
most_workers = 16

-- the most links that are accepted
abbrev pub most_links : ℕ
most_links = 1000
