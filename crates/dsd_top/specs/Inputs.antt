-- How much of an input is kept.
use Rattle.std.specs.Prelude.{ℕ, ◌+◌, List, take}
use Rattle.sc_events.specs.Limits.{most_input}

-- as much as decides what comes of all of it: no more than a byte over the most that an input may have
abbrev pub kept_of : List ℕ → List ℕ
kept_of bytes = take (most_input + 1) bytes
