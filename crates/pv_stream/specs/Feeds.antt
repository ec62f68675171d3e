-- What was pushed of a stream, as far as it isn't given yet.
use Rattle.std.specs.Prelude.{ℕ, ◌+◌, ◌++◌, List, [], drop}

-- the bytes that are left, and how many of the stream's bytes stand before them
pub record FeedState : Type 0 where
  pub left : List ℕ
  pub before : ℕ

abbrev pub no_bytes : FeedState
no_bytes = record { left = []; before = 0 }

-- more bytes come
abbrev pub with_bytes : List ℕ → FeedState → FeedState
with_bytes b f = record { left = f.left ++ b; before = f.before }

-- so many bytes are given
abbrev pub given : ℕ → FeedState → FeedState
given n f = record { left = drop n f.left; before = f.before + n }
