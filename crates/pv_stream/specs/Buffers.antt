-- Bytes with room behind them.
use Rattle.std.specs.Prelude.{ℕ, List}

-- the bytes that are left, and those of the room, which mean nothing
pub record BufferState : Type 0 where
  pub held : List ℕ
  pub free : List ℕ
