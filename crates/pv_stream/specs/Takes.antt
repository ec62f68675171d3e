-- What comes from a source that is asked once.
use Rattle.std.specs.Prelude.{◌≡◌, ℕ, List, ◌++◌, length, take, Option}
use Rattle.out_ports.specs.Ports.{FitsBuffer, IsTaken}
use Rattle.out_ports.specs.declared.ports.Took.{Took}
use Rattle.out_ports.specs.declared.ports.Took.TheVariants as took
use Rattle.pv_binary.specs.OneOfThree.{AreBytes}

-- the bytes that came, which begin the room, stand behind those before them; where none came, these are as they were
abbrev pub IsFilled : Took → List ℕ → List ℕ → List ℕ → Type 0
IsFilled (took.Some n) room before now = (now ≡ before ++ take n room) × AreBytes (take n room)
IsFilled took.End room before now = now ≡ before
IsFilled took.Failed room before now = now ≡ before

-- a source was asked once, and answered this: what it had left and has, where it tells that, and the bytes behind which
-- those that came were put
pub record IsTakenBehind (t : Took) (left leaves : Option (List ℕ)) (before now : List ℕ) : Type 0 where
  pub room : List ℕ
  pub fits : FitsBuffer t (length room)
  pub taken : IsTaken t room left leaves
  pub filled : IsFilled t room before now
