-- What reading gives: an answer, or the first fault from the left and its place.
use Rattle.std.specs.Prelude.{ℕ, Result, Ok, Err}

-- a fault of some kind, and the offset at which it stands
pub record Fault (K : Type 0) : Type 0 where
  pub kind : K
  pub place : ℕ

-- what comes after an answer; a fault stays as it is
infixl 10 ◌>>=◌
abbrev pub ◌>>=◌ : {A B E : Type 0} → Result A E → (A → Result B E) → Result B E
(Ok x) >>= f = f x
(Err e) >>= f = Err e

-- what was found in that which begins at this place
abbrev pub within : {A K : Type 0} → ℕ → Result A K → Result A (Fault K)
within place (Ok x) = Ok x
within place (Err k) = Err (record { kind = k; place = place })
