-- What is asked, and of which file.
use Rattle.std.specs.Prelude.{ℕ, List}
use Rattle.dsd_keep.specs.declared.requests.Action.{Action}

pub record Request : Type 0 where
  pub file : List ℕ
  pub action : Action
