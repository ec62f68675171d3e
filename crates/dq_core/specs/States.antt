-- A client: the pattern that it is to observe, whether the server has answered for the reference, and what the server
-- asserts and hasn't taken back, by its handles, which ascend.
use Rattle.std.specs.Prelude.{ℕ, Bool, List}
use Rattle.pv_value.specs.Plain.{Plain}
use Rattle.dq_core.specs.declared.client.Standing.{Standing}

pub record ClientState : Type 0 where
  pub pattern : Plain
  pub answered : Bool
  pub standing : List (ℕ × Standing)
