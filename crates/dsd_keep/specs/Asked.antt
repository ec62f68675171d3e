-- What stands behind `add` and `revoke`, as bytes.
use Rattle.std.specs.Prelude.{ℕ, List}

-- behind `add`: an oid, a key, a dataspace and caveats
pub record Adding : Type 0 where
  pub oid : List ℕ
  pub key : List ℕ
  pub space : List ℕ
  pub caveats : List (List ℕ)

-- behind `revoke`
pub record Revoking : Type 0 where
  pub oid : List ℕ
