-- Words, and what stands behind one.
use Rattle.std.specs.Prelude.{ℕ, List, map, string_bytes}
use Rattle.std.specs.declared.string.String.{String}
use Rattle.std.specs.declared.alloc.Global.{Global}

-- words as their bytes
abbrev pub texts : List (String Global) → List (List ℕ)
texts words = map (λ w. string_bytes w) words

-- behind `check`: a schema's file, and a name of the schema
pub record Checking : Type 0 where
  pub file : List ℕ
  pub name : List ℕ

-- behind `mint`: an oid, a key and caveats
pub record Minting : Type 0 where
  pub oid : List ℕ
  pub key : List ℕ
  pub caveats : List (List ℕ)

-- behind `load`: where the draws of a load begin, and how many items it has
pub record Loading : Type 0 where
  pub start : ℕ
  pub count : ℕ
