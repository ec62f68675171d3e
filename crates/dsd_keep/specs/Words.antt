-- Which words ask something of a file: `bindings FILE add OID KEY SPACE CAVEAT..`, `bindings FILE list` and
-- `bindings FILE revoke OID`.
use Rattle.std.specs.Prelude.{ℕ, List, [], ◌∷◌, length, codes, nat_le, if◌then◌else◌}
use Rattle.std.specs.Prelude.{Option, Some, None}
use Rattle.std.specs.Str.{bytes_eq}
use Rattle.dsd_top.specs.Limits.{most_caveats}
use Rattle.dsd_keep.specs.Asked.{Adding, Revoking}
use Rattle.dsd_keep.specs.declared.words.Asked.{Asked}
use Rattle.dsd_keep.specs.declared.words.Asked.TheVariants.{Add, List as Lists, Revoke}

-- what is asked, and of which file
pub record Asking : Type 0 where
  pub file : List ℕ
  pub asked : Asked

-- what `add` asks with an oid, a key, a dataspace and at most 32 caveats
abbrev pub add_of : List ℕ → List ℕ → List ℕ → List (List ℕ) → Option Asked
add_of oid key space caveats =
    if nat_le (length caveats) most_caveats
    then Some (Add (record { oid = oid; key = key; space = space; caveats = caveats }))
    else None

-- what a word asks with those behind it
abbrev pub asked_of : List ℕ → List (List ℕ) → Option Asked
asked_of verb [] = if bytes_eq verb (codes "list") then Some Lists else None
asked_of verb (oid ∷ []) =
    if bytes_eq verb (codes "revoke") then Some (Revoke (record { oid = oid })) else None
asked_of verb (oid ∷ key ∷ []) = None
asked_of verb (oid ∷ key ∷ space ∷ caveats) =
    if bytes_eq verb (codes "add") then add_of oid key space caveats else None

abbrev pub asked_in : List ℕ → Option Asked → Option Asking
asked_in file None = None
asked_in file (Some asked) = Some (record { file = file; asked = asked })

-- what the words ask, and of which file
abbrev pub asking_of : List (List ℕ) → Option Asking
asking_of (w ∷ file ∷ verb ∷ rest) =
    if bytes_eq w (codes "bindings") then asked_in file (asked_of verb rest) else None
asking_of words = None
