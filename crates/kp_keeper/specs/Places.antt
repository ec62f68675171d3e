-- Where the record of an oid stands among records that ascend, or is to be put.
use Rattle.std.specs.Prelude.{◌≡◌, ℕ, ◌<◌, ◌≤◌, true, false, List, length}
use Rattle.std.specs.List.{insert, remove}
use Rattle.kp_keeper.specs.Records.{Record, Ascend, is_kept, with_record, without}

-- it stands at i
pub record IsThere (oid : List ℕ) (rs : List Record) (i : ℕ) : Type 0 where
  pub below : i < length rs
  pub kept : is_kept oid rs ≡ true
  pub others : without oid rs ≡ remove rs i
  pub ascend : Ascend (remove rs i)

-- it stands nowhere, and one of this oid is to be put in at i
pub record IsGap (oid : List ℕ) (rs : List Record) (i : ℕ) : Type 0 where
  pub within : i ≤ length rs
  pub free : is_kept oid rs ≡ false
  pub same : without oid rs ≡ rs
  pub filled : (r : Record) → r.oid ≡ oid → with_record r rs ≡ insert rs i r
  pub ascend : (r : Record) → r.oid ≡ oid → Ascend (insert rs i r)
