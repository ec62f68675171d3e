-- What commands leave of kept bindings.
use Rattle.std.specs.Prelude.{◌≡◌, ℕ, ◌==◌, Bool, true, false, ◌||◌, ◌&&◌, List, [], ◌∷◌, if◌then◌else◌}
use Rattle.std.specs.Str.{bytes_eq}
use Rattle.kp_keeper.specs.Records.{Record, Ascend, is_kept, with_record, without}

pub data Command : Type 0 where
  add : Record → Command
  revoke : List ℕ → Command
  list : Command

-- a command, and the status at which it ended
pub record Ended : Type 0 where
  pub command : Command
  pub status : ℕ

-- an `add` has kept its record at status 0, and at 4, where its line couldn't be written
abbrev pub has_added : ℕ → Bool
has_added status = (status == 0) || (status == 4)

-- what a command leaves that ended at this status
abbrev pub left_by : Command → ℕ → List Record → List Record
left_by (add r) status rs = if has_added status then with_record r rs else rs
left_by (revoke oid) status rs = if status == 0 then without oid rs else rs
left_by list status rs = rs

-- what is kept after these commands, one after another
abbrev pub After : List Ended → List Record → List Record
After [] rs = rs
After (e ∷ es) rs = After es (left_by e.command e.status rs)

-- ---- the same, of each oid

-- whether an oid is kept after a command, where it was kept before, or wasn't
abbrev pub kept_by : List ℕ → Command → ℕ → Bool → Bool
kept_by oid (add r) status was = if has_added status then bytes_eq r.oid oid || was else was
kept_by oid (revoke o) status was = if (status == 0) && bytes_eq o oid then false else was
kept_by oid list status was = was

-- the last command that did something to the oid decides
abbrev pub kept_after : List ℕ → List Ended → Bool → Bool
kept_after oid [] was = was
kept_after oid (e ∷ es) was = kept_after oid es (kept_by oid e.command e.status was)

-- after commands the records ascend as before, and each oid is kept where the last command on it kept it
abbrev pub CommandsDecide : Type 0
CommandsDecide = (es : List Ended) (rs : List Record) → Ascend rs
    → Ascend (After es rs) × ((oid : List ℕ) → is_kept oid (After es rs) ≡ kept_after oid es (is_kept oid rs))
