-- What a keeper answers, and what it leaves.
use Rattle.std.specs.Prelude.{ℕ, nat_le, List, length, if◌then◌else◌}
use Rattle.kp_keeper.specs.Records.{Record, is_kept, with_record}
use Rattle.kp_keeper.specs.declared.keeper.Kept.{Kept}
use Rattle.kp_keeper.specs.declared.keeper.Kept.TheVariants.{Done, There, Full}

-- the most records that are kept
abbrev pub most_records : ℕ
most_records = 10000

-- the answer to a record that is to be kept beside these
abbrev pub put_answer : Record → List Record → Kept
put_answer r rs =
    if is_kept r.oid rs then There else if nat_le most_records (length rs) then Full most_records else Done

-- what is kept after that answer
abbrev pub after_put : Kept → Record → List Record → List Record
after_put Done r rs = with_record r rs
after_put There r rs = rs
after_put (Full n) r rs = rs
