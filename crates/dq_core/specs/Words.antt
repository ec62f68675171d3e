-- What the client looks for in a server's values. Syndicate Protocol, "wire references" and "gatekeeper".
use Rattle.std.specs.Prelude.{ℕ, zero, Bool, false, List, Option, Some, None, codes, if◌then◌else◌}
use Rattle.pv_value.specs.Plain.{Plain, symbol, record_of, sequence, embedded, Plains, no_more, then_more}
use Rattle.pv_words.specs.Words.{is_word, number_in}

abbrev pub oid_behind : Option ℕ → Plain → Option ℕ
oid_behind (Some zero) oid = number_in oid
oid_behind kind oid = None

-- the n of `[0 n]`
abbrev pub pair_oid : Plain → Option ℕ
pair_oid (sequence (then_more kind (then_more oid no_more))) = oid_behind (number_in kind) oid
pair_oid v = None

-- the n of `#:[0 n]`, which names an object of who sends it
abbrev pub own_oid : Plain → Option ℕ
own_oid (embedded pair) = pair_oid pair
own_oid v = None

abbrev pub accepted_by : List ℕ → Plains → Option ℕ
accepted_by word (then_more reference no_more) = if is_word word (codes "accepted") then own_oid reference else None
accepted_by word fields = None

-- the n of `<accepted #:[0 n]>`
abbrev pub accepted_oid : Plain → Option ℕ
accepted_oid (record_of (symbol word) fields) = accepted_by word fields
accepted_oid v = None

-- `<rejected ..>`, whatever its fields
abbrev pub is_rejected : Plain → Bool
is_rejected (record_of (symbol word) fields) = is_word word (codes "rejected")
is_rejected v = false
