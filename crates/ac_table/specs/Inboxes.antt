-- What an inbox keeps of the batches that wait.
use Rattle.std.specs.Prelude.{◌≡◌, ◌≢◌, ℕ, ◌+◌, ◌==◌, Bool, nat_lt, List, length, Some, unwrap_or, if◌then◌else◌}
use Rattle.ac_table.specs.Maps.{value_at}
use Rattle.ac_table.specs.Sums.{Load, nothing, both, sums_of, load_of_batch, load_if_from}
use Rattle.ac_table.specs.Tables.{Batch}

-- what is kept of a sender
abbrev pub sent_by : ℕ → List (ℕ × Load) → Load
sent_by a es = unwrap_or (value_at a es) nothing

-- one sender has a load more
abbrev pub AddsAt : ℕ → Load → List (ℕ × Load) → List (ℕ × Load) → Type 0
AddsAt a l less more = (q : ℕ) → sent_by q more ≡ both (sent_by q less) (if a == q then l else nothing)

-- each entry is of something
abbrev pub KeepsSome : List (ℕ × Load) → Type 0
KeepsSome es = (a : ℕ) → value_at a es ≢ Some nothing

-- the sums of what waits, and of what does of each sender; a sender of which nothing waits has no entry
pub record IsLoaded (bs : List Batch) (total : Load) (senders : List (ℕ × Load)) : Type 0 where
  pub all : total ≡ sums_of load_of_batch bs
  pub each : (a : ℕ) → sent_by a senders ≡ sums_of (load_if_from a) bs
  pub kept : KeepsSome senders

-- a number of batches changes as the length of an inbox does
abbrev pub CountsOn : List Batch → List Batch → ℕ → ℕ → Type 0
CountsOn old new n m = m + length old ≡ n + length new

-- whether a batch waits
abbrev pub is_busy : List Batch → Bool
is_busy bs = nat_lt 0 (length bs)
