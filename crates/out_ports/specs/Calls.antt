-- The calls of an object in memory: which are to fail, how many there were, and how often it failed.
use Rattle.std.specs.Prelude.{ℕ, Bool, ◌==◌, List, if◌then◌else◌}
use Rattle.std.specs.List.{list_any}
use Rattle.out_ports.specs.Ports.{raised}

-- the numbers of the calls that are to fail, how many calls there were, and how many faults
pub record CallCounts : Type 0 where
  pub failing : List ℕ
  pub made : ℕ
  pub faults : ℕ

-- before the first call
abbrev pub before_calls : List ℕ → CallCounts
before_calls failing = record { failing = failing; made = 0; faults = 0 }

-- whether the next call is to fail: its number, counted from 0, is listed
abbrev pub is_next_listed : CallCounts → Bool
is_next_listed calls = list_any (λ k. k == calls.made) calls.failing

-- after one fault more
abbrev pub after_fault : CallCounts → CallCounts
after_fault calls = record calls { faults = raised 1 calls.faults }

-- after one call more, which failed or didn't
abbrev pub after_call : Bool → CallCounts → CallCounts
after_call failed calls = record {
  failing = calls.failing;
  made = raised 1 calls.made;
  faults = if failed then raised 1 calls.faults else calls.faults;
}
