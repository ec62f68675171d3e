-- A load's script is never bad, and no limit stops it.
use Rattle.std.specs.Prelude.{◌≡◌, ℕ, ◌≤◌, ◌⊎◌}
use Rattle.rl_stream.specs.Nexts.{Decider, Decides}
use Rattle.sc_events.specs.declared.inputs.Form.TheVariants.{Binary}
use Rattle.sc_load.specs.Limits.{most_items}
use Rattle.sc_load.specs.Loads.{load_bytes}
use Rattle.sc_script.specs.Runs.{Cause, limit, stops}
use Rattle.sc_script.specs.Scripts.{IsCourseOf}

-- where the course of a load's script stops, a limit is passed: each of its values is an event, none of them is bad
-- where it stands, and none gives a schema
abbrev pub LoadsStopForLimits : Type 0
LoadsStopForLimits =
    (start n : ℕ) → n ≤ most_items → (N : Decider) (c : Cause) → IsCourseOf N Binary (load_bytes start n) (stops c)
    → (w : ℕ) × (c ≡ limit w)

-- and it is one of two: too much is sent, or the numbers are used up. The script isn't too long, no more connections
-- come than may be live, and no drain is too long. So it is even where packets are told in another way than they stand
abbrev pub LoadsStopForTwoLimits : Type 0
LoadsStopForTwoLimits =
    (start n : ℕ) → n ≤ most_items → (N : Decider) (c : Cause) → IsCourseOf N Binary (load_bytes start n) (stops c)
    → (c ≡ limit 4) ⊎ (c ≡ limit 5)

-- where packets are told as they stand, it never stops
abbrev pub LoadsNeverStop : Type 0
LoadsNeverStop =
    (start n : ℕ) → n ≤ most_items → (N : Decider) → Decides N → (c : Cause)
    → IsCourseOf N Binary (load_bytes start n) (stops c) → ⊥
