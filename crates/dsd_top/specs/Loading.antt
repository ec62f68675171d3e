-- The run of a generated script, and the line that is told of it: how many holdings it leaves over all connections, and
-- the sum of the numbers that they capture.
use Rattle.std.specs.Prelude.{◌≡◌, ℕ, ◌-◌, ◌^◌, min, List, [], ◌∷◌, length, codes, unwrap_or}
use Rattle.std.specs.List.{flat_map, sum_by}
use Rattle.pv_value.specs.Plain.{Plain, sequence, then_more, no_more}
use Rattle.pv_words.specs.Words.{labelled, number, number_in}
use Rattle.pv_print.specs.Lines.{line}
use Rattle.rl_packet.specs.declared.holding.Holding.{Holding}
use Rattle.sc_events.specs.declared.inputs.Form.TheVariants as input
use Rattle.sc_load.specs.Loads.{load_bytes}
use Rattle.sc_report.specs.Reports.{ConnectionState, RanState}
use Rattle.sc_script.specs.Runs.{Cause}
use Rattle.sc_script.specs.declared.faults.ScriptFault.{ScriptFault}
use Rattle.sc_script.specs.declared.faults.ScriptFault.TheVariants.{NoMemory}
use Rattle.dsd_top.specs.Asked.{Loading}
use Rattle.dsd_top.specs.Makings.{LeavesSuch, StopsFor}

-- a number that is told stops at the greatest of 64 bits
abbrev pub told : ℕ → ℕ
told n = min n (2 ^ 64 - 1)

-- the number that a value captures, where it is a list of one below 2 ^ 63; else 0
abbrev pub captured : Plain → ℕ
captured (sequence (then_more v no_more)) = unwrap_or (number_in v) 0
captured v = 0

abbrev pub captured_by : List Holding → ℕ
captured_by hs = sum_by (λ h. captured h.value) hs

-- what the peers of all connections hold
abbrev pub all_held : List ConnectionState → List Holding
all_held cs = flat_map (λ c. c.held) cs

-- `<load start count held sum>`
abbrev pub load_value : Loading → RanState → Plain
load_value l ran =
    let held = all_held ran.connections in
    labelled (codes "load")
    (number l.start ∷ number l.count ∷ number (told (length held)) ∷ number (told (captured_by held)) ∷ [])

-- the line of the run of the script with so many items whose draws begin there
abbrev pub IsLoadLine : Loading → List ℕ → Type 0
IsLoadLine l text = LeavesSuch input.Binary (load_bytes l.start l.count) (λ ran. text ≡ line (load_value l ran))

-- that script stops for this cause
abbrev pub StopsLoad : Loading → Cause → Type 0
StopsLoad l c = StopsFor input.Binary (load_bytes l.start l.count) c

-- what stops a load is want of memory alone
abbrev pub StopsALoad : ScriptFault → Type 0
StopsALoad e = e ≡ NoMemory
