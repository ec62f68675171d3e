-- How connections end, and who ends at the end of a step.
use Rattle.std.specs.Prelude.{ℕ, ◌-◌, List, [], ◌∷◌, nat_lt, Option, Some, None, if◌then◌else◌}
use Rattle.std.specs.Map.{keys_of}
use Rattle.ac_world.specs.declared.spreads.Spread.{Spread as SpreadOf}
use Rattle.ac_table.specs.declared.loads.Load.{Load}
use Rattle.ac_table.specs.Sums.{top_load}
use Rattle.ac_world.specs.Sums.{deliveries}
use Rattle.ac_world.specs.Worlds.{ended_of, actor_of, with_entry, without_entry}
use Rattle.hub_machine.specs.Limits.{most_deliveries, most_deliveries_weight}
use Rattle.hub_machine.specs.Faults.{Fault, Spread, ◌<|>◌, overrun}
use Rattle.hub_machine.specs.State.{State, is_there}

-- a connection names nothing any more
abbrev pub nameless : ℕ → State → State
nameless k s = record s { connections = without_entry k s.connections }

-- its actor goes, with all that it asserts and what it was to be told
abbrev pub departed : ℕ → State → State
departed k s = record s { world = ended_of (actor_of k) s.world }

-- it goes for a fault, of which its peer is still to be told
abbrev pub departed_for : ℕ → Fault → State → State
departed_for k f s = record (departed k s) { faults = with_entry k f s.faults }

abbrev pub closed : ℕ → State → State
closed k s = departed k (nameless k s)

abbrev pub failed : ℕ → Fault → State → State
failed k f s = departed_for k f (nameless k s)

abbrev pub failed_where : ℕ → Option Fault → State → State
failed_where k None s = s
failed_where k (Some f) s = failed k f s

-- ---- the end of a step: first those of whom more would be wanted or sent than may be, in the order of their events

-- a watcher goes, and nobody is to be told so
abbrev pub dismissed : ℕ → State → State
dismissed a s = record s { world = ended_of a s.world }

-- who isn't live any more doesn't end again, and who is always live doesn't end
abbrev pub spread_out : SpreadOf → State → State
spread_out x s =
    if nat_lt x.actor 9 then s else if nat_lt x.actor 17 then dismissed x.actor s
    else if is_there (x.actor - 16) s then failed (x.actor - 16) (Spread x.weight) s else s

abbrev pub all_spread_out : List SpreadOf → State → State
all_spread_out [] s = s
all_spread_out (x ∷ xs) s = all_spread_out xs (spread_out x s)

-- ---- then each live connection for which too much is held and waits, ascending

abbrev pub overrun_by : Load → Option Fault
overrun_by l = overrun most_deliveries 1 l.count <|> overrun most_deliveries_weight 2 l.weight

abbrev pub overrun_of : ℕ → State → Option Fault
overrun_of k s = if is_there k s then overrun_by (top_load (deliveries (actor_of k) s.world)) else None

abbrev pub all_overrun : List ℕ → State → State
all_overrun [] s = s
all_overrun (k ∷ ks) s = all_overrun ks (failed_where k (overrun_of k s) s)

abbrev pub each_overrun : State → State
each_overrun s = all_overrun (keys_of s.connections) s

abbrev pub finished : List SpreadOf → State → State
finished xs s = each_overrun (all_spread_out xs s)
