-- What connections hold by the packets that they were sent.
use Rattle.std.specs.Prelude.{◌≡◌, ℕ, ◌≤◌, List, map, true, is_some}
use Rattle.std.specs.List.{AllByRecursion}
use Rattle.std.specs.List.Sorted.{IsPermutation}
use Rattle.rl_packet.specs.Holding.{held, holdings_in_order}
use Rattle.rl_packet.specs.declared.holding.Holding.{Holding}
use Rattle.ac_table.specs.Tables.{is_live}
use Rattle.ac_world.specs.Worlds.{Deliveries, held_by, actor_of}
use Rattle.ac_world.specs.declared.held.Held.{Held}
use Rattle.ps_schema.specs.declared.Definition.{Definition}
use Rattle.rl_ports.specs.Ports.{ExportTable, place_of}
use Rattle.rl_wire.specs.Crossing.{crossed_out, foreign_in}
use Rattle.hub_machine.specs.Replays.{replay, sent_to, IsSettled}
use Rattle.hub_machine.specs.declared.steps.Step.{Step}
use Rattle.hub_laws.specs.Scratch.{Pair, scratch, exports_of}

-- a delivery as connection k knows it, which has these exports
abbrev pub holding_of : ExportTable → ℕ → ℕ × Held → Holding
holding_of exports k e = record { oid = e.1.entity; handle = e.0; value = crossed_out exports k e.1.value }

-- the references in a delivery, those to its own objects excepted, are exported: each has a number of its own
abbrev pub HasNumbers : ExportTable → ℕ → ℕ × Held → Type 0
HasNumbers exports k e = AllByRecursion (λ r. is_some (place_of r exports.in_force) ≡ true) (foreign_in k e.1.value)

-- holdings are what was got, as the connection knows it by these exports, each reference by a number of its own
abbrev pub AreWhatItGot : ExportTable → ℕ → Deliveries → List Holding → Type 0
AreWhatItGot exports k got holdings =
    (holdings ≡ holdings_in_order (map (holding_of exports k) got)) × AllByRecursion (HasNumbers exports k) got

-- a live connection holds exactly what it has got, by its exports of now
abbrev pub HoldsWhatItGot : List Definition → ℕ → List Step → Type 0
HoldsWhatItGot ds k steps =
    is_live (actor_of k) (replay ds steps).world.table ≡ true
    → AreWhatItGot (exports_of k (replay ds steps)) k (held_by (actor_of k) (replay ds steps).world)
    (held (sent_to ds k steps))

abbrev pub pair_of : Holding → Pair
pair_of h = record { oid = h.oid; value = h.value }

-- where nothing is pending, what it holds is what it holds from scratch, each pair as often
abbrev pub HoldsFromScratch : List Definition → ℕ → List Step → Type 0
HoldsFromScratch ds k steps =
    1 ≤ k → IsSettled (replay ds steps) → is_live (actor_of k) (replay ds steps).world.table ≡ true
    → IsPermutation (map pair_of (held (sent_to ds k steps))) (scratch k (replay ds steps))
