-- A connection of a load names one object alone: dataspace 1, its first, which is pinned.
use Rattle.std.proofs.Common.{◌≡◌, ◌||◌, [], ◌∷◌, filter}
use Rattle.rl_ports.specs.Ports.{PortsState, ExportTable, has_number, is_mentioned, swept}
use Rattle.hub_machine.specs.Machine.{actor_reference}

abbrev pub first_export : ExportTable
first_export = record { in_force = (0, actor_reference 1) ∷ []; next = 1 }

abbrev pub IsFirstAlone : PortsState → Type 0
IsFirstAlone p = (p.exports ≡ first_export) × (p.pinned ≡ 0 ∷ [])

-- which stays where exports are released
pub alone_swept : (p : PortsState) → IsFirstAlone p → IsFirstAlone (swept p)
alone_swept p alone = (
  (λ i. record (alone.0 i) {
    in_force = filter (λ e. has_number e.0 (alone.1 i) || is_mentioned e.0 p.notes) (alone.0 i).in_force;
  }),
  alone.1,
)
