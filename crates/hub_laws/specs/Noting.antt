-- What a connection's notes are: they say which of its exports the rows that it has got mention.
use Rattle.std.specs.Prelude.{◌≡◌, ℕ, List, Some, map}
use Rattle.ac_world.specs.Worlds.{held_by, actor_of}
use Rattle.ac_world.specs.declared.held.Held.{Held}
use Rattle.rl_ports.specs.Ports.{PortsState, ExportTable}
use Rattle.rl_wire.specs.Crossing.{numbers_out}
use Rattle.hub_machine.specs.State.{State, ports_of}

-- the numbers that a delivery mentions to connection k, which has these exports
abbrev pub note_of : ExportTable → ℕ → ℕ × Held → ℕ × List ℕ
note_of exports k e = (e.0, numbers_out exports k e.1.value)

-- a live connection's notes are exactly what the values of the rows mention that it has got, by its exports of now
abbrev pub NotesWhatItGot : ℕ → State → Type 0
NotesWhatItGot k s =
    (ports : PortsState) → ports_of k s ≡ Some ports
    → ports.notes ≡ map (note_of ports.exports k) (held_by (actor_of k) s.world)
