-- Authority: a packet that is taken does exactly what its events ask for at the connection's exports in force, as their
-- caveats let it pass, and these are its first object and what it was told of others, as long as that is mentioned by a
-- row that it has got or pinned. Syndicate Protocol, "capabilities".
use Rattle.std.specs.Prelude.{◌≡◌, ℕ, ◌++◌, List, Some}
use Rattle.std.specs.List.{flat_map}
use Rattle.ps_schema.specs.declared.Definition.{Definition}
use Rattle.pv_value.specs.Plain.{Plain}
use Rattle.ac_table.specs.Tables.{Actor, find_actor}
use Rattle.ac_world.specs.Worlds.{held_by, actor_of}
use Rattle.rl_packet.specs.declared.packets.Turn.{Turn as TurnRecord}
use Rattle.rl_packet.specs.Holding.{events_in}
use Rattle.rl_ports.specs.Ports.{PortsState}
use Rattle.hub_machine.specs.State.{State, opening, ports_of}
use Rattle.hub_machine.specs.Machine.{step}
use Rattle.hub_machine.specs.Replays.{replay, sent_to}
use Rattle.hub_machine.specs.declared.steps.Step.{Step}
use Rattle.hub_machine.specs.declared.steps.Step.TheVariants.{Packet}
use Rattle.hub_machine.specs.declared.steps.Reply.TheVariants.{Taken}
use Rattle.hub_laws.specs.Laws.{AreAllowed}
use Rattle.hub_laws.specs.Refusals.{of_the_live}
use Rattle.hub_laws.specs.Standing.{events_of}
use Rattle.hub_authority.specs.Asked.{rows_asked, rows_left, messages_asked, messages_in}
use Rattle.hub_authority.specs.Meant.{AreSentAs}
use Rattle.hub_authority.specs.Named.{told_from, first_from, AreItsOwn, AreInForce, AreAmongGiven}

-- from s to u: what the turn t of connection k, which had these ports, does
pub record DoesWhatIsAsked (k : ℕ) (ports : PortsState) (t : TurnRecord) (s u : State) : Type 0 where
  -- the rows are those that were there and aren't taken back, and then those that are asked for
  pub rows : u.world.table.rows ≡ of_the_live u (rows_left k ports t.events s.world.table.rows
      ++ rows_asked s.world.schema ports.exports k s.world.table.next t.events)
  -- to the messages that wait for a live actor come exactly those that are asked for
  pub messages : (b : ℕ) (x y : Actor) → find_actor b s.world.table.actors ≡ Some x
      → find_actor b u.world.table.actors ≡ Some y
      → messages_in (events_of y.inbox) ≡ messages_in
      (events_of x.inbox) ++ messages_asked s.world.schema ports.exports k b t.events

-- after each list of steps whose callers saw to their conditions
abbrev pub TakenPackets : Type 0
TakenPackets =
    (ds : List Definition) (steps : List Step) (k : ℕ) (t : TurnRecord) (ports : PortsState)
    → AreAllowed (opening ds) steps → ports_of k (replay ds steps) ≡ Some ports
    → (step (replay ds steps) (Packet k t)).reply ≡ Taken
    → DoesWhatIsAsked k ports t (replay ds steps) (step (replay ds steps) (Packet k t)).state

abbrev pub Exports : Type 0
Exports =
    (ds : List Definition) (k : ℕ) (steps : List Step) (ports : PortsState) → ports_of k (replay ds steps) ≡ Some ports
    → AreItsOwn ds k steps ports

-- of these are in force exactly its object 0, the references of others in what it has got, and those that are pinned
abbrev pub InForce : Type 0
InForce =
    (ds : List Definition) (k : ℕ) (steps : List Step) (ports : PortsState) → AreAllowed (opening ds) steps
    → ports_of k (replay ds steps) ≡ Some ports
    → (first : Plain) × (first_from k (opening ds) steps ≡ Some first)
    × AreInForce k first ports (held_by (actor_of k) (replay ds steps).world)

-- all that a live connection was sent means what was told: each number stands for one reference and is never given
-- again, and an export in force is that to which its number was given
abbrev pub Names : Type 0
Names =
    (ds : List Definition) (k : ℕ) (steps : List Step) (ports : PortsState) → AreAllowed (opening ds) steps
    → ports_of k (replay ds steps) ≡ Some ports
    → (given : List Plain) × AreAmongGiven given ports.exports
    × AreSentAs given k (events_of (told_from k (opening ds) steps)) (flat_map events_in (sent_to ds k steps))
