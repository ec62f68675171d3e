-- What the parts of the proof promise one another, and what the hub's code rests on.
use Rattle.std.specs.Prelude.{◌≡◌, ℕ, ◌^◌, ◌<◌, ◌≤◌, List, false, Some, map}
use Rattle.std.specs.List.{AllByRecursion}
use Rattle.pv_value.specs.Plain.{Plain}
use Rattle.ps_schema.specs.declared.Definition.{Definition}
use Rattle.ac_table.specs.declared.batches.Batch.{Batch}
use Rattle.gk_sturdy.specs.declared.bound.Binding.{Binding}
use Rattle.ac_world.specs.declared.watched.Watched.{Watched}
use Rattle.ac_world.specs.Worlds.{binding, watching}
use Rattle.ac_world.specs.Turns.{turn}
use Rattle.ac_world.specs.declared.turns.Turned.TheVariants as turned
use Rattle.rl_packet.specs.declared.packets.TurnEvent.{TurnEvent}
use Rattle.rl_packet.specs.Wired.{IsTurnEvent}
use Rattle.rl_ports.specs.Ports.{PortsState, ExportTable, AreNumbered}
use Rattle.sr_caveat.specs.declared.caps.Cap.{Cap}
use Rattle.sr_caveat.specs.Caps.{cap_of, IsSound}
use Rattle.sr_pass.specs.Passing.{passed}
use Rattle.hub_machine.specs.State.{State}
use Rattle.hub_machine.specs.Admission.{Admitting, admission, admitted}
use Rattle.hub_machine.specs.Endings.{nameless, departed, dismissed}
use Rattle.hub_machine.specs.Machine.{is_barred, is_unwatchable, opened, accepted, exporting, sent_event}
use Rattle.hub_valid.specs.Validity.{Lived, lived, IsValid, IsValidEntry, IsValidAct, IsValidBatch, HoldsObjects}

-- what a reference's caveats let pass holds references to no other actors' objects than those that were live
abbrev pub PassedIsValid : Type 0
PassedIsValid =
    (ds : List Definition) (n : Lived) (x v w : Plain) (c : Cap) → cap_of x ≡ Some c → HoldsObjects n v
    → passed ds c.caveats v ≡ Some w → HoldsObjects n w

-- a reference is bound, which the machine takes
abbrev pub BindingIsValid : Type 0
BindingIsValid =
    (b : Binding) (s : State) → IsSound b.cap → is_barred b s ≡ false → IsValid s
    → IsValid (record s { world = binding b s.world })

-- a watcher begins, which the machine takes
abbrev pub WatchingIsValid : Type 0
WatchingIsValid =
    (x : Watched) (s : State) → is_unwatchable x s ≡ false → IsValid s
    → IsValid (record s { world = watching x s.world })

-- a connection comes, whose first object is a system actor's
abbrev pub OpenedIsValid : Type 0
OpenedIsValid =
    (space : ℕ) (s : State) → space ≤ 8 → s.world.opened < 2 ^ 31 → IsValid s → IsValid (opened space s)

-- what the events of a packet do names objects
abbrev pub ActsAreValid : Type 0
ActsAreValid =
    (k : ℕ) (ports : PortsState) (es : List TurnEvent) (x : Admitting) (s : State) → IsValid s
    → IsValidEntry (lived s.world) (k, ports) → AllByRecursion IsTurnEvent es → admission k ports s.world es ≡ admitted x
    → AllByRecursion (IsValidAct (lived s.world)) x.acts

abbrev pub AcceptedIsValid : Type 0
AcceptedIsValid =
    (k : ℕ) (ports : PortsState) (es : List TurnEvent) (x : Admitting) (s : State) → IsValid s
    → IsValidEntry (lived s.world) (k, ports) → AllByRecursion IsTurnEvent es → admission k ports s.world es ≡ admitted x
    → IsValid (accepted k x s)

abbrev pub NamelessIsValid : Type 0
NamelessIsValid = (k : ℕ) (s : State) → IsValid s → IsValid (nameless k s)

abbrev pub DepartedIsValid : Type 0
DepartedIsValid = (k : ℕ) (s : State) → IsValid s → IsValid (departed k s)

abbrev pub DismissedIsValid : Type 0
DismissedIsValid = (a : ℕ) (s : State) → IsValid s → IsValid (dismissed a s)

abbrev pub TurnedIsValid : Type 0
TurnedIsValid = (a : ℕ) (s : State) → IsValid s → IsValid (record s { world = (turn a s.world).world })

-- the batch that a connection's turn takes
abbrev pub TakenIsValid : Type 0
TakenIsValid =
    (a : ℕ) (s : State) (b : Batch) → IsValid s → (turn a s.world).turned ≡ turned.Taken b
    → IsValidBatch (lived s.world) s.world.table.next b

abbrev pub ExportingIsValid : Type 0
ExportingIsValid =
    (k : ℕ) (b : Batch) (ports : PortsState) (s : State) → IsValid s → IsValidEntry (lived s.world) (k, ports)
    → IsValidBatch (lived s.world) s.world.table.next b → IsValid (exporting k b ports s)

-- what a connection is told of such a batch may stand in a packet
abbrev pub SentIsSound : Type 0
SentIsSound =
    (n : Lived) (next k : ℕ) (exports : ExportTable) (b : Batch) → IsValidBatch n next b → next ≤ 2 ^ 63
    → AreNumbered exports → AllByRecursion IsTurnEvent (map (sent_event exports k) b.events)
