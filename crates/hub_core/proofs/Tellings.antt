-- A batch that is told in a state without the connection's names.
use Rattle.std.proofs.Common.{◌≡◌, ℕ, List, [], map, Option, Some, None, refl, sym, ap, ◌∙◌}
use Rattle.std.specs.Prelude.{option_and_then, unwrap_or}
use Rattle.std.specs.List.Sorted.{IsStrictlySortedBy}
use Rattle.std.specs.Map.{keys_of}
use Rattle.std.specs.Ordering.{nat_cmp}
use Rattle.ac_table.specs.declared.batches.Batch.{Batch}
use Rattle.ac_world.specs.Lemmas.Entries.{put_back}
use Rattle.rl_packet.specs.declared.packets.Packet.TheVariants as packet
use Rattle.rl_packet.specs.declared.packets.TurnEvent.{TurnEvent}
use Rattle.rl_packet.specs.declared.packets.Turn.{Turn as TurnRecord}
use Rattle.rl_packet.specs.declared.packets.Dialect.{Dialect}
use Rattle.rl_packet.specs.declared.packets.Dialect.TheVariants.{Newer}
use Rattle.rl_packet.specs.Packets.{spoken}
use Rattle.rl_ports.specs.declared.ports.PortsFault.{PortsFault}
use Rattle.rl_ports.specs.Ports.{PortsState}
use Rattle.rl_wire.specs.Crossing.{fault_out}
use Rattle.hub_machine.specs.declared.faults.Fault.{Fault}
use Rattle.hub_machine.specs.declared.steps.Reply.TheVariants as reply
use Rattle.hub_machine.specs.State.{State}
use Rattle.hub_machine.specs.Endings.{nameless}
use Rattle.hub_machine.specs.Machine.{sent_event, overrun_by, ends, packet_to}
use Rattle.hub_machine.specs.Machine.{told_unless, exports_after, names_after, telling_fault}
use Rattle.hub_machine.specs.Lemmas.Naming.{foreign_among, dialect_after}
use Rattle.hub_core.specs.Telling.{told_by}

pub told_nameless : (f : Option Fault) (k : ℕ) (ports : PortsState) (b : Batch) (s : State)
    → IsStrictlySortedBy nat_cmp (keys_of s.connections)
    → told_by f k ports b (nameless k s) ≡ told_unless f k ports b s
told_nameless (Some f) k ports b s ascend = refl
told_nameless None k ports b s ascend =
    ap (λ (es : List (ℕ × PortsState)). ends [] (record s { connections = es })
    (packet_to (exports_after k b ports) ports.dialect k b)) (put_back k _ s.connections ascend)

pub reply_told : (k : ℕ) (b : Batch) (ports new : PortsState) (s : State) (turn : TurnRecord) (sent : List TurnEvent)
    → turn ≡ spoken (unwrap_or new.dialect Newer) sent
    → sent ≡ map (sent_event (exports_after k b ports) k) b.events → new ≡ names_after k b ports
    → fault_out ports.exports (foreign_among k b.events) ≡ None
    → reply.Sent (packet.Turn turn) ≡ (told_by (telling_fault k b ports) k ports b s).reply
reply_told k b ports new s turn sent turn_is sent_is new_is free =
    ap (λ (t : TurnRecord). reply.Sent (packet.Turn t))
    (turn_is ∙ ap (spoken (unwrap_or new.dialect Newer)) sent_is
    ∙ ap (λ (d : Option Dialect). spoken (unwrap_or d Newer) (map (sent_event (exports_after k b ports) k) b.events))
    (ap (λ (p : PortsState). p.dialect) new_is ∙ dialect_after k b ports))
    ∙ sym (ap (λ (o : Option PortsFault). (told_by (option_and_then overrun_by o) k ports b s).reply) free)
