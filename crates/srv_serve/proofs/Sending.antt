-- What may go to another thread: the hub and its steps, by their parts. What they share has to be one that threads may
-- see at once.
use denote.RattleType.{RattleType}
use denote.Param.Send.{IsSend, IsSync, sendable}
use Rattle.std.proofs.Crossing.{crosses}
use Rattle.std.proofs.MapsCrossing as maps
use Rattle.std.proofs.MapsCrossingOver as sets
use Rattle.pv_value.proofs.Entries.TheLaws.TheKnot as value_knot
use Rattle.sr_caveat.proofs.CPat.TheLaws.TheKnot as pattern_knot
use Rattle.sr_caveat.proofs.Caveat.TheLaws.TheKnot as caveat_knot
use Rattle.pv_value.specs.contracts.Value as value
use Rattle.pv_value.specs.contracts.Entries as entries
use Rattle.sr_caveat.specs.contracts.CPat as pattern
use Rattle.sr_caveat.specs.contracts.Caveat as caveat
use Rattle.sr_caveat.specs.contracts.caps.Caveats as caveats
use Rattle.rl_packet.specs.contracts.packets.TurnEvents as turn_events
use Rattle.gk_sturdy.specs.contracts.bound.Binding as binding
use Rattle.gk_sturdy.specs.contracts.bound.Bindings as bindings
use Rattle.srv_session.specs.contracts.served.Served as served
use Rattle.srv_session.specs.contracts.served.ServedStep as served_step
use Rattle.ac_table.specs.contracts.batches.Row as row
use Rattle.ac_table.specs.contracts.table.LiveActor as live_actor
use Rattle.ac_table.specs.contracts.table.Table as table
use Rattle.ac_world.specs.contracts.gatekeeper.Gatekeeper as gatekeeper
use Rattle.ac_world.specs.contracts.held.Deliveries as deliveries
use Rattle.ds_space.specs.declared.space.Space as space
use Rattle.sr_pass.specs.declared.passing.Judge as judge
use Rattle.hub_machine.proofs.faults.Fault.TheSendSync as fault
use Rattle.ac_world.specs.contracts.readings.Readings as readings
use Rattle.ac_world.specs.contracts.dataspaces.Dataspace as dataspace
use Rattle.ac_watch.specs.contracts.watching.Watching as watching
use Rattle.ac_world.specs.contracts.watchers.Watcher as watcher
use Rattle.ac_world.specs.contracts.world.World as world
use Rattle.hub_core.specs.contracts.hub.Hub as hub
use Rattle.rl_ports.specs.contracts.ports.Ports as ports

pub value_send : IsSend value.the_row
value_send = search (crosses, value_knot.crosses, sendable) depth 60 fits 20000

pub value_sync : IsSync value.the_row
value_sync = search (crosses, value_knot.crosses, sendable) depth 60 fits 20000

pub entries_send : IsSend entries.the_row
entries_send = search (crosses, value_knot.crosses, sendable) depth 60 fits 20000

pub entries_sync : IsSync entries.the_row
entries_sync = search (crosses, value_knot.crosses, sendable) depth 60 fits 20000

pub pattern_send : IsSend pattern.the_row
pattern_send = search (crosses, pattern_knot.crosses, sendable, value_send, entries_send) depth 60 fits 20000

pub pattern_sync : IsSync pattern.the_row
pattern_sync = search (crosses, pattern_knot.crosses, sendable, value_sync, entries_sync) depth 60 fits 20000

pub caveat_send : IsSend caveat.the_row
caveat_send =
    search (
      crosses,
      caveat_knot.crosses,
      sendable,
      value_send,
      value_sync,
      entries_send,
      entries_sync,
      pattern_send,
      pattern_sync,
    ) depth 60 fits 20000

pub caveat_sync : IsSync caveat.the_row
caveat_sync =
    search (
      crosses,
      caveat_knot.crosses,
      sendable,
      value_send,
      value_sync,
      entries_send,
      entries_sync,
      pattern_send,
      pattern_sync,
    ) depth 60 fits 20000

pub caveats_send : IsSend caveats.the_row
caveats_send = search (crosses, sendable, caveat_send, caveat_sync) depth 60 fits 20000

pub caveats_sync : IsSync caveats.the_row
caveats_sync = search (crosses, sendable, caveat_send, caveat_sync) depth 60 fits 20000

pub turn_events_send : IsSend turn_events.the_row
turn_events_send = search (sendable, crosses, value_send) depth 60 fits 20000

pub binding_send : IsSend binding.the_row
binding_send = search (crosses, sendable, value_send, caveats_send) depth 60 fits 20000

pub served_step_send : IsSend served_step.the_row
served_step_send =
    search (sendable, crosses, value_send, caveats_send, turn_events_send, fault.the_field_send) depth 60 fits 20000

pub bindings_send : IsSend bindings.the_row
bindings_send = search (crosses, maps.crosses, sendable, value_send, binding_send) depth 60 fits 20000

pub row_send : IsSend row.the_row
row_send = search (crosses, maps.crosses, sendable, value_send) depth 60 fits 20000

pub live_actor_send : IsSend live_actor.the_row
live_actor_send = search (crosses, maps.crosses, sendable, value_send) depth 60 fits 20000

pub table_send : IsSend table.the_row
table_send = search (crosses, maps.crosses, sets.crosses, sendable, row_send, live_actor_send) depth 60 fits 20000

pub gatekeeper_send : IsSend gatekeeper.the_row
gatekeeper_send = search (crosses, maps.crosses, sendable, value_send, bindings_send) depth 60 fits 20000

pub deliveries_send : IsSend deliveries.the_row
deliveries_send = search (crosses, maps.crosses, sendable, value_send) depth 60 fits 20000

pub ports_send : IsSend ports.the_row
ports_send = search (crosses, maps.crosses, sendable, value_send, caveats_send) depth 60 fits 20000

pub readings_send : IsSend readings.the_row
readings_send = search (crosses, maps.crosses, sendable, value_send, caveats_send) depth 60 fits 20000

pub watching_send : IsSend watching.the_row
watching_send = search (crosses, maps.crosses, sendable, value_send) depth 60 fits 20000

pub watcher_send : IsSend watcher.the_row
watcher_send = search (crosses, sendable, watching_send) depth 60 fits 20000

module _ (S : RattleType) (s : space.Ghosts S.Denot) where
  pub dataspace_send : IsSend S → IsSend (dataspace.the_row S s)
  dataspace_send a = search (crosses, sendable) depth 60 fits 20000

module _ (S J B : RattleType) (s : space.Ghosts S.Denot) (j : judge.Ghosts J.Denot) where
  pub world_send : IsSend S → IsSend J → IsSend B → IsSend (world.the_row S J B s j)
  world_send a b c =
      search (
        crosses,
        maps.crosses,
        sendable,
        value_send,
        table_send,
        gatekeeper_send,
        deliveries_send,
        readings_send,
        dataspace_send,
        watcher_send,
      ) depth 60 fits 20000

  pub hub_send : IsSend S → IsSend J → IsSend B → IsSend (hub.the_row S J B s j)
  hub_send a b c = search (crosses, maps.crosses, sendable, world_send, ports_send) depth 60 fits 20000

  pub served_send : IsSend S → IsSend J → IsSend B → IsSend (served.the_row S J B s j)
  served_send a b c = search (crosses, sendable, hub_send) depth 60 fits 20000
