-- A watcher that may begin leaves a valid state, and begins before anybody comes.
use Rattle.std.proofs.Common.{sym, ◌∙◌}
use Rattle.hub_machine.specs.State.{State}
use Rattle.hub_core.proofs.Judging.{judged}
use Rattle.hub_core.proofs.Keeping.{kept_watched}
use Rattle.hub_core.proofs.Watching.{may_watch, free_inside}
use Rattle.hub_core.proofs.hub.Hub.watch.Goals as goal

pub watch-requires-clause-first : goal.watch-requires-clause-first
watch-requires-clause-first g c =
    let s : State = record {
      world = c.self.inside.world;
      connections = c.self.inside.connections.entries;
      faults = c.self.inside.faults.entries;
      stopped = c.self.inside.stopped;
    } in
    (may_watch c.args.watched s (free_inside c.args.watched s c.args.self c.self.view_is
    (sym c.in_ok-is_unwatchable.ensures ∙ c.if-branch.false))).0

pub watch-requires-clause-few : goal.watch-requires-clause-few
watch-requires-clause-few g c =
    let s : State = record {
      world = c.self.inside.world;
      connections = c.self.inside.connections.entries;
      faults = c.self.inside.faults.entries;
      stopped = c.self.inside.stopped;
    } in
    (may_watch c.args.watched s (free_inside c.args.watched s c.args.self c.self.view_is
    (sym c.in_ok-is_unwatchable.ensures ∙ c.if-branch.false))).1

pub watch-requires-clause-judged : goal.watch-requires-clause-judged
watch-requires-clause-judged g c =
    let s : State = record {
      world = c.self.inside.world;
      connections = c.self.inside.connections.entries;
      faults = c.self.inside.faults.entries;
      stopped = c.self.inside.stopped;
    } in
    judged c.args.watched s (free_inside c.args.watched s c.args.self c.self.view_is
    (sym c.in_ok-is_unwatchable.ensures ∙ c.if-branch.false))

pub invariant_of-hub : goal.invariant_of-hub
invariant_of-hub g c =
    let s : State = record {
      world = c.self.inside.world;
      connections = c.self.inside.connections.entries;
      faults = c.self.inside.faults.entries;
      stopped = c.self.inside.stopped;
    } in
    kept_watched c.args.watched c.self.inside.unchecked s c.in_ok-watch.field-0
    (free_inside c.args.watched s c.args.self c.self.view_is
    (sym c.in_ok-is_unwatchable.ensures ∙ c.if-branch.false))
    c.in_ok-watch.ensures c.self.invariant
