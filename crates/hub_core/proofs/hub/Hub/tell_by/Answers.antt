-- What is told of a valid batch may be sent, and what it exports leaves a valid state.
use Rattle.std.proofs.Common.{◌≡◌, Option, subst, sym, ap, ◌∙◌}
use Rattle.std.specs.Prelude.{IfOk, unwrap_or}
use Rattle.std.specs.List.{AllByRecursion}
use Rattle.ac_world.specs.Worlds.{with_entry}
use Rattle.rl_packet.specs.declared.packets.Dialect.{Dialect}
use Rattle.rl_packet.specs.declared.packets.Dialect.TheVariants.{Newer}
use Rattle.rl_packet.specs.Packets.{spoken}
use Rattle.rl_packet.specs.Wired.{IsTurnEvent}
use Rattle.rl_ports.specs.Ports.{PortsState}
use Rattle.hub_machine.specs.Machine.{exports_after}
use Rattle.hub_machine.specs.declared.steps.Reply.{Reply}
use Rattle.hub_valid.specs.Validity.{lived, AreValid}
use Rattle.hub_valid.specs.Lemmas.Crossed.{sent_is_sound}
use Rattle.hub_valid.specs.Lemmas.Hubs.{exporting_is_valid}
use Rattle.hub_core.proofs.Tellings.{reply_told}
use Rattle.hub_core.proofs.hub.Hub.tell_by.Goals as goal

pub name-requires-clause-valid : goal.name-requires-clause-valid
name-requires-clause-valid g c = λ valid.
    subst (λ (p : PortsState). AreValid c.args.self.world (with_entry c.args.connection p c.args.self.connections))
    (sym c.in-Ok.ensures.names)
    (exporting_is_valid c.args.connection c.args.batch c.args.ports c.args.self valid c.requires.entry
    c.requires.batch)

pub from_vec-requires : goal.from_vec-requires
from_vec-requires g c =
    subst (AllByRecursion IsTurnEvent) (sym c.in-Ok.ensures.sent)
    (sent_is_sound (lived c.args.self.world) c.args.self.world.table.next c.args.connection
    (exports_after c.args.connection c.args.batch c.args.ports) c.args.batch c.requires.batch c.requires.next
    c.in-Ok.ensures.numbered)

pub returns-in_ok-hub-in-Ok-clause-reply : goal.returns-in_ok-hub-in-Ok-clause-reply
returns-in_ok-hub-in-Ok-clause-reply g c =
    let dialect = c.unwrap_or-dialect.ensures ∙ ap (λ (d : Option Dialect). unwrap_or d Newer) c.dialect.ensures in
    subst (λ (r : Reply). IfOk c.ends.result (λ done. done.1 ≡ r))
    (reply_told c.args.connection c.args.batch c.args.ports c.all_to_send.new.ports c.args.self c.of-turn.result
    c.in-Ok.sent.items (c.of-turn.ensures ∙ (λ i. spoken (dialect i) (c.from_vec.ensures i))) c.in-Ok.ensures.sent
    c.in-Ok.ensures.names c.in-Ok.ensures.free)
    c.ends.ensures.reply
