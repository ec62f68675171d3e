use Rattle.std.proofs.Common.{rules}
use mathlib.Core.Option.{some}
use Rattle.turn_gate.specs.declared.view.Held.TheVariants as held
use Rattle.turn_gate.specs.declared.gate.GateFault.TheVariants as fault
use Rattle.turn_gate.proofs.Passing.{took_slot, took_value, took_mark, mark_found, mark_given}
use Rattle.turn_gate.proofs.Passing.{seen_value, heard_still}
use Rattle.turn_gate.proofs.gate.Gate.commit_at.Goals as goal

pub exchange-requires : goal.exchange-requires
exchange-requires g c = (
  search rules,
  took_slot g.T.Replayed.next c.args.self.now.table.shared.key.value c.args.pass.now.me c.take-s.new.pass.me
      (some (held.Ask c.args.s)) c.take-s.ensures.took,
)

pub advance-requires-clause-heard : goal.advance-requires-clause-heard
advance-requires-clause-heard g c = let m = c.args.pass.now.me in let key = c.args.self.now.table.shared.key.value in
    seen_value g.T.Replayed.next key m c.take-s.new.pass.me c.exchange.new.seat.me (some (held.Ask c.args.s))
    c.in-Value.t c.args.heard.now (took_value g.T.Replayed.next key m c.take-s.new.pass.me (some (held.Ask c.args.s))
    c.in-Value.t c.take-s.ensures.took c.in-Value.ensures.2) c.exchange.ensures.3 c.requires.heard

pub give_up-requires-clause-mark : goal.give_up-requires-clause-mark
give_up-requires-clause-mark g c = let m = c.args.pass.now.me in let key = c.args.self.now.table.shared.key.value in
    mark_found g.T.Replayed.next key m c.take-s.new.pass.me c.exchange.new.seat.me (some (held.Ask c.args.s))
    (took_mark g.T.Replayed.next key m c.take-s.new.pass.me (some (held.Ask c.args.s)) c.take-s.ensures.took
    c.in-Mark.ensures.2) c.exchange.ensures.3 c.requires.gate.1.named c.requires.gate.1.opened

pub returns-in-Mark-clause-reply : goal.returns-in-Mark-clause-reply
returns-in-Mark-clause-reply g c = let m = c.args.pass.now.me in let key = c.args.self.now.table.shared.key.value in
    mark_given g.T.Replayed.next key m c.take-s.new.pass.me c.exchange.new.seat.me c.give_up.new.pass.me
    (some (held.Ask c.args.s)) (took_mark g.T.Replayed.next key m c.take-s.new.pass.me (some (held.Ask c.args.s))
    c.take-s.ensures.took c.in-Mark.ensures.2) c.exchange.ensures.3 c.give_up.ensures.lost

pub returns-in-Mark-clause-heard : goal.returns-in-Mark-clause-heard
returns-in-Mark-clause-heard g c = let m = c.args.pass.now.me in let key = c.args.self.now.table.shared.key.value in
    heard_still m.0 c.give_up.new.pass.me.0 fault.NoMemory c.args.heard.now
    (mark_given g.T.Replayed.next key m c.take-s.new.pass.me c.exchange.new.seat.me c.give_up.new.pass.me
    (some (held.Ask c.args.s)) (took_mark g.T.Replayed.next key m c.take-s.new.pass.me (some (held.Ask c.args.s))
    c.take-s.ensures.took c.in-Mark.ensures.2) c.exchange.ensures.3 c.give_up.ensures.lost) c.requires.heard
