use Rattle.std.proofs.Common.{rules, false, [], sym, ap, ◌∙◌, subst}
use mathlib.Core.Option.{some}
use Rattle.turn_gate.specs.declared.view.Held.TheVariants as held
use Rattle.turn_gate.specs.Passes.{IsAsked}
use Rattle.turn_gate.specs.Table.{Us, giving}
use Rattle.turn_gate.proofs.Passing.{freed, given, ready_value, ready_mark, took_slot, took_value, took_mark}
use Rattle.turn_gate.proofs.Passing.{out_value, mark_found, value_asked, mark_asked}
use Rattle.turn_gate.proofs.gate.Gate.ask_at.Goals as goal

pub exchange-requires : goal.exchange-requires
exchange-requires g c = (
  search rules,
  took_slot g.T.Replayed.next c.args.self.now.table.shared.key.value c.args.pass.now.me c.seize.new.pass.me
      (some held.Mark) c.seize.ensures.took,
)

pub put-requires-clause-slot : goal.put-requires-clause-slot
put-requires-clause-slot g c = let m = c.args.pass.now.me in let key = c.args.self.now.table.shared.key.value in
    let k = took_value g.T.Replayed.next key m c.seize.new.pass.me (some held.Mark) c.in-Value.t c.seize.ensures.took
    c.in-Value.ensures.2 in
    (out_value g.T.Replayed.next key m c.seize.new.pass.me c.exchange.new.seat.me (some held.Mark) c.in-Value.t k
    c.exchange.ensures.3 c.requires.gate.1.named c.requires.gate.1.opened).slot

pub release-requires-clause-ready : goal.release-requires-clause-ready
release-requires-clause-ready g c = let m = c.args.pass.now.me in let key = c.args.self.now.table.shared.key.value in
    let k = took_value g.T.Replayed.next key m c.seize.new.pass.me (some held.Mark) c.in-Value.t c.seize.ensures.took
    c.in-Value.ensures.2 in
    let o = out_value g.T.Replayed.next key m c.seize.new.pass.me c.exchange.new.seat.me (some held.Mark) c.in-Value.t k
    c.exchange.ensures.3 c.requires.gate.1.named c.requires.gate.1.opened in
    ready_value g.T.Replayed.next key c.put.new.pass.me c.exchange.new.seat.me.0 c.in-Value.t c.put.ensures.put o.named
    o.has o.value

pub returns-in-Value-clause-gate : goal.returns-in-Value-clause-gate
returns-in-Value-clause-gate g c = let m = c.args.pass.now.me in let key = c.args.self.now.table.shared.key.value in
    let k = took_value g.T.Replayed.next key m c.seize.new.pass.me (some held.Mark) c.in-Value.t c.seize.ensures.took
    c.in-Value.ensures.2 in
    let o = out_value g.T.Replayed.next key m c.seize.new.pass.me c.exchange.new.seat.me (some held.Mark) c.in-Value.t k
    c.exchange.ensures.3 c.requires.gate.1.named c.requires.gate.1.opened in (
      search rules,
      freed key c.release.new.pass c.exchange.new.seat.me.0 _ (given c.put.new.pass.me c.release.new.pass.me
          c.exchange.new.seat.me.0 (held.Value c.in-Value.t) c.put.ensures.put c.release.ensures.gave) o.named o.opened,
    )

pub returns-in-Value-clause-asked : goal.returns-in-Value-clause-asked
returns-in-Value-clause-asked g c = let m = c.args.pass.now.me in let key = c.args.self.now.table.shared.key.value in
    let over = g.T.Replayed.over in let v = c.exchange.new.seat.me.0 in
    let k = took_value g.T.Replayed.next key m c.seize.new.pass.me (some held.Mark) c.in-Value.t c.seize.ensures.took
    c.in-Value.ensures.2 in
    let o = out_value g.T.Replayed.next key m c.seize.new.pass.me c.exchange.new.seat.me (some held.Mark) c.in-Value.t k
    c.exchange.ensures.3 c.requires.gate.1.named c.requires.gate.1.opened in
    let e = given c.put.new.pass.me c.release.new.pass.me v (held.Value c.in-Value.t) c.put.ensures.put
    c.release.ensures.gave ∙ ap (λ b. (giving v b, [])) o.kept
    ∙ ap (λ (z : Us g.row.T.Denot g.row.T-Step.Denot g.row.T-Reply.Denot). (giving z.0 false, []))
    c.exchange.ensures.3 in
    subst (λ b. IsAsked g.T.Replayed.next key over m.0 c.args.about b c.release.new.pass.me.0)
    (sym c.is_over-over.ensures)
    (value_asked g.T.Replayed.next key over c.args.about m c.seize.new.pass.me c.release.new.pass.me (some held.Mark)
    c.in-Value.t k c.requires.gate.1.opened e)

pub release-requires-in-Mark-clause-ready : goal.release-requires-in-Mark-clause-ready
release-requires-in-Mark-clause-ready g c = let m = c.args.pass.now.me in
    let key = c.args.self.now.table.shared.key.value in let w = c.exchange.new.seat.me in
    let o = mark_found g.T.Replayed.next key m c.seize.new.pass.me w (some held.Mark)
    (took_mark g.T.Replayed.next key m c.seize.new.pass.me (some held.Mark) c.seize.ensures.took c.in-Mark.ensures.2)
    c.exchange.ensures.3 c.requires.gate.1.named c.requires.gate.1.opened in
    ready_mark g.T.Replayed.next key w w.0 (λ i. (w.0, o.slot i)) o.named o.has

pub returns-in-Mark-clause-gate : goal.returns-in-Mark-clause-gate
returns-in-Mark-clause-gate g c = let m = c.args.pass.now.me in
    let key = c.args.self.now.table.shared.key.value in let w = c.exchange.new.seat.me in
    let o = mark_found g.T.Replayed.next key m c.seize.new.pass.me w (some held.Mark)
    (took_mark g.T.Replayed.next key m c.seize.new.pass.me (some held.Mark) c.seize.ensures.took c.in-Mark.ensures.2)
    c.exchange.ensures.3 c.requires.gate.1.named c.requires.gate.1.opened in (
      search rules,
      freed key c.release-in-Mark.new.pass w.0 _ (given w c.release-in-Mark.new.pass.me w.0 held.Mark
          (λ i. (w.0, o.slot i)) c.release-in-Mark.ensures.gave) o.named o.opened,
    )

pub returns-in-Mark-clause-asked : goal.returns-in-Mark-clause-asked
returns-in-Mark-clause-asked g c = let m = c.args.pass.now.me in
    let key = c.args.self.now.table.shared.key.value in let w = c.exchange.new.seat.me in
    let k = took_mark g.T.Replayed.next key m c.seize.new.pass.me (some held.Mark) c.seize.ensures.took
    c.in-Mark.ensures.2 in
    let o = mark_found g.T.Replayed.next key m c.seize.new.pass.me w (some held.Mark) k
    c.exchange.ensures.3 c.requires.gate.1.named c.requires.gate.1.opened in
    mark_asked g.T.Replayed.next key g.T.Replayed.over c.args.about m c.seize.new.pass.me w
    c.release-in-Mark.new.pass.me (some held.Mark) k c.exchange.ensures.3 (given w c.release-in-Mark.new.pass.me w.0
    held.Mark
    (λ i. (w.0, o.slot i)) c.release-in-Mark.ensures.gave)
