use Rattle.std.proofs.Common.{rules}
use Rattle.turn_gate.specs.declared.view.Held.TheVariants as held
use Rattle.turn_gate.proofs.Passing.{freed, given, ready_mark}
use Rattle.turn_gate.proofs.gate.Gate.give_up.Goals as goal

pub give-requires-clause-ready : goal.give-requires-clause-ready
give-requires-clause-ready g c = let m = c.args.pass.now.me in let o = c.requires.mark in
    ready_mark g.T.Replayed.next _ m m.0 (λ i. (m.0, o.slot i)) o.named o.has

pub returns-clause-gate : goal.returns-clause-gate
returns-clause-gate g c = let m = c.args.pass.now.me in let o = c.requires.mark in (
  search rules,
  freed _ c.give.new.pass m.0 _ (given m c.give.new.pass.me m.0 held.Mark (λ i. (m.0, o.slot i)) c.give.ensures.gave)
      o.named o.opened,
)

pub returns-clause-lost : goal.returns-clause-lost
returns-clause-lost g c = let m = c.args.pass.now.me in
    given m c.give.new.pass.me m.0 held.Mark (λ i. (m.0, c.requires.mark.slot i)) c.give.ensures.gave
