use Rattle.std.proofs.Common.{rules, [], ap, ◌∙◌}
use Rattle.turn_gate.specs.declared.view.Held.TheVariants as held
use Rattle.turn_gate.specs.Table.{giving}
use Rattle.turn_gate.proofs.Passing.{freed, given, ready_value}
use Rattle.turn_gate.proofs.gate.Gate.put_back.Goals as goal

pub give-requires-clause-ready : goal.give-requires-clause-ready
give-requires-clause-ready g c = let o = c.requires.out in
    ready_value g.T.Replayed.next _ c.put.new.pass.me c.args.pass.now.me.0 c.args.t c.put.ensures.put o.named o.has
    o.value

pub returns-clause-gate : goal.returns-clause-gate
returns-clause-gate g c = let o = c.requires.out in let v = c.args.pass.now.me.0 in (
  search rules,
  freed _ c.give.new.pass v _ (given c.put.new.pass.me c.give.new.pass.me v (held.Value c.args.t) c.put.ensures.put
      c.give.ensures.gave) o.named o.opened,
)

pub returns-clause-same : goal.returns-clause-same
returns-clause-same g c = let v = c.args.pass.now.me.0 in
    given c.put.new.pass.me c.give.new.pass.me v (held.Value c.args.t) c.put.ensures.put c.give.ensures.gave
    ∙ ap (λ b. (giving v b, [])) c.requires.out.kept
