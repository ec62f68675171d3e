use Rattle.std.proofs.Common.{◌≡◌, ◌+◌, ◌∙◌}
use Rattle.turn_gate.specs.Gates.{view}
use Rattle.gate_tests.proofs.Moving.{others_more, none_by_split}
use Rattle.gate_tests.proofs.orders.split_one.Goals as goal

pub returns-in-Ok-push-clause-of : goal.returns-in-Ok-push-clause-of
returns-in-Ok-push-clause-of g c =
    let v = view c.args.first.now in
    let name : (view c.answer.new.pass).name ≡ v.kids + 1 = c.answer.ensures.same.name ∙ c.in-Ok.ensures.new.name in
    record {
      first = c.in-Ok.ensures.gate.0;
      name = c.in-Ok.ensures.same.name ∙ c.requires.name;
      others = others_more c.args.gate.now c.args.others.now.items c.push.new.self.items c.answer.new.pass v.kids
          c.in-Ok-push.ensures.items c.requires.others c.answer.ensures.gate name;
    }

pub returns-in-Ok-push-clause-none_lost : goal.returns-in-Ok-push-clause-none_lost
returns-in-Ok-push-clause-none_lost g c = none_by_split (view c.args.first.now) (view c.split.new.pass)
    c.args.others.now.items c.push.new.self.items c.answer.new.pass c.in-Ok-push.ensures.items c.in-Ok.ensures.same
    (c.answer.ensures.same.name ∙ c.in-Ok.ensures.new.name)
