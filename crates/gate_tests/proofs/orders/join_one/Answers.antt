use Rattle.std.proofs.Common.{◌<◌, length, rules, sym, ◌∙◌}
use Rattle.turn_gate.specs.Gates.{view}
use Rattle.turn_gate.specs.Passes.{caller}
use Rattle.gate_tests.proofs.Moving.{other_at, others_less, among_less, none_by_join}
use Rattle.gate_tests.proofs.orders.join_one.Goals as goal

pub answer-requires : goal.answer-requires
answer-requires g c =
    let ps = c.args.others.now.items in
    let h : c.args.place < length ps = search rules in
    (other_at c.args.gate.now ps c.args.place c.remove-pass.result h c.remove-pass.ensures.value c.requires.others).0

pub join-requires-clause-other : goal.join-requires-clause-other
join-requires-clause-other g c = λ none.
    let ps = c.args.others.now.items in
    let h : c.args.place < length ps = search rules in
    (other_at c.args.gate.now ps c.args.place c.remove-pass.result h c.remove-pass.ensures.value c.requires.others).1
    (sym c.answer.ensures.same.name ∙ none)

pub returns-then-place-len-clause-of : goal.returns-then-place-len-clause-of
returns-then-place-len-clause-of g c =
    let ps = c.args.others.now.items in
    let h : c.args.place < length ps = search rules in record {
      first = c.join.ensures.gate;
      name = c.join.ensures.both.name ∙ c.requires.name;
      others = others_less c.args.gate.now ps c.remove-pass.new.self.items c.args.place c.remove-pass.ensures.items h
          c.requires.others;
    }

pub returns-then-place-len-clause-none_lost : goal.returns-then-place-len-clause-none_lost
returns-then-place-len-clause-none_lost g c =
    let ps = c.args.others.now.items in
    let qs = c.remove-pass.new.self.items in
    let p = c.remove-pass.result in
    let h : c.args.place < length ps = search rules in
    none_by_join (view c.args.first.now) (view c.join.new.pass) (caller (view c.answer.new.pass)) ps qs (view p).name
    c.join.ensures.both.kids c.join.ensures.both.joined c.answer.ensures.same.name
    (among_less ps qs c.args.place p c.remove-pass.ensures.items h c.remove-pass.ensures.value)
