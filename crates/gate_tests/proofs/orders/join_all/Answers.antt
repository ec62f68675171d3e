use Rattle.std.proofs.Common.{refl, ◌∙◌}
use Rattle.turn_gate.specs.Gates.{view}
use Rattle.turn_gate.specs.Passes.{caller}
use Rattle.gate_tests.proofs.Moving.{others_last, among_last, none_by_join, none_at_end}
use Rattle.gate_tests.proofs.orders.join_all.Goals as goal

pub join-requires-clause-gate : goal.join-requires-clause-gate
join-requires-clause-gate c =
    let so = c.loop-pass.invariant.0 in
    let parts = others_last c.args.gate.now c.loop-pass.others.items c.pop.new.self.items c.in-Some.pass
    c.in-Some.ensures.items so.others in (so.first, parts.1)

pub join-requires-clause-other : goal.join-requires-clause-other
join-requires-clause-other c =
    let parts = others_last c.args.gate.now c.loop-pass.others.items c.pop.new.self.items c.in-Some.pass
    c.in-Some.ensures.items c.loop-pass.invariant.0.others in parts.2

pub loop-pass-preserved : goal.loop-pass-preserved
loop-pass-preserved c =
    let so = c.loop-pass.invariant.0 in
    let ps = c.loop-pass.others.items in
    let qs = c.pop.new.self.items in
    let p = c.in-Some.pass in
    let both = c.join.ensures.both in
    let parts = others_last c.args.gate.now ps qs p c.in-Some.ensures.items so.others in (
      record { first = c.join.ensures.gate; name = both.name ∙ so.name; others = parts.0 },
      λ none. none_by_join (view c.loop-pass.first) (view c.join.new.pass) (caller (view p)) ps qs (view p).name
          both.kids both.joined refl (among_last ps qs p c.in-Some.ensures.items) (c.loop-pass.invariant.1 none),
    )

pub returns-clause-none_lost : goal.returns-clause-none_lost
returns-clause-none_lost c = λ none.
    none_at_end (view c.loop-pass.first) c.loop-pass.others.items c.pop.new.self.items c.in_default.ensures.items
    (c.loop-pass.invariant.1 none)
