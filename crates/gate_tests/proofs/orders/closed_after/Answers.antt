use Rattle.std.proofs.Common.{rules, ◌∙◌}
use Rattle.turn_gate.specs.Gates.{view}
use Rattle.gate_tests.proofs.Moving.{none_yet, all_joined}
use Rattle.gate_tests.proofs.orders.closed_after.Goals as goal

pub loop-place-init : goal.loop-place-init
loop-place-init g c =
    (search rules, none_yet (view c.in-Ok.first) c.new-others.result.items c.in-Ok.ensures.first)

pub close-requires-clause-first : goal.close-requires-clause-first
close-requires-clause-first g c = let same = c.seen-seen.ensures.same.0.same in (
  same.name ∙ c.join_all.ensures.of.name,
  all_joined (view c.join_all.new.first) (view c.seen-seen.new.pass) c.join_all.new.others.items c.join_all.ensures.none
      same (c.join_all.ensures.none_lost c.loop-place.invariant.1),
)

pub loop-place-preserved : goal.loop-place-preserved
loop-place-preserved g c =
    let so = c.loop-place.invariant in (c.in_ok-make.ensures.of, c.in_ok-make.ensures.none_lost so.1)
