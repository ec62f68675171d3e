use Rattle.std.proofs.Common.{refl, arith}
use Rattle.pv_stream.proofs.Walking.{before, fewer, then_filled, then_arrived}
use Rattle.pv_stream.proofs.walks.+arrive_at.Goals as goal

pub arrive_at-requires : goal.arrive_at-requires
arrive_at-requires t c =
    let left = c.args.left.now in
    let old = c.args.levels.now.items in
    let ls = c.pop.new.self.items in (
      omega (arith, fewer left c.args.from old ls c.in-Some.level c.in-Some.ensures.items c.requires.at, c.decreases),
      (
        before left c.args.from old ls c.in-Some.level c.in-Some.ensures.items c.requires.at,
        then_filled left c.args.from old ls c.in-Some.level c.in-Some.ensures.items c.requires.at c.args.to
            c.requires.found c.if-level.true,
      ),
    )

pub returns : goal.returns
returns t c = (
  refl,
  then_arrived c.args.left.now c.args.from c.args.levels.now.items c.pop.new.self.items c.in-Some.level
      c.in-Some.ensures.items c.requires.at c.args.to c.push.new.self.items c.requires.found c.if-level.false
      c.in_ok-push.ensures.items,
)
