use Rattle.std.proofs.Common.{◌+◌, List, arith, subst, sym}
use Rattle.pv_stream.specs.Walks.{IsAt}
use Rattle.pv_stream.specs.declared.walks.Level.{Level}
use Rattle.pv_stream.proofs.Walking.{opened}
use Rattle.pv_stream.proofs.walks.open.Goals as goal

pub returns : goal.returns
returns c = (
  omega arith,
  subst (λ (x : List Level). IsAt c.args.left.now (c.args.place + 1) x) (sym c.in_ok-push.ensures.items)
      (opened c.args.left.now c.args.place c.args.levels.now.items c.requires.at c.requires.within
      (omega (arith, c.if-len.false, c.len.ensures)) c.requires.compound),
)
