use Rattle.pv_stream.proofs.Walking.{before}
use Rattle.pv_stream.proofs.walks.close.Goals as goal

pub arrive_at-requires-clause-at : goal.arrive_at-requires-clause-at
arrive_at-requires-clause-at c =
    before c.args.left.now c.args.place c.args.levels.now.items c.pop.new.self.items c.in-Some.level
    c.in-Some.ensures.items c.requires.at
