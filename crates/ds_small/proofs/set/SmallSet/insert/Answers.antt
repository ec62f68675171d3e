use Rattle.std.proofs.Common.{sym, ◌∙◌}
use Rattle.ds_small.proofs.Sets.{seen, one_again, first_comes}
use Rattle.ds_small.proofs.set.SmallSet.insert.Goals as goal

pub returns-then-eq-clause-members : goal.returns-then-eq-clause-members
returns-then-eq-clause-members c =
    one_again c.args.key c.in-One.there c.args.self.now (seen _ _ _ c.in-One.is c.self.view_is)
    (sym c.eq.ensures ∙ c.if-eq.true)

pub returns-in-Nothing-clause-members : goal.returns-in-Nothing-clause-members
returns-in-Nothing-clause-members c =
    first_comes c.args.key c.keep.new.kept c.args.self.now (seen _ _ _ c.in-Nothing.is c.self.view_is) c.keep.ensures
