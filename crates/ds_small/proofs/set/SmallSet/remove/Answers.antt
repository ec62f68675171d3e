use Rattle.std.proofs.Common.{sym, ◌∙◌}
use Rattle.ds_small.proofs.Sets.{seen, other_stays, one_goes}
use Rattle.ds_small.proofs.set.SmallSet.remove.Goals as goal

pub returns-then-eq-clause-members : goal.returns-then-eq-clause-members
returns-then-eq-clause-members c =
    one_goes c.args.key.now c.in-One.there c.keep.new.kept c.args.self.now
    (seen _ _ _ c.in-One.is c.self.view_is) c.keep.ensures (sym c.eq.ensures ∙ c.if-eq.true)

pub returns-else-eq-clause-members : goal.returns-else-eq-clause-members
returns-else-eq-clause-members c =
    other_stays c.args.key.now c.in-One.there c.args.self.now (seen _ _ _ c.in-One.is c.self.view_is)
    (sym c.eq.ensures ∙ c.if-eq.false)
