use Rattle.std.proofs.Common.{◌≡◌, true, false, not, Bool}
use Rattle.ac_table.specs.Maps.{is_key}
use Rattle.ac_table.proofs.Members.{or_from, left_same, left_more}
use Rattle.ac_table.proofs.sets.find.Goals as goal

pub returns-then-not-added-clause-found : goal.returns-then-not-added-clause-found
returns-then-not-added-clause-found c = or_from c.args.number _ _ c.in_ok-added.ensures.updates.0

was_there : (a b : Bool) → a ≡ not b → a ≡ false → b ≡ true
was_there a true is none = cc
was_there a false is none = cc

was_not_there : (a b : Bool) → a ≡ not b → a ≡ true → b ≡ false
was_not_there a true is none = cc
was_not_there a false is none = cc

pub returns-then-not-added-clause-left : goal.returns-then-not-added-clause-left
returns-then-not-added-clause-left c =
    left_same c.args.number (is_key c.args.number c.args.found.now.keys) _
    (was_there _ _ c.in_ok-added.ensures.added c.if-not-added.true)

pub returns-clause-found : goal.returns-clause-found
returns-clause-found c = or_from c.args.number _ _ c.in_ok-added.ensures.updates.0

pub returns-clause-left : goal.returns-clause-left
returns-clause-left c =
    left_more c.args.number (is_key c.args.number c.args.found.now.keys) _ _
    (was_not_there _ _ c.in_ok-added.ensures.added c.if-not-added.false) c.in_ok-insert.ensures.updates.0
