use Rattle.std.proofs.Common.{Contains, sym, subst}
use Rattle.dsd_keep.specs.Undone.{action_statuses}
use Rattle.dsd_keep.proofs.Ended.{known}
use Rattle.dsd_keep.proofs.keeping.obey.Goals as goal

pub returns-in-Err-clause-known : goal.returns-in-Err-clause-known
returns-in-Err-clause-known g c =
    subst (Contains action_statuses) (sym c.tell_why.ensures.status)
    (known (g.K.Keeper.kept c.args.keeper.now) c.args.request.action c.in-Err.why c.in-Err.ensures.cause)
