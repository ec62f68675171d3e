use Rattle.hub_authority.proofs.Speaking.{dialects_stay, taken_turns_fix, refused_fix_none}
use Rattle.hub_authority.proofs.a_dialect_stays.Goals as goal

pub returns-clause-stays : goal.returns-clause-stays
returns-clause-stays c = dialects_stay

pub returns-clause-taken : goal.returns-clause-taken
returns-clause-taken c = taken_turns_fix

pub returns-clause-refused : goal.returns-clause-refused
returns-clause-refused c = refused_fix_none
