use Rattle.std.proofs.Common.{◌+◌, ◌-◌, ◌*◌, length}
use Rattle.ps_schema.specs.Schemas.{leads}
use Rattle.ps_schema.specs.Seen.{Walked, unseen}
use Rattle.ps_schema.proofs.ways.leads_back.Given as goal

abbrev pub invariant-names : goal.invariant-names
invariant-names l = Walked l.defs (leads l.defs l.name) l.at l.seen.items

abbrev pub decreases-names : goal.decreases-names
decreases-names l = 2 * unseen l.defs l.seen.items + (length l.seen.items - l.at)
