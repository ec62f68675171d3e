use Rattle.std.proofs.Common.{ap, sym}
use Rattle.ds_facts.specs.Keeping.{is_in}
use Rattle.ds_facts.proofs.Told.{list_tells, nothing_tells}
use Rattle.ds_facts.proofs.facts.Facts.near_entry.Goals as goal

pub returns-in_default-clause-near : goal.returns-in_default-clause-near
returns-in_default-clause-near c vs h =
    nothing_tells vs c.args.self.now c.args.entry.now h (λ v. ap (λ o. is_in o v) (sym c.in_default.ensures.value))

pub returns-clause-near : goal.returns-clause-near
returns-clause-near c vs h =
    list_tells vs c.args.self.now c.args.entry.now c.in-Some.list.now h (λ v. ap (λ o. is_in o v) c.in-Some.ensures.value)
