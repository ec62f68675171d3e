use Rattle.std.proofs.Common.{◌≡◌, IfSome, sym, subst}
use Rattle.ps_schema.specs.Conforms.{conforms}
use Rattle.ps_check.specs.Subjects.{seen, in_fields}
use Rattle.ps_schema.specs.Places.{name_of}
use Rattle.ps_check.proofs.verdicts.Verdicts.of.Goals as goal

pub returns-in-Whole : goal.returns-in-Whole
returns-in-Whole c ds h =
    subst (λ s. IfSome c.told.result (λ b. b ≡ conforms ds (name_of ds c.args.at) (seen s))) (sym c.in-Whole.is)
    (c.told.ensures (λ i v. conforms ds (name_of ds i) v) h.wholes)

pub returns-in-Fields : goal.returns-in-Fields
returns-in-Fields c ds h =
    subst (λ s. IfSome c.told-in-Fields.result (λ b. b ≡ conforms ds (name_of ds c.args.at) (seen s)))
    (sym c.in-Fields.is) (c.told-in-Fields.ensures (λ i v. conforms ds (name_of ds i) (in_fields v)) h.fields)
