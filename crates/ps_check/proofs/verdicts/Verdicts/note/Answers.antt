use Rattle.std.proofs.Common.{ap, ◌∙◌}
use Rattle.ps_schema.specs.Conforms.{conforms}
use Rattle.ps_check.specs.Subjects.{seen, in_fields}
use Rattle.ps_schema.specs.Places.{name_of}
use Rattle.ps_check.proofs.verdicts.Verdicts.note.Goals as goal

pub returns-in-Whole : goal.returns-in-Whole
returns-in-Whole c ds h e = record {
  wholes =
      c.keep.ensures (λ i v. conforms ds (name_of ds i) v) h.wholes
      (e ∙ ap (λ s. conforms ds (name_of ds c.args.at) (seen s)) c.in-Whole.is);
  fields = h.fields;
}

pub returns-in-Fields : goal.returns-in-Fields
returns-in-Fields c ds h e = record {
  wholes = h.wholes;
  fields =
      c.keep-in-Fields.ensures (λ i v. conforms ds (name_of ds i) (in_fields v)) h.fields
      (e ∙ ap (λ s. conforms ds (name_of ds c.args.at) (seen s)) c.in-Fields.is);
}
