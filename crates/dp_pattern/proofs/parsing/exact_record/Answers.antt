use Rattle.std.proofs.Common.{◌≡◌, length, sym, ap, ◌∙◌}
use Rattle.dp_pattern.specs.Patterns.{Exactly, InRecord, group}
use Rattle.dp_pattern.specs.View.{listed_fields}
use Rattle.dp_pattern.proofs.Shapes.{counted}
use Rattle.dp_pattern.proofs.parsing.exact_record.Goals as goal

pub returns : goal.returns
returns c =
    let fs = listed_fields c.args.fields.items in
    let count = ap length c.as_slice.ensures.value ∙ sym (counted c.args.fields.items) in
    c.form.ensures ∙ (λ i. group (InRecord (c.in_ok-copy.ensures i) (Exactly (count i))) fs)
